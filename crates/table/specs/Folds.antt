-- Lists and numbers, one after the other: a list made element by element; tests of every element, of any number, of the first.
-- Assumes nothing.
use Rattle.std.specs.Prelude.{Bool, true, false, cond, ◌&&◌, ◌||◌, List, [], ◌∷◌, ◌++◌, ℕ, zero, suc}

-- each element from those before it and its number
unfoldable pub fold : {A : Type 0} → (List A → ℕ → A) → ℕ → List A
fold step zero = []
fold step (suc k) = fold step k ++ (step (fold step k) k ∷ [])

-- every element of a list passes a test
unfoldable pub every : {A : Type 0} → (A → Bool) → List A → Bool
every test [] = true
every test (x ∷ xs) = test x && every test xs

-- a test is true of some number below k
unfoldable pub any_below : ℕ → (ℕ → Bool) → Bool
any_below zero f = false
any_below (suc k) f = any_below k f || f k

-- the first of left numbers, from at on, of which f is true; the number past them where there is none
unfoldable pub first_from : (ℕ → Bool) → ℕ → ℕ → ℕ
first_from f zero at = at
first_from f (suc left) at =
    let rest = first_from f left (suc at) in
    cond (f at) at rest
