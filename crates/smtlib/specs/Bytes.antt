-- Texts as bytes.
-- Assumes nothing.
use Rattle.std.specs.Prelude.{Bool, true, false, cond, ◌&&◌, List, [], ◌∷◌, ◌++◌, ℕ, zero, suc, ◌-◌, eqb, ltb, length, take, drop}
use Prim.Native.String as S
use Prim.Native.String.{String}
use Prim.Native.Char.{code}

infixr 60 ◌⧺◌
-- one text and then another
abbrev pub ◌⧺◌ : List ℕ → List ℕ → List ℕ
x ⧺ y = x ++ y

-- the bytes of a text
abbrev pub bytes : String → List ℕ
bytes S.[] = []
bytes (S.◌∷◌ c s) = code c ∷ bytes s

-- one after the other, for the numbers below n
unfoldable pub each : {A : Type 0} → (ℕ → List A) → ℕ → List A
each line zero = []
each line (suc n) = each line n ++ line n

-- the bytes from one place to another
abbrev pub part : List ℕ → ℕ → ℕ → List ℕ
part text from to = take (to - from) (drop from text)

unfoldable pub same_bytes : List ℕ → List ℕ → Bool
same_bytes [] [] = true
same_bytes [] (b ∷ y) = false
same_bytes (a ∷ x) [] = false
same_bytes (a ∷ x) (b ∷ y) = eqb a b && same_bytes x y

-- the place of a word among others, their count where it is none of them
unfoldable pub place_in : List (List ℕ) → List ℕ → ℕ
place_in [] w = 0
place_in (x ∷ xs) w =
    let rest = suc (place_in xs w) in
    cond (same_bytes x w) 0 rest

abbrev pub is_in : List (List ℕ) → List ℕ → Bool
is_in ws w = ltb (place_in ws w) (length ws)

-- words that stand one after the other in a text, by the places where each ends
unfoldable pub cuts : List ℕ → ℕ → List ℕ → List (List ℕ)
cuts all from [] = []
cuts all from (to ∷ ends) = part all from to ∷ cuts all to ends
