-- A row with some numbers marked.
-- Assumes nothing.
use mathlib.Core.Path.{◌≡◌, refl, sym, ap, subst}
use mathlib.Core.Bool.{Bool, true, false, cond, ◌&&◌}
use mathlib.Core.List.{List, [], ◌∷◌}
use mathlib.Core.Logic.{◌⊎◌, inl, inr, ⊎_elim}
use Prim.Native.Nat.{ℕ, zero, suc, ◌≤◌, ◌<◌}
use native.Mathlib.Nat.{not-suc-le-zero, le_of_suc-le-suc}
use lib.Dec.{ltb}
use lib.ListN.{length, get_or, set, replicate, length-set}
use borrow.Author.Tests.{ltb-false}
use Rattle.ops.proofs.Booleans.{and_parts}
use Rattle.explain.specs.Ways.{marked, on_way}

-- As the code marks it

pub marked_in : (on : Bool) (k : ℕ) (row : List ℕ) → (on && ltb k (length row)) ≡ true → set row k 1 ≡ marked on k row
marked_in on k row h = sym (ap (λ (b : Bool). cond b (set row k 1) row) (and_parts on (ltb k (length row)) h).0)

set_past : (row : List ℕ) (k : ℕ) → length row ≤ k → row ≡ set row k 1
set_past [] k h = refl
set_past (x ∷ row) zero h = absurd (not-suc-le-zero h)
set_past (x ∷ row) (suc k) h = ap (λ (l : List ℕ). x ∷ l) (set_past row k (le_of_suc-le-suc h))

pub marked_out : (on : Bool) (k : ℕ) (row : List ℕ) → (on && ltb k (length row)) ≡ false → row ≡ marked on k row
marked_out true k row h = set_past row k (ltb-false k (length row) h)
marked_out false k row h = refl

-- What is marked

pub zeros : (n k : ℕ) → ◌≡◌ {A = ℕ} (get_or (replicate n 0) k 0) 0
zeros zero k = refl
zeros (suc n) zero = refl
zeros (suc n) (suc k) = zeros n k

-- a mark is the one that is set, or was there
set_one : (l : List ℕ) (k i : ℕ) → on_way (set l k 1) i ≡ true → (i ≡ k) ⊎ (on_way l i ≡ true)
set_one [] k i h = inr h
set_one (x ∷ l) zero zero h = inl refl
set_one (x ∷ l) zero (suc i) h = inr h
set_one (x ∷ l) (suc k) zero h = inr h
set_one (x ∷ l) (suc k) (suc i) h = ⊎_elim (λ e. inl (ap suc e)) inr (set_one l k i h)

keep-set : (l : List ℕ) (k i : ℕ) → on_way l i ≡ true → on_way (set l k 1) i ≡ true
keep-set [] k i h = h
keep-set (x ∷ l) zero zero h = refl
keep-set (x ∷ l) zero (suc i) h = h
keep-set (x ∷ l) (suc k) zero h = h
keep-set (x ∷ l) (suc k) (suc i) h = keep-set l k i h

hit_set : (l : List ℕ) (k : ℕ) → k < length l → on_way (set l k 1) k ≡ true
hit_set [] k b = absurd (not-suc-le-zero b)
hit_set (x ∷ l) zero b = refl
hit_set (x ∷ l) (suc k) b = hit_set l k (le_of_suc-le-suc b)

module _ (on : Bool) (k : ℕ) (row : List ℕ) where
  pub keep-marked : (i : ℕ) → on_way row i ≡ true → on_way (marked on k row) i ≡ true
  keep-marked i h = go on
    where
      go : (z : Bool) → on_way (cond z (set row k 1) row) i ≡ true
      go true = keep-set row k i h
      go false = h

  pub hit_marked : on ≡ true → k < length row → on_way (marked on k row) k ≡ true
  hit_marked o b = subst (λ (z : Bool). on_way (cond z (set row k 1) row) k ≡ true) (sym o) (hit_set row k b)

  -- a mark is new, where on, or was there
  pub old_marked : (i : ℕ) → on_way (marked on k row) i ≡ true → ((on ≡ true) × (i ≡ k)) ⊎ (on_way row i ≡ true)
  old_marked i = go on refl
    where
      go : (z : Bool) → on ≡ z → on_way (cond z (set row k 1) row) i ≡ true → ((on ≡ true) × (i ≡ k)) ⊎ (on_way row i ≡ true)
      go true e h = ⊎_elim (λ same. inl (e, same)) inr (set_one row k i h)
      go false e h = inr h

  pub length_marked : length (marked on k row) ≡ length row
  length_marked = go on
    where
      go : (z : Bool) → length (cond z (set row k 1) row) ≡ length row
      go true = length-set row k 1
      go false = refl
