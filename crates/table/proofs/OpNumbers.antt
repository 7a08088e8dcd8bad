-- A property of just one operator is a test of the operator's number.
-- Assumes nothing.
use mathlib.Core.Path.{◌≡◌, sym, ◌∙◌}
use mathlib.Core.Bool.{Bool, true, false, not, ◌&&◌}
use mathlib.Core.List.{List, [], ◌∷◌}
use Prim.Native.Nat.{ℕ, zero, suc}
use lib.Dec.{eqb, eqb-zero-suc, eqb-suc-zero, eqb-suc-suc}
use lib.ListN.{get_or}
use borrow.Author.Tests.{not-true}
use Rattle.ops.specs.declared.Op.{Op}
use Rattle.ops.specs.declared.Op.TheVariants.{Unknown}
use Rattle.ops.specs.Numbers.{ops, op_of}
use Rattle.ops.proofs.Booleans.{never, and_parts}

module _ {A : Type 0} (f : A → Bool) where
  -- f is true of none of a list; of its number k alone
  abbrev none : List A → Bool
  none [] = true
  none (x ∷ l) = not (f x) && none l

  abbrev pub only : List A → ℕ → Bool
  only [] k = false
  only (x ∷ l) zero = f x && none l
  only (x ∷ l) (suc k) = not (f x) && only l k

  module _ (d : A) (past : f d ≡ false) where
    none_at : (l : List A) → none l ≡ true → (n : ℕ) → f (get_or l n d) ≡ false
    none_at [] h n = past
    none_at (x ∷ l) h zero = not-true (f x) (and_parts (not (f x)) (none l) h).0
    none_at (x ∷ l) h (suc n) = none_at l (and_parts (not (f x)) (none l) h).1 n

    only_at : (l : List A) (k : ℕ) → only l k ≡ true → (n : ℕ) → f (get_or l n d) ≡ eqb n k
    only_at [] k h n = never h
    only_at (x ∷ l) zero h zero = (and_parts (f x) (none l) h).0
    only_at (x ∷ l) zero h (suc n) = none_at l (and_parts (f x) (none l) h).1 n ∙ sym (eqb-suc-zero n)
    only_at (x ∷ l) (suc k) h zero = not-true (f x) (and_parts (not (f x)) (only l k) h).0 ∙ sym (eqb-zero-suc k)
    only_at (x ∷ l) (suc k) h (suc n) = only_at l k (and_parts (not (f x)) (only l k) h).1 n ∙ sym (eqb-suc-suc n k)

-- the number of the only operator that f is true of
pub number_of : (f : Op → Bool) (k : ℕ) → only f ops k ≡ true → f Unknown ≡ false → (n : ℕ) → eqb n k ≡ f (op_of n)
number_of f k h past n = sym (only_at f Unknown past ops k h n)
