-- Agreement on the unmarked inputs, from equal values and equal lookups.
-- Assumes nothing.
use mathlib.Core.Path.{◌≡◌}
use mathlib.Core.Bool.{true, false, not}
use Prim.Native.Nat.{ℕ, ◌^◌, ◌<◌}
use native.Mathlib.Omega.{arith}
use lib.Dec.{eqb, ltb}
use lib.ListN.{get_or}
use borrow.Author.Tests.{eqb-true, ltb-true, ne_eqb, not-false}
use Rattle.table.specs.Terms.{terms, term_at, sort_at, scalar, array}
use Rattle.table.specs.Faults.{is_variable}
use Rattle.table.specs.Folds.{any_below}
use Rattle.table.proofs.Searches.{none_of-any}
use Rattle.setting.specs.Agreement.{differ_at, AgreementMade, AgreementComputed}

pub agreement_made : AgreementMade
agreement_made w marked values look values' look' scalars arrays k b v u =
    record { num = λ s. scalars k b v u s; cell = λ a j c. arrays k b v u a j c }

pub agreement_computed : AgreementComputed
agreement_computed w marked values look values' look' same =
    agreement_made w marked values look values' look'
    (λ k b v u s. not-differ (by_scalar k b v u s))
    (λ k b v u a j c. not-differ (none_of-any (2 ^ (sort_at w k).m) _ (by-array k b v u a) j c))
  where
    at : (k : ℕ) → k < terms w → differ_at w marked values look values' look' k ≡ false
    at k b = none_of-any (terms w) _ same k b

    not-differ : {x y : ℕ} → not (eqb x y) ≡ false → x ≡ y
    not-differ {x} {y} h = eqb-true x y (not-false (eqb x y) h)

    by_scalar : (k : ℕ) → k < terms w → is_variable (term_at w k) ≡ true → marked (term_at w k) ≡ false → scalar (sort_at w k) ≡ true
        → not (eqb (get_or values (term_at w k).p 0) (get_or values' (term_at w k).p 0)) ≡ false
    by_scalar k b v u s = rw (v, u, s) at (at k b)

    no-scalar : (m : ℕ) → ltb 0 m ≡ true → eqb m 0 ≡ false
    no-scalar m a = ne_eqb m 0 (λ z. let p : 0 < m = ltb-true 0 m a in omega arith)

    by-array : (k : ℕ) → k < terms w → is_variable (term_at w k) ≡ true → marked (term_at w k) ≡ false → array (sort_at w k) ≡ true
        → any_below (2 ^ (sort_at w k).m) (λ j. not (eqb (look (term_at w k).p j (get_or values (term_at w k).p 0)) (look' (term_at w k).p j (get_or values' (term_at w k).p 0)))) ≡ false
    by-array k b v u a = rw (v, u, no-scalar (sort_at w k).m a) at (at k b)
