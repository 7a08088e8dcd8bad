-- The latest array variable of a slot, looked for from the last term on.
-- Assumes nothing.
use mathlib.Core.Path.{◌≡◌, refl, sym, ap, ◌∙◌}
use mathlib.Core.Bool.{Bool, true, false, ◌&&◌}
use mathlib.Core.List.{List}
use Prim.Native.Nat.{ℕ, zero, suc, ◌-◌, ◌≤◌, ◌<◌}
use native.Mathlib.Omega.{arith}
use lib.Dec.{eqb}
use Rattle.table.specs.declared.words.Sort.{Sort}
use Rattle.table.specs.declared.words.Term.{Term}
use Rattle.table.specs.Terms.{term_at, sort_at}
use Rattle.setting.specs.Arrays.{array_variable, array_entry, entry_sort}

abbrev pub of_slot : ℕ → Term → Bool
of_slot slot x = array_variable x && eqb x.p slot

module _ (w : List ℕ) (slot : ℕ) where
  module _ (k : ℕ) (x : Term) (is : x ≡ term_at w k) where
    test : (b : Bool) → of_slot slot x ≡ b → of_slot slot (term_at w k) ≡ b
    test b e = sym (ap (of_slot slot) is) ∙ e

  pub entry_here : (k : ℕ) (x : Term) → 0 < k → x ≡ term_at w (k - 1) → of_slot slot x ≡ true → (s : Sort) → s ≡ sort_at w (k - 1) → s ≡ entry_sort w (array_entry w k slot)
  unfolding array_entry
  entry_here zero x b is e s h = absurd (omega arith)
  entry_here (suc k) x b is e s h =
      let same : suc k - 1 ≡ k = omega arith in
      rw (test k x (is ∙ ap (term_at w) same) true e) (h ∙ ap (sort_at w) same)

  pub entry_on : (k : ℕ) (x : Term) → 0 < k → x ≡ term_at w (k - 1) → of_slot slot x ≡ false → array_entry w k slot ≡ array_entry w (k - 1) slot
  unfolding array_entry
  entry_on zero x b is e = absurd (omega arith)
  entry_on (suc k) x b is e =
      let same : suc k - 1 ≡ k = omega arith in
      rw (test k x (is ∙ ap (term_at w) same) false e) (ap (λ (n : ℕ). array_entry w n slot) (sym same))

  pub entry_none : (k : ℕ) → k ≤ 0 → record { m = 0; n = 0 } ≡ entry_sort w (array_entry w k slot)
  unfolding array_entry
  entry_none zero b = refl
  entry_none (suc k) b = absurd (omega arith)
