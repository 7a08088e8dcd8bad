-- Values of slots that no variable uses are not looked at.
-- Assumes nothing.
use mathlib.Core.Path.{◌≡◌, refl, sym, ap, ap₂, ◌∙◌}
use mathlib.Core.Bool.{Bool, true, false, cond, not, ◌||◌}
use mathlib.Core.Logic.{inl, inr}
use mathlib.Core.List.{List}
use Prim.Native.Nat.{ℕ, ◌%◌, ◌<◌}
use native.Mathlib.Omega.{arith}
use lib.Dec.{eqb, ltb}
use lib.ListN.{length, get_or, length-append, get_or-append, get_or-eq_default}
use borrow.Author.Tests.{lt-ltb, le-ltb}
use Rattle.ops.specs.Fits.{fits}
use Rattle.table.specs.declared.words.Term.{Term}
use Rattle.table.specs.Terms.{terms, term_at}
use Rattle.table.specs.Faults.{is_variable, refuse_unless}
use Rattle.table.specs.Admission.{refused}
use Rattle.table.proofs.Scans.{scan-same}
use Rattle.setting.specs.declared.cells.Cell.{Cell}
use Rattle.setting.specs.Cells.{cell_at, cell_count}
use Rattle.setting.specs.Check.{variable_fault, check_cells, check}
use Rattle.setting.specs.Interpretation.{interpret}
use Rattle.setting.specs.Laws.{OneValue, OneUsedValues, UnusedUnchecked, MoreValues}

-- a slot of one value, in both rows or in neither
same-inside : (values values' : List ℕ) (slot : ℕ) → OneValue values values' slot → ltb slot (length values) ≡ ltb slot (length values')
same-inside values values' slot (inl (a, b)) = le-ltb slot (length values) a ∙ sym (le-ltb slot (length values') b)
same-inside values values' slot (inr (a, b, e)) = lt-ltb slot (length values) a ∙ sym (lt-ltb slot (length values') b)

same_number : (values values' : List ℕ) (slot : ℕ) → OneValue values values' slot → get_or values slot 0 ≡ get_or values' slot 0
same_number values values' slot (inl (a, b)) = get_or-eq_default values 0 a ∙ sym (get_or-eq_default values' 0 b)
same_number values values' slot (inr (a, b, e)) = e

variable_same : (values values' : List ℕ) (x : Term) → (is_variable x ≡ true → OneValue values values' x.p) → variable_fault values x ≡ variable_fault values' x
variable_same values values' x one = go (is_variable x) one
  where
    go : (v : Bool) → (v ≡ true → OneValue values values' x.p)
        → refuse_unless 12 (not v || ltb x.p (length values)) (refuse_unless 13 (not v || fits x.sort.n (get_or values x.p 0)) 0)
        ≡ refuse_unless 12 (not v || ltb x.p (length values')) (refuse_unless 13 (not v || fits x.sort.n (get_or values' x.p 0)) 0)
    go true h = ap₂ (λ a b. refuse_unless 12 a (refuse_unless 13 (fits x.sort.n b) 0)) (same-inside values values' x.p (h refl)) (same_number values values' x.p (h refl))
    go false h = refl

module _ (w values values' : List ℕ) (one : OneUsedValues w values values') where
  -- the check of cells in any form
  pub cells_same : (cells : ℕ → Cell) (count : ℕ) → check_cells w values cells count ≡ check_cells w values' cells count
  cells_same cells count =
      scan-same (λ k. variable_fault values (term_at w k)) (λ k. variable_fault values' (term_at w k)) refl (terms w)
      (λ k b. variable_same values values' (term_at w k) (one k b))

  -- and what a used slot holds
  pub input-same : (look : ℕ → ℕ → ℕ → ℕ) (k : ℕ) → k < terms w → is_variable (term_at w k) ≡ true → interpret values look (term_at w k).p ≡ interpret values' look (term_at w k).p
  input-same look k b v = ap (λ n. record { num = n; cell = λ j. look (term_at w k).p j n }) (same_number values values' (term_at w k).p (one k b v))

pub unused_unchecked : UnusedUnchecked
unfolding check
unused_unchecked w values values' cells one = ap (cond (not (eqb (length cells % 3) 0)) (refused 11 0)) (cells_same w values values' one (cell_at cells) (cell_count cells))

pub more-values : MoreValues
more-values w values more inside k b v =
    let here : (term_at w k).p < length values = inside k b v in
    inr (here, rw length-append (omega arith), sym (get_or-append values more 0 (term_at w k).p here))
