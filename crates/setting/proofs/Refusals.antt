-- By which numbers a setting is refused.
-- Assumes nothing.
use mathlib.Core.Path.{◌≡◌, refl}
use mathlib.Core.Bool.{true, not, ◌&&◌, ◌||◌}
use mathlib.Core.List.{List}
use Prim.Native.Nat.{ℕ, ◌%◌}
use Prim.{tt}
use native.Mathlib.Omega.{arith}
use lib.Dec.{eqb, ltb}
use lib.ListN.{length, get_or}
use Rattle.ops.specs.Fits.{fits}
use Rattle.table.specs.declared.words.Term.{Term}
use Rattle.table.specs.Answers.{Acceptance, accepted}
use Rattle.table.specs.Terms.{terms, term_at, array}
use Rattle.table.specs.Faults.{is_variable}
use Rattle.table.specs.Admission.{refused}
use Rattle.table.specs.Refusals.{between, RefusedBy}
use Rattle.table.proofs.Refusals.{wider, Fault, refuse_by, scan_by, either_of}
use Rattle.table.proofs.Refusals.Fault.{none}
use Rattle.setting.specs.declared.cells.Cell.{Cell}
use Rattle.setting.specs.Cells.{cell_at, cell_count}
use Rattle.setting.specs.Arrays.{slot_sort}
use Rattle.setting.specs.Check.{variable_fault, cell_fault, check_cells, check}
use Rattle.setting.specs.Laws.{CheckNumbers, CellNumbers}

variable_by : (values : List ℕ) (x : Term) → Fault (between 12 15) (variable_fault values x)
variable_by values x =
    refuse_by 12 refl (not (is_variable x) || ltb x.p (length values))
    (refuse_by 13 refl (not (is_variable x) || fits x.sort.n (get_or values x.p 0)) none)

cell_by : (w : List ℕ) (c : Cell) → Fault (between 12 15) (cell_fault w c)
cell_by w c =
    let s = slot_sort w c.slot in
    refuse_by 14 refl (array s) (refuse_by 15 refl (fits s.m c.index && fits s.n c.value) none)

-- What holds of Accepted and of every refusal by 12 to 15 holds of the check of cells in any form
module _ (Q : Acceptance → Type 0) (admitted : Q accepted) where
  pub cells_by : ((number place : ℕ) → between 12 15 number ≡ true → Q (refused number place)) → (w values : List ℕ) (cells : ℕ → Cell) (count : ℕ) → Q (check_cells w values cells count)
  cells_by by w values cells count =
      scan_by (between 12 15) Q by (λ k. variable_fault values (term_at w k)) (λ k. variable_by values (term_at w k)) (terms w) 0
      (scan_by (between 12 15) Q by (λ k. cell_fault w (cells k)) (λ k. cell_by w (cells k)) count 0 admitted)

  -- and by 11 of that of a row of numbers
  pub check_by : ((number place : ℕ) → between 11 15 number ≡ true → Q (refused number place)) → (w values cells : List ℕ) → Q (check w values cells)
  unfolding check
  check_by by w values cells = either_of Q (not (eqb (length cells % 3) 0)) (by 11 0 refl) (cells_by (λ number place e. by number place (wider 12 11 15 15 number (omega arith) (omega arith) e)) w values (cell_at cells) (cell_count cells))

pub check-numbers : CheckNumbers
check-numbers w values cells = check_by (RefusedBy (between 11 15)) tt (λ number place e. e) w values cells

pub cell-numbers : CellNumbers
cell-numbers w values cells count = cells_by (RefusedBy (between 12 15)) tt (λ number place e. e) w values cells count
