-- What is proved of the check of a setting, as named statements. The proofs are in proofs/.
-- Assumes nothing.
use Rattle.std.specs.Prelude.{◌≡◌, true, ◌⊎◌, List, ◌++◌, ℕ, ◌≤◌, ◌<◌, length, get_or}
use Rattle.table.specs.Terms.{terms, term_at}
use Rattle.table.specs.Faults.{is_variable}
use Rattle.table.specs.Refusals.{between, RefusedBy}
use Rattle.setting.specs.declared.cells.Cell.{Cell}
use Rattle.setting.specs.Check.{check_cells, check}

-- A setting is refused by 11 to 15 alone; by 11 only as a row of numbers.
abbrev pub CheckNumbers : Type 0
CheckNumbers = (w values cells : List ℕ) → RefusedBy (between 11 15) (check w values cells)

abbrev pub CellNumbers : Type 0
CellNumbers = (w values : List ℕ) (cells : ℕ → Cell) (count : ℕ) → RefusedBy (between 12 15) (check_cells w values cells count)

-- Values of slots that no variable uses are not looked at.

-- a slot is outside both rows, or inside both with one value
abbrev pub OneValue : List ℕ → List ℕ → ℕ → Type 0
OneValue values values' slot =
    ((length values ≤ slot) × (length values' ≤ slot))
    ⊎ ((slot < length values) × (slot < length values') × (get_or values slot 0 ≡ get_or values' slot 0))

-- so is every slot that a variable of the table uses
abbrev pub OneUsedValues : List ℕ → List ℕ → List ℕ → Type 0
OneUsedValues w values values' = (k : ℕ) → k < terms w → is_variable (term_at w k) ≡ true → OneValue values values' (term_at w k).p

abbrev pub UnusedUnchecked : Type 0
UnusedUnchecked = (w values values' cells : List ℕ) → OneUsedValues w values values' → check w values cells ≡ check w values' cells

-- Numbers after those of the used slots change nothing.
abbrev pub MoreValues : Type 0
MoreValues =
    (w values more : List ℕ) → ((k : ℕ) → k < terms w → is_variable (term_at w k) ≡ true → (term_at w k).p < length values) → OneUsedValues w values (values ++ more)
