-- What refuses a setting: paper 01, "Refused because of the input", 11 to 15.
-- Assumes nothing.
use Rattle.std.specs.Prelude.{Bool, cond, not, ◌&&◌, ◌||◌, List, ℕ, ltb, length, get_or}
use Rattle.ops.specs.Fits.{fits}
use Rattle.table.specs.declared.words.Term.{Term}
use Rattle.table.specs.Answers.{Acceptance, accepted}
use Rattle.table.specs.Terms.{terms, term_at, array}
use Rattle.table.specs.Faults.{is_variable, refuse_unless}
use Rattle.table.specs.Admission.{refused, scan}
use Rattle.setting.specs.declared.cells.Cell.{Cell}
use Rattle.setting.specs.Cells.{cell_at, cell_count, is_cut}
use Rattle.setting.specs.Arrays.{slot_sort}

-- of a variable: 12 slot outside the value row, 13 value too wide (Boolean over 1, array by its n); 0 where neither
abbrev pub variable_fault : List ℕ → Term → ℕ
variable_fault values x =
    refuse_unless 12 (not (is_variable x) || ltb x.p (length values)) (refuse_unless 13 (not (is_variable x) || fits x.sort.n (get_or values x.p 0)) 0)

-- of a cell: 14 slot of no array variable in the table, 15 index or value too wide; 0 where neither
abbrev pub cell_fault : List ℕ → Cell → ℕ
cell_fault w c =
    let sort = slot_sort w c.slot in
    refuse_unless 14 (array sort) (refuse_unless 15 (fits sort.m c.index && fits sort.n c.value) 0)

-- by ascending variable term, place its number, 12 and 13; then by ascending cell, place its number, 14 and 15
abbrev pub check_cells : List ℕ → List ℕ → (ℕ → Cell) → ℕ → Acceptance
check_cells w values cells count = scan (λ k. variable_fault values (term_at w k)) (terms w) 0 (scan (λ k. cell_fault w (cells k)) count 0 accepted)

-- 11 cell row not a multiple of three (place 0); then the rest
abbrev pub check_by : Bool → List ℕ → List ℕ → (ℕ → Cell) → ℕ → Acceptance
check_by cut w values cells count = cond cut (refused 11 0) (check_cells w values cells count)

unfoldable pub check : List ℕ → List ℕ → List ℕ → Acceptance
check w values cells = check_by (is_cut cells) w values (cell_at cells) (cell_count cells)
