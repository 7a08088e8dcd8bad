-- Cells as a row of numbers, three a cell: slot, index, value. Of two cells with one slot and index the earlier counts.
-- Assumes nothing.
use Rattle.std.specs.Prelude.{Bool, cond, not, ◌%◌, ◌&&◌, List, ℕ, zero, suc, ◌+◌, ◌*◌, ◌/◌, eqb, length, get_or}
use Rattle.setting.specs.declared.cells.Cell.{Cell}

-- cell k of a row of numbers, and their count
abbrev pub cell_at : List ℕ → ℕ → Cell
cell_at cells k = record { slot = get_or cells (k * 3) 0; index = get_or cells (k * 3 + 1) 0; value = get_or cells (k * 3 + 2) 0 }

abbrev pub cell_count : List ℕ → ℕ
cell_count cells = length cells / 3

-- its length is no multiple of three
abbrev pub is_cut : List ℕ → Bool
is_cut cells = not (eqb (length cells % 3) 0)

abbrev pub matches : Cell → ℕ → ℕ → Bool
matches c slot index = eqb c.slot slot && eqb c.index index

-- the value of the earliest of left cells, from at on, with this slot and index; else the other
unfoldable pub look_from : (ℕ → Cell) → ℕ → ℕ → ℕ → ℕ → ℕ → ℕ
look_from cells zero at slot index other = other
look_from cells (suc left) at slot index other =
    let rest = look_from cells left (suc at) slot index other in
    cond (matches (cells at) slot index) (cells at).value rest

-- what a row of numbers answers
abbrev pub look : List ℕ → ℕ → ℕ → ℕ → ℕ
look cells slot index other = look_from (cell_at cells) (cell_count cells) 0 slot index other
