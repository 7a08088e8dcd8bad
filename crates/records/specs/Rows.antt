-- Cells as a row of records, each of slot, index and value: what they answer, and the same cells as a row of numbers.
-- Assumes nothing.
use Rattle.std.specs.Prelude.{List, [], ◌∷◌, ℕ, length, get_or}
use Rattle.setting.specs.declared.cells.Cell.{Cell}
use Rattle.setting.specs.Cells.{look_from}

-- cell k of a row; past its end one of zeros
abbrev pub record_at : List Cell → ℕ → Cell
record_at cells k = get_or cells k (record { slot = 0; index = 0; value = 0 })

-- what a row of records answers: the earliest cell with this slot and index, else the other
abbrev pub look : List Cell → ℕ → ℕ → ℕ → ℕ
look cells slot index other = look_from (record_at cells) (length cells) 0 slot index other

-- the row laid flat: three numbers a cell
unfoldable pub flattened : List Cell → List ℕ
flattened [] = []
flattened (c ∷ cells) = c.slot ∷ c.index ∷ c.value ∷ flattened cells
