-- The line by which a slot is marked or kept, for who asks why.
-- Assumes nothing.
use Rattle.std.specs.Prelude.{cond, List, ℕ, ltb}
use Rattle.table.specs.Folds.{first_from}
use Rattle.sheets.specs.declared.lines.Line.{Line}
use Rattle.sheets.specs.Marks.{line_at, line_count, speaks, mark, keep}

-- what is told of a line that a sheet does not have
abbrev pub no_line : Line
no_line = record { kind = 0; lowest = 0; highest = 0 }

-- the first line of a kind that names the slot; the count of lines where there is none
abbrev pub first_of : List ℕ → ℕ → ℕ → ℕ
first_of sheet kind slot = first_from (λ k. speaks kind slot (line_at sheet k)) (line_count sheet) 0

-- of the mark lines that name the slot the first, else of the keep lines; the count of lines where none names it
abbrev pub deciding : List ℕ → ℕ → ℕ
deciding sheet slot = cond (ltb (first_of sheet mark slot) (line_count sheet)) (first_of sheet mark slot) (first_of sheet keep slot)
