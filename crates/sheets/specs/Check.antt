-- What refuses a mark sheet: paper 02, request 06, "Errors".
-- Assumes nothing.
use Rattle.std.specs.Prelude.{Bool, cond, ◌&&◌, List, ℕ, ◌%◌, eqb, leb, length}
use Rattle.table.specs.Answers.{Acceptance, accepted}
use Rattle.table.specs.Faults.{refuse_unless}
use Rattle.table.specs.Admission.{refused, scan}
use Rattle.sheets.specs.declared.lines.Line.{Line}
use Rattle.sheets.specs.Marks.{line_at, line_count, mark}

-- a line is of one of the two kinds, its ends are in order, and no slot is over 255: the highest is not
abbrev pub sound : Line → Bool
sound line = leb line.kind mark && leb line.lowest line.highest && leb line.highest 255

-- 16 a line that is not so; 0 where it is
abbrev pub line_fault : Line → ℕ
line_fault line = refuse_unless 16 (sound line) 0

-- 16 a last line cut short, which comes after the whole ones
abbrev pub uncut : List ℕ → Acceptance
uncut sheet = cond (eqb (length sheet % 3) 0) accepted (refused 16 (line_count sheet))

-- 16, place the lowest such line
unfoldable pub sheet_check : List ℕ → Acceptance
sheet_check sheet = scan (λ k. line_fault (line_at sheet k)) (line_count sheet) 0 (uncut sheet)
