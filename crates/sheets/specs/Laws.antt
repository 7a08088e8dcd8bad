-- What is proved of mark sheets, as named statements. The proofs are in proofs/.
-- Assumes nothing.
use Rattle.std.specs.Prelude.{Ok, Err, ◌≡◌, true, false, List, [], ℕ, ◌<◌}
use Rattle.table.specs.declared.words.Term.{Term}
use Rattle.table.specs.Answers.{Acceptance, accepted}
use Rattle.sheets.specs.Marks.{own_marks, line_count, line_at, names, marks_under, mark, keep}
use Rattle.sheets.specs.Check.{sheet_check}
use Rattle.sheets.specs.Code.Said.{Said, marks_by}
use Rattle.sheets.specs.Deciding.{deciding}

-- An empty sheet is none that is refused, and leaves every mark.
pub record Empty : Type 0 where
  pub checked : sheet_check [] ≡ accepted
  pub marks : (x : Term) → marks_under [] x ≡ own_marks x

-- A row that says by slot what a sheet says marks what the sheet marks.
abbrev pub MarksByRow : Type 0
MarksByRow = (sheet row : List ℕ) (x : Term) → Said sheet (line_count sheet) row → x.p < 256 → marks_by row x ≡ marks_under sheet x

-- The deciding line of a slot is one of the sheet's just where some line names the slot; it then names it, and its kind is what holds.
pub record Decided (sheet : List ℕ) (x : Term) : Type 0 where
  pub names : deciding sheet x.p < line_count sheet → names (line_at sheet (deciding sheet x.p)) x.p ≡ true
  pub marks : deciding sheet x.p < line_count sheet → marks_under sheet x ≡ true → (line_at sheet (deciding sheet x.p)).kind ≡ mark
  pub keeps : deciding sheet x.p < line_count sheet → marks_under sheet x ≡ false → (line_at sheet (deciding sheet x.p)).kind ≡ keep
  pub silent : (deciding sheet x.p < line_count sheet → ⊥) → marks_under sheet x ≡ own_marks x

abbrev pub DecidingLine : Type 0
DecidingLine = (sheet : List ℕ) (x : Term) → Decided sheet x

-- A sheet is refused by 16 alone.
abbrev pub RefusedBy16 : Acceptance → Type 0
RefusedBy16 (Ok _) = Unit {0}
RefusedBy16 (Err r) = r.number ≡ 16

abbrev pub SheetNumbers : Type 0
SheetNumbers = (sheet : List ℕ) → RefusedBy16 (sheet_check sheet)
