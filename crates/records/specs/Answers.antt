-- What the record entrance answers, and what it leaves in the work room: the flat entrance's definitions, with the records' check and
-- the records' interpretation. 11 cannot occur here.
-- Assumes nothing.
use Rattle.std.specs.Prelude.{Bool, List, ℕ, length}
use Rattle.table.specs.Answers.{Acceptance}
use Rattle.table.specs.declared.words.Term.{Term}
use Rattle.table.specs.Admission.{admission_within}
use Rattle.setting.specs.declared.cells.Cell.{Cell}
use Rattle.setting.specs.Check.{check_cells}
use Rattle.setting.specs.Interpretation.{Interpretation, interpret}
use Rattle.evaluate.specs.Evaluation.{Evaluation}
use Rattle.evaluate.specs.Evaluation as evaluates
use Rattle.judge.specs.Judgement.{Judgement}
use Rattle.sheets.specs.Marks.{marks_under}
use Rattle.judge.specs.Judgement as judges
use Rattle.records.specs.Rows.{record_at, look}

-- by ascending variable term 12 and 13, then by ascending cell 14 and 15
abbrev pub check : List ℕ → List ℕ → List Cell → Acceptance
check w values cells = check_cells w values (record_at cells) (length cells)

-- what the setting says of each input
abbrev pub in_records : List ℕ → List Cell → Interpretation
in_records values cells = interpret values (look cells)

abbrev pub ready : Acceptance → List ℕ → List ℕ → List Cell → ℕ → ℕ → ℕ → Evaluation
ready admitted w values cells each allowance room = evaluates.ready_by w admitted (check w values cells) each allowance room

-- evaluating, and its room
abbrev pub evaluation : List ℕ → List ℕ → List Cell → ℕ → ℕ → Evaluation
evaluation w values cells allowance room = ready (admission_within 80000 w) w values cells 1 allowance room

abbrev pub evaluation_room : Evaluation → List ℕ → List ℕ → List Cell → List ℕ → List ℕ
evaluation_room e w values cells room = evaluates.room_in e w (in_records values cells) room

-- judging by any marks, after an admission; and its room
abbrev pub judgement_by : (Term → Bool) → Acceptance → List ℕ → List ℕ → List Cell → ℕ → ℕ → Judgement
judgement_by marked admitted w values cells allowance room = judges.verdict (ready admitted w values cells 2 allowance room) w marked (in_records values cells)

abbrev pub room_by : (Term → Bool) → Judgement → List ℕ → List ℕ → List Cell → List ℕ → List ℕ
room_by marked j w values cells room = judges.room_in j w marked (in_records values cells) room

-- under a sheet
abbrev pub judgement : List ℕ → List ℕ → List ℕ → List Cell → ℕ → ℕ → Judgement
judgement w sheet values cells allowance room = judgement_by (marks_under sheet) (judges.admission_under w sheet) w values cells allowance room

abbrev pub judgement_room : Judgement → List ℕ → List ℕ → List ℕ → List Cell → List ℕ → List ℕ
judgement_room j w sheet values cells room = room_by (marks_under sheet) j w values cells room
