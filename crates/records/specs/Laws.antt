-- What is proved of the record entrance, as named statements. The proofs are in proofs/.
-- Assumes nothing.
use Rattle.std.specs.Prelude.{Ok, Err, ◌≡◌, Bool, true, ◌||◌, List, ℕ, ◌%◌, length}
use Rattle.table.specs.Refusals.{between}
use Rattle.setting.specs.declared.cells.Cell.{Cell}
use Rattle.setting.specs.Cells as flat
use Rattle.setting.specs.Interpretation.{Interpretation, interpret, FitInputs, AgreeUnmarked}
use Rattle.setting.specs.Laws.{OneUsedValues}
use Rattle.evaluate.specs.Evaluation as evaluates
use Rattle.evaluate.specs.Laws.{NotEvaluatedBy}
use Rattle.judge.specs.declared.Verdict.{Verdict}
use Rattle.judge.specs.Judgement.{Judgement}
use Rattle.sheets.specs.Marks.{marks_under}
use Rattle.judge.specs.Demand3.{SameVerdict}
use Rattle.judge.specs.Judgement as judges
use Rattle.judge.specs.Laws.{NotJudgedBy}
use Rattle.records.specs.Rows.{flattened}
use Rattle.records.specs.Answers.{in_records, evaluation, evaluation_room, judgement, judgement_room}

-- Both entrances give equal answers and leave equal rooms: the flat one on the cells laid flat, for every table, row, allowance and room.
pub record Equal (w sheet values : List ℕ) (cells : List Cell) (allowance : ℕ) (room : List ℕ) : Type 0 where
  pub answer : evaluation w values cells allowance (length room) ≡ evaluates.evaluation w values (flattened cells) allowance (length room)
  pub answer_room : evaluation_room (evaluation w values cells allowance (length room)) w values cells room
      ≡ evaluates.room_after (evaluates.evaluation w values (flattened cells) allowance (length room)) w values (flattened cells) room
  pub verdict : judgement w sheet values cells allowance (length room) ≡ judges.judgement w sheet values (flattened cells) allowance (length room)
  pub verdict_room : judgement_room (judgement w sheet values cells allowance (length room)) w sheet values cells room
      ≡ judges.room_after (judges.judgement w sheet values (flattened cells) allowance (length room)) w sheet values (flattened cells) room

abbrev pub EqualAnswers : Type 0
EqualAnswers = (w sheet values : List ℕ) (cells : List Cell) (allowance : ℕ) (room : List ℕ) → Equal w sheet values cells allowance room

-- Each row of whole cells is that of some records laid flat.
pub record LaidFlat (cells : List ℕ) : Type 0 where
  pub records : List Cell
  pub is : flattened records ≡ cells

abbrev pub WholeRowsAreLaid : Type 0
WholeRowsAreLaid = (cells : List ℕ) → length cells % 3 ≡ 0 → LaidFlat cells

-- The record entrance knows 1 to 10, 12 to 15, 22 and 23, and judging 16 besides.
abbrev pub record_numbers : ℕ → Bool
record_numbers number = between 1 10 number || between 12 15 number || between 22 23 number

abbrev pub record_judge_numbers : ℕ → Bool
record_judge_numbers number = between 1 10 number || between 12 16 number || between 22 23 number

abbrev pub EvaluationNumbers : Type 0
EvaluationNumbers = (w values : List ℕ) (cells : List Cell) (allowance room : ℕ) → NotEvaluatedBy record_numbers (evaluation w values cells allowance room)

abbrev pub JudgementNumbers : Type 0
JudgementNumbers = (w sheet values : List ℕ) (cells : List Cell) (allowance room : ℕ) → NotJudgedBy record_judge_numbers (judgement w sheet values cells allowance room)

-- So 11 cannot occur, of evaluating and of judging.
pub record NoEleven (w sheet values : List ℕ) (cells : List Cell) (allowance room place : ℕ) : Type 0 where
  pub evaluating : evaluation w values cells allowance room ≡ evaluates.not_evaluated 11 place → ⊥
  pub judging : judgement w sheet values cells allowance room ≡ Err (record { number = 11; place = place }) → ⊥

abbrev pub NeverEleven : Type 0
NeverEleven = (w sheet values : List ℕ) (cells : List Cell) (allowance room place : ℕ) → NoEleven w sheet values cells allowance room place

-- Values of slots that no variable uses are not looked at: answers and rooms are the same.
pub record OneAnswer (w sheet values values' : List ℕ) (cells : List Cell) (allowance : ℕ) (room : List ℕ) : Type 0 where
  pub answer : evaluation w values cells allowance (length room) ≡ evaluation w values' cells allowance (length room)
  pub answer_room : evaluation_room (evaluation w values cells allowance (length room)) w values cells room
      ≡ evaluation_room (evaluation w values' cells allowance (length room)) w values' cells room
  pub verdict : judgement w sheet values cells allowance (length room) ≡ judgement w sheet values' cells allowance (length room)
  pub verdict_room : judgement_room (judgement w sheet values cells allowance (length room)) w sheet values cells room
      ≡ judgement_room (judgement w sheet values' cells allowance (length room)) w sheet values' cells room

abbrev pub UnusedUnseen : Type 0
UnusedUnseen =
    (w sheet values values' : List ℕ) (cells : List Cell) (allowance : ℕ) (room : List ℕ) → OneUsedValues w values values' → OneAnswer w sheet values values' cells allowance room

-- Demand 3 (paper 01, "What demand 3 compares") through this entrance: (a) every other judgement of the table under the sheet that is not refused, through
-- either entrance, in a setting that agrees on the inputs that are unmarked under it; (b) where the setting passes, every fitting interpretation that agrees.
pub record Independent (w sheet values : List ℕ) (cells : List Cell) (v : Verdict) : Type 0 where
  pub same : (values' : List ℕ) (cells' : List Cell) (allowance' room' : ℕ) (v' : Verdict) → judgement w sheet values' cells' allowance' room' ≡ Ok v'
      → AgreeUnmarked w (marks_under sheet) (in_records values cells) (in_records values' cells') → SameVerdict v v'
  pub across : (values' cells' : List ℕ) (allowance' room' : ℕ) (v' : Verdict) → judges.judgement w sheet values' cells' allowance' room' ≡ Ok v'
      → AgreeUnmarked w (marks_under sheet) (in_records values cells) (interpret values' (flat.look cells')) → SameVerdict v v'
  pub sure : judges.passes v ≡ true → (I : Interpretation) → FitInputs w I → AgreeUnmarked w (marks_under sheet) (in_records values cells) I → judges.rule_in w I ≡ true

abbrev pub RecordJudgementPromise : List ℕ → List ℕ → List ℕ → List Cell → Judgement → Type 0
RecordJudgementPromise w sheet values cells (Ok v) = Independent w sheet values cells v
RecordJudgementPromise w sheet values cells (Err r) = Unit {0}

abbrev pub RecordDemand3 : Type 0
RecordDemand3 = (w sheet values : List ℕ) (cells : List Cell) (allowance room : ℕ) → RecordJudgementPromise w sheet values cells (judgement w sheet values cells allowance room)

-- What a judgement through the flat entrance promises against those through this one.
abbrev pub FlatJudgementPromise : List ℕ → List ℕ → List ℕ → List ℕ → Judgement → Type 0
FlatJudgementPromise w sheet values cells (Ok v) =
    (values' : List ℕ) (cells' : List Cell) (allowance' room' : ℕ) (v' : Verdict) → judgement w sheet values' cells' allowance' room' ≡ Ok v'
    → AgreeUnmarked w (marks_under sheet) (interpret values (flat.look cells)) (in_records values' cells') → SameVerdict v v'
FlatJudgementPromise w sheet values cells (Err r) = Unit {0}

abbrev pub FlatDemand3 : Type 0
FlatDemand3 = (w sheet values cells : List ℕ) (allowance room : ℕ) → FlatJudgementPromise w sheet values cells (judges.judgement w sheet values cells allowance room)
