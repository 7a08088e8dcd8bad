-- What is proved of judgements besides demand 3, as named statements. The proofs are in proofs/.
-- Assumes nothing.
use Rattle.std.specs.Prelude.{Ok, Err, ◌≡◌, Bool, true, false, ◌||◌, List, ℕ, length}
use Rattle.table.specs.Refusals.{between}
use Rattle.sheets.specs.Marks.{own_marks}
use Rattle.setting.specs.Interpretation.{Interpretation}
use Rattle.setting.specs.Laws.{OneUsedValues}
use Rattle.judge.specs.Judgement.{Judgement}
use Rattle.judge.specs.Bench.{either}
use Rattle.judge.specs.Judgement.{rule_in, rule_condition, judgement, room_after}

-- Judging refuses by 1 to 16, 22 and 23 alone; of a verdict nothing is said.
abbrev pub judge_numbers : ℕ → Bool
judge_numbers number = between 1 16 number || between 22 23 number

abbrev pub NotJudgedBy : (ℕ → Bool) → Judgement → Type 0
NotJudgedBy numbers (Ok v) = Unit {0}
NotJudgedBy numbers (Err r) = numbers r.number ≡ true

abbrev pub JudgementNumbers : Type 0
JudgementNumbers = (w sheet values cells : List ℕ) (allowance room : ℕ) → NotJudgedBy judge_numbers (judgement w sheet values cells allowance room)

-- Values of slots that no variable uses are not looked at: answer and room are the same.
pub record OneJudgement (w sheet values values' cells : List ℕ) (allowance : ℕ) (room : List ℕ) : Type 0 where
  pub answer : judgement w sheet values cells allowance (length room) ≡ judgement w sheet values' cells allowance (length room)
  pub left : room_after (judgement w sheet values cells allowance (length room)) w sheet values cells room
      ≡ room_after (judgement w sheet values' cells allowance (length room)) w sheet values' cells room

abbrev pub UnusedUnjudged : Type 0
UnusedUnjudged =
    (w sheet values values' cells : List ℕ) (allowance : ℕ) (room : List ℕ) → OneUsedValues w values values' → OneJudgement w sheet values values' cells allowance room

-- P12 whatever x holds: "x < 5 or not (x < 5)" is true, and its condition false.
abbrev pub AlwaysDependent : Type 0
AlwaysDependent = (I : Interpretation) → (rule_in either I ≡ true) × (rule_condition either own_marks I ≡ false)
