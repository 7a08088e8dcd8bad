-- What holds of the C interface besides what the routines promise: across the two entrances, and by which numbers it answers. The
-- proofs are in proofs/.
-- Assumes nothing.
use Rattle.std.specs.Prelude.{Ok, Err, ◌≡◌, Bool, true, ◌||◌, List, ℕ, ◌*◌, eqb, length, take}
use Rattle.table.specs.Terms.{words}
use Rattle.table.specs.Admission.{and_then, admission}
use Rattle.table.specs.Refusals.{between}
use Rattle.sheets.specs.Marks.{LeavesMarks}
use Rattle.setting.specs.declared.cells.Cell.{Cell}
use Rattle.evaluate.specs.declared.Spent.{Spent}
use Rattle.evaluate.specs.Evaluation as evaluates
use Rattle.evaluate.specs.Laws.{run_numbers}
use Rattle.judge.specs.declared.Verdict.{Verdict}
use Rattle.judge.specs.Judgement as judges
use Rattle.judge.specs.Laws.{judge_numbers}
use Rattle.finish.specs.declared.Extent.{Extent}
use Rattle.finish.specs.Finished.{Finishing}
use Rattle.finish.specs.Finished.{finishing}
use Rattle.finish.specs.Laws.{SameAnswers, finish_numbers}
use Rattle.finish.specs.Laws as finishes
use Rattle.records.specs.Answers as recorded
use Rattle.records.specs.Laws.{record_numbers, record_judge_numbers}
use Rattle.printer.specs.Printing.{printing, print_numbers}
use Rattle.parser.specs.Parsing.{parsing}
use Rattle.meanings.specs.Numbers.{parse_numbers}
use Rattle.replies.specs.Replies.{admission_reply, finishing_reply, evaluation_reply, judgement_reply, printing_reply, parsing_reply}

-- Of a finished table f, evaluated through the record entrance: it is refused as the table's setting is, and by 22 and 23; in the setting
-- of a judgement that is not refused, under a sheet that leaves the table's marks, it leaves rule, condition and their conjunction in its room.
pub record RecordFaithful (w f : List ℕ) (e : Extent) : Type 0 where
  pub evaluated : (values : List ℕ) (cells : List Cell) (allowance room : ℕ)
      → recorded.evaluation f values cells allowance room ≡ and_then Err (recorded.check w values cells) (evaluates.afford f 1 allowance room)
  pub agrees : (sheet values : List ℕ) (cells : List Cell) (allowance room : ℕ) (v : Verdict) → LeavesMarks w sheet → recorded.judgement w sheet values cells allowance room ≡ Ok v
      → (allowance' : ℕ) (work : List ℕ) (s : Spent) → recorded.evaluation f values cells allowance' (length work) ≡ Ok s
      → SameAnswers w e v (recorded.evaluation_room (Ok s) f values cells work)

-- what finishing promises of the record entrance: nothing for a refusal. room is what it left
abbrev pub FinishingRecordPromise : List ℕ → List ℕ → Finishing → Type 0
FinishingRecordPromise w room (Ok e) = RecordFaithful w (take (e.terms * words) room) e
FinishingRecordPromise w room (Err r) = Unit {0}

-- It follows from the promise of finishing.
abbrev pub FinishedForRecords : Type 0
FinishedForRecords = (w room : List ℕ) (a : Finishing) → finishes.FinishingPromise w room a → FinishingRecordPromise w room a

-- Each function answers 0 or a number that its routine knows.
abbrev pub or_zero : (ℕ → Bool) → ℕ → Bool
or_zero numbers number = eqb number 0 || numbers number

pub record KnownNumbers : Type 0 where
  pub admit : (w : List ℕ) → or_zero (between 1 10) (admission_reply (admission w)).number ≡ true
  pub finish : (w : List ℕ) (room : ℕ) → or_zero finish_numbers (finishing_reply (finishing w room)).number ≡ true
  pub evaluate : (w values cells : List ℕ) (allowance room : ℕ) → or_zero run_numbers (evaluation_reply (evaluates.evaluation w values cells allowance room)).number ≡ true
  pub judge : (w sheet values cells : List ℕ) (allowance room : ℕ) → or_zero judge_numbers (judgement_reply (judges.judgement w sheet values cells allowance room)).number ≡ true
  pub evaluate_records : (w values : List ℕ) (cells : List Cell) (allowance room : ℕ) → or_zero record_numbers (evaluation_reply (recorded.evaluation w values cells allowance room)).number ≡ true
  pub judge_records : (w sheet values : List ℕ) (cells : List Cell) (allowance room : ℕ) → or_zero record_judge_numbers (judgement_reply (recorded.judgement w sheet values cells allowance room)).number ≡ true
  pub print : (w : List ℕ) (room : ℕ) → or_zero print_numbers (printing_reply (printing w room)).number ≡ true
  pub parse : (text : List ℕ) (room : ℕ) → or_zero parse_numbers (parsing_reply (parsing text room)).number ≡ true

-- 11 cannot occur over records.
pub record NeverEleven : Type 0 where
  pub evaluate_records : (w values : List ℕ) (cells : List Cell) (allowance room : ℕ) → (evaluation_reply (recorded.evaluation w values cells allowance room)).number ≡ 11 → ⊥
  pub judge_records : (w sheet values : List ℕ) (cells : List Cell) (allowance room : ℕ) → (judgement_reply (recorded.judgement w sheet values cells allowance room)).number ≡ 11 → ⊥
