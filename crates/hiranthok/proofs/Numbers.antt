-- By which numbers the C interface answers.
-- Assumes nothing.
use Rattle.std.specs.Prelude.{Ok, Err}
use mathlib.Core.Path.{◌≡◌, refl, sym, ap, ◌∙◌}
use mathlib.Core.Bool.{Bool, true, false}
use Prim.Native.Nat.{ℕ}
use Rattle.ops.proofs.Booleans.{never, or_open}
use lib.Dec.{eqb}
use Rattle.table.specs.Answers.{Acceptance}
use Rattle.table.specs.Admission.{admission}
use Rattle.table.specs.Refusals.{between, RefusedBy}
use Rattle.table.proofs.Refusals.{admission-numbers}
use Rattle.evaluate.specs.Evaluation.{Evaluation}
use Rattle.evaluate.specs.Evaluation as evaluates
use Rattle.evaluate.specs.Laws.{run_numbers, NotEvaluatedBy}
use Rattle.evaluate.proofs.Refusals.{evaluation-numbers}
use Rattle.judge.specs.Judgement.{Judgement}
use Rattle.judge.specs.Judgement as judges
use Rattle.judge.specs.Laws.{judge_numbers, NotJudgedBy}
use Rattle.judge.proofs.Answers.{judgement-numbers}
use Rattle.finish.specs.Finished.{Finishing}
use Rattle.finish.specs.Finished.{finishing}
use Rattle.finish.specs.Laws.{finish_numbers, NotFinishedBy}
use Rattle.finish.proofs.AgreedSettings.{finishing-numbers}
use Rattle.records.specs.Answers as recorded
use Rattle.records.specs.Laws.{record_numbers, record_judge_numbers}
use Rattle.records.proofs.Numbers as record-numbers
use Rattle.printer.specs.Printing.{Printing}
use Rattle.printer.specs.Printing.{printing, print_numbers, NotPrintedBy}
use Rattle.printer.proofs.Answers.{printing-numbers}
use Rattle.parser.specs.Parsing.{Parsing}
use Rattle.parser.specs.Parsing.{parsing}
use Rattle.meanings.specs.Numbers.{parse_numbers, NotParsedBy}
use Rattle.meanings.proofs.Numbers.{parsing-numbers}
use Rattle.replies.specs.Replies.{admission_reply, finishing_reply, evaluation_reply, judgement_reply, printing_reply, parsing_reply}
use Rattle.hiranthok.specs.Laws.{or_zero, KnownNumbers, NeverEleven}

-- a reply has the refusal's number, or 0
module _ (numbers : ℕ → Bool) where
  refusal : (number : ℕ) → numbers number ≡ true → or_zero numbers number ≡ true
  refusal number e = rw e (or_open (eqb number 0))

  of-admission : (a : Acceptance) → RefusedBy numbers a → or_zero numbers (admission_reply a).number ≡ true
  of-admission (Ok _) h = refl
  of-admission (Err r) h = refusal r.number h

  of-finishing : (a : Finishing) → NotFinishedBy numbers a → or_zero numbers (finishing_reply a).number ≡ true
  of-finishing (Ok e) h = refl
  of-finishing (Err r) h = refusal r.number h

  of-evaluation : (a : Evaluation) → NotEvaluatedBy numbers a → or_zero numbers (evaluation_reply a).number ≡ true
  of-evaluation (Ok s) h = refl
  of-evaluation (Err r) h = refusal r.number h

  of-judgement : (a : Judgement) → NotJudgedBy numbers a → or_zero numbers (judgement_reply a).number ≡ true
  of-judgement (Ok v) h = refl
  of-judgement (Err r) h = refusal r.number h

  of-printing : (a : Printing) → NotPrintedBy numbers a → or_zero numbers (printing_reply a).number ≡ true
  of-printing (Ok n) h = refl
  of-printing (Err r) h = refusal r.number h

  of-parsing : (a : Parsing) → NotParsedBy numbers a → or_zero numbers (parsing_reply a).number ≡ true
  of-parsing (Ok n) h = refl
  of-parsing (Err r) h = refusal r.number h

pub known-numbers : KnownNumbers
known-numbers =
    record {
      admit = λ w. of-admission (between 1 10) (admission w) (admission-numbers 512 w);
      finish = λ w room. of-finishing finish_numbers (finishing w room) (finishing-numbers w room);
      evaluate = λ w values cells allowance room. of-evaluation run_numbers (evaluates.evaluation w values cells allowance room) (evaluation-numbers w values cells allowance room);
      judge = λ w sheet values cells allowance room. of-judgement judge_numbers (judges.judgement w sheet values cells allowance room) (judgement-numbers w sheet values cells allowance room);
      evaluate_records = λ w values cells allowance room.
          of-evaluation record_numbers (recorded.evaluation w values cells allowance room) (record-numbers.evaluation-numbers w values cells allowance room);
      judge_records = λ w sheet values cells allowance room.
          of-judgement record_judge_numbers (recorded.judgement w sheet values cells allowance room) (record-numbers.judgement-numbers w sheet values cells allowance room);
      print = λ w room. of-printing print_numbers (printing w room) (printing-numbers w room);
      parse = λ text room. of-parsing parse_numbers (parsing text room) (parsing-numbers text room);
    }

no_eleven : (numbers : ℕ → Bool) → numbers 11 ≡ false → (number : ℕ) → or_zero numbers number ≡ true → number ≡ 11 → ⊥
no_eleven numbers none number h e = never (sym none ∙ sym (ap (or_zero numbers) e) ∙ h)

pub never_eleven : NeverEleven
never_eleven =
    record {
      evaluate_records = λ w values cells allowance room. no_eleven record_numbers refl (evaluation_reply (recorded.evaluation w values cells allowance room)).number (known-numbers.evaluate_records w values cells allowance room);
      judge_records = λ w sheet values cells allowance room. no_eleven record_judge_numbers refl (judgement_reply (recorded.judgement w sheet values cells allowance room)).number (known-numbers.judge_records w sheet values cells allowance room);
    }
