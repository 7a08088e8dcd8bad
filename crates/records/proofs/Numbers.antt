-- By which numbers the record entrance refuses: 11 is none of them.
-- Assumes nothing.
use mathlib.Core.Path.{refl, subst}
use Prim.{tt}
use native.Mathlib.Omega.{arith}
use Rattle.ops.proofs.Booleans.{never, or_open}
use Rattle.table.specs.Admission.{admission_within}
use Rattle.table.specs.Refusals.{between, RefusedBy}
use Rattle.table.proofs.Refusals.{wider}
use Rattle.setting.proofs.Refusals.{cells_by}
use Rattle.evaluate.specs.Laws.{NotEvaluatedBy}
use Rattle.evaluate.proofs.Refusals.{admitted_by, ready_by_lem}
use Rattle.sheets.specs.Marks.{marks_under}
use Rattle.judge.specs.Judgement.{admission_under, rule_in, rule_condition}
use Rattle.judge.specs.Laws.{NotJudgedBy}
use Rattle.judge.proofs.Answers.{judged-by, under-by}
use Rattle.records.specs.Rows.{record_at}
use Rattle.records.specs.Answers.{check, in_records, ready}
use Rattle.records.specs.Laws.{record_numbers, record_judge_numbers, EvaluationNumbers, JudgementNumbers, NeverEleven}
use lib.ListN.{length}

pub evaluation-numbers : EvaluationNumbers
evaluation-numbers w values cells allowance room =
    ready_by_lem record_numbers (λ number e. rw e) refl refl w (admission_within 80000 w) (check w values cells) 1 allowance room (admitted_by record_numbers (λ number e. rw e) refl refl 80000 w)
    (cells_by (RefusedBy record_numbers) tt (λ number place e. rw (e, or_open (between 1 10 number))) w values (record_at cells) (length cells))

pub judgement-numbers : JudgementNumbers
judgement-numbers w sheet values cells allowance room =
    let I = in_records values cells in
    judged-by record_judge_numbers (ready (admission_under w sheet) w values cells 2 allowance room) (rule_in w I) (rule_condition w (marks_under sheet) I)
    (ready_by_lem record_judge_numbers (λ number e. rw e) refl refl w (admission_under w sheet) (check w values cells) 2 allowance room
    (under-by record_judge_numbers refl w sheet (admitted_by record_judge_numbers (λ number e. rw e) refl refl 512 w))
    (cells_by (RefusedBy record_judge_numbers) tt (λ number place e. rw (wider 12 12 15 16 number (omega arith) (omega arith) e, or_open (between 1 10 number))) w values (record_at cells) (length cells)))

pub never_eleven : NeverEleven
never_eleven w sheet values cells allowance room place =
    record {
      evaluating = λ e. never (subst (NotEvaluatedBy record_numbers) e (evaluation-numbers w values cells allowance room));
      judging = λ e. never (subst (NotJudgedBy record_judge_numbers) e (judgement-numbers w sheet values cells allowance room));
    }
