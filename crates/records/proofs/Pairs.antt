-- Demand 3 applied through the record entrance.
-- Assumes nothing.
use Rattle.std.specs.Prelude.{Ok}
use mathlib.Core.Path.{◌≡◌, refl, subst}
use mathlib.Core.List.{[], ◌∷◌}
use Rattle.ops.specs.Meaning.{apply}
use Rattle.ops.specs.Condition.{settles}
use Rattle.table.specs.Folds.{fold, any_below}
use Rattle.table.specs.Faults.{typed, clash, size_within, fault_if, fault}
use Rattle.table.specs.Admission.{scan, admission_within}
use Rattle.setting.specs.Cells.{look_from}
use Rattle.setting.specs.Cells as flat
use Rattle.setting.specs.Arrays.{array_entry, slot_sort}
use Rattle.setting.specs.Check.{check}
use Rattle.setting.proofs.Agreement.{agreement_computed}
use Rattle.evaluate.specs.Evaluation.{afford}
use Rattle.evaluate.specs.Steps.{steps}
use Rattle.evaluate.specs.Values.{value_by}
use Rattle.judge.specs.Conditions.{condition_by}
use Rattle.sheets.specs.Marks.{marks_under}
use Rattle.sheets.specs.Check.{sheet_check}
use Rattle.judge.specs.Judgement as judges
use Rattle.judge.specs.Pairs.{copied}
use Rattle.records.specs.Rows.{look}
use Rattle.records.specs.Answers.{judgement}
use Rattle.records.specs.Laws.{RecordJudgementPromise}
use Rattle.records.specs.Pairs.{passed, few, many, short, long, Compared}
use Rattle.records.proofs.Demand.{record_demand3}

pub compared : Compared
unfolding sheet_check admission_within scan fault fault_if typed any_below clash size_within steps fold value_by condition_by apply settles look_from check slot_sort array_entry afford
compared =
    let first : judgement copied [] short few 9 99 ≡ Ok passed = refl in
    let second : judgement copied [] long many 9 99 ≡ Ok passed = refl in
    let flatly : judges.judgement copied [] short (0 ∷ 1 ∷ 42 ∷ []) 9 99 ≡ Ok passed = refl in
    let agree = agreement_computed copied (marks_under []) short (look few) long (look many) refl in
    let agree_across = agreement_computed copied (marks_under []) long (look many) short (flat.look (0 ∷ 1 ∷ 42 ∷ [])) refl in
    record {
      first = first;
      second = second;
      agree = agree;
      same = (subst (RecordJudgementPromise copied [] short few) first (record_demand3 copied [] short few 9 99)).same long many 9 99 passed second agree;
      flatly = flatly;
      agree_across = agree_across;
      across = (subst (RecordJudgementPromise copied [] long many) second (record_demand3 copied [] long many 9 99)).across short (0 ∷ 1 ∷ 42 ∷ []) 9 99 passed flatly agree_across;
    }
