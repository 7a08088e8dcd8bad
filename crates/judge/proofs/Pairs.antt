-- Demand 3 applied to pairs of settings.
-- Assumes nothing.
use Rattle.std.specs.Prelude.{Ok}
use mathlib.Core.Path.{◌≡◌, refl, subst}
use mathlib.Core.Bool.{false}
use mathlib.Core.List.{[], ◌∷◌}
use borrow.Author.Tests.{lt-ltb}
use Rattle.ops.specs.Meaning.{apply}
use Rattle.ops.specs.Condition.{settles}
use Rattle.table.specs.Bench.{rule_g}
use Rattle.table.specs.Folds.{fold, any_below}
use Rattle.table.specs.Faults.{typed, clash, size_within, fault_if, fault}
use Rattle.table.specs.Admission.{scan, admission_within}
use Rattle.table.proofs.Admitted.{admission-sound}
use Rattle.setting.specs.Cells.{look_from, look}
use Rattle.setting.specs.Arrays.{array_entry, slot_sort}
use Rattle.setting.specs.Check.{check}
use Rattle.setting.specs.Interpretation.{interpret}
use Rattle.setting.specs.Agreement.{differ}
use Rattle.setting.proofs.Agreement.{agreement_computed}
use Rattle.setting.proofs.Checked.{checked-fits}
use Rattle.evaluate.specs.Evaluation.{afford}
use Rattle.evaluate.specs.Steps.{steps}
use Rattle.evaluate.specs.Values.{value_by}
use Rattle.judge.specs.Conditions.{condition_by}
use Rattle.sheets.specs.Marks.{marks_under}
use Rattle.sheets.specs.Check.{sheet_check}
use Rattle.judge.specs.Judgement.{judgement}
use Rattle.judge.specs.Demand3.{JudgementPromise}
use Rattle.judge.specs.Pairs.{Pair, Compared, other_vector, other_listing, other_array, other_party, ComparedPairs, OtherVerdict, SureOfG}
use Rattle.judge.proofs.Promises.{demand3}
use Rattle.table.specs.Answers.{accepted}

-- two judgements, of settings that do not differ in an unmarked input
compared : (x : Pair) → judgement x.table x.sheet x.values x.cells 9 99 ≡ Ok x.verdict → judgement x.table x.sheet x.values' x.cells' 9 99 ≡ Ok x.verdict'
    → differ x.table (marks_under x.sheet) x.values (look x.cells) x.values' (look x.cells') ≡ false → Compared x
compared x first second same =
    let agree = agreement_computed x.table (marks_under x.sheet) x.values (look x.cells) x.values' (look x.cells') same in
    record {
      first = first;
      second = second;
      agree = agree;
      same = (subst (JudgementPromise x.table x.sheet x.values x.cells) first (demand3 x.table x.sheet x.values x.cells 9 99)).same x.values' x.cells' 9 99 x.verdict' second agree;
    }

-- by computation
pub compared_pairs : ComparedPairs
unfolding sheet_check admission_within scan fault fault_if typed any_below clash size_within steps fold value_by condition_by apply settles look_from check slot_sort array_entry afford
compared_pairs = (compared other_vector refl refl refl, compared other_listing refl refl refl, compared other_array refl refl refl, compared other_party refl refl refl)

pub other_verdict : OtherVerdict
unfolding sheet_check admission_within scan fault fault_if typed any_below clash size_within steps fold value_by condition_by apply settles look_from check slot_sort array_entry afford
other_verdict = refl

pub sure_of_g : SureOfG
unfolding sheet_check admission_within scan fault fault_if typed any_below clash size_within steps fold value_by condition_by apply settles look_from check slot_sort array_entry afford
sure_of_g x b =
    let checked : check rule_g (0 ∷ x ∷ 1 ∷ []) [] ≡ accepted = rw (lt-ltb x 256 b) in
    let fit = checked-fits 512 rule_g (0 ∷ x ∷ 1 ∷ []) [] (admission-sound 512 rule_g refl) checked in
    let agree = agreement_computed rule_g (marks_under []) (0 ∷ 5 ∷ 1 ∷ []) (look []) (0 ∷ x ∷ 1 ∷ []) (look []) refl in
    (subst (JudgementPromise rule_g [] (0 ∷ 5 ∷ 1 ∷ []) []) compared_pairs.0.first (demand3 rule_g [] (0 ∷ 5 ∷ 1 ∷ []) [] 9 99)).sure refl (interpret (0 ∷ x ∷ 1 ∷ []) (look [])) fit agree
