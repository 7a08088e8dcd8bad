-- The promise of finishing applied to settings; and by which numbers finishing refuses.
-- Assumes nothing.
use Rattle.std.specs.Prelude.{Ok, Err}
use mathlib.Core.Path.{◌≡◌, refl, ap, ◌∙◌}
use mathlib.Core.Bool.{Bool, true, false, cond}
use mathlib.Core.List.{[]}
use Prim.Native.Nat.{◌*◌}
use Prim.{tt}
use lib.Dec.{ltb}
use Rattle.ops.specs.Meaning.{apply}
use Rattle.ops.specs.Condition.{settles}
use Rattle.table.specs.Folds.{fold, any_below}
use Rattle.table.specs.Terms.{words, terms, term_at}
use Rattle.table.specs.Faults.{typed, clash, size_within, fault_if, fault}
use Rattle.table.specs.Admission.{and_then, scan, admission_within}
use Rattle.table.specs.WellFormed.{WellFormed}
use Rattle.table.proofs.Admitted.{admission-sound}
use Rattle.table.proofs.Refusals.{admission_by}
use Rattle.setting.specs.Cells.{look_from}
use Rattle.setting.specs.Arrays.{array_entry, slot_sort}
use Rattle.setting.specs.Check.{check}
use Rattle.evaluate.specs.Evaluation.{afford, evaluation}
use Rattle.evaluate.specs.Steps.{steps}
use Rattle.evaluate.specs.Values.{value_by}
use Rattle.judge.specs.Conditions.{condition_by}
use Rattle.judge.specs.Judgement.{judgement}
use Rattle.sheets.specs.Check.{sheet_check}
use Rattle.sheets.proofs.Saying.{empty}
use Rattle.groups.specs.Added.{flat}
use Rattle.groups.specs.Plans.{plan_by, groups}
use Rattle.finish.specs.Finished.{finished, extent, not_finished}
use Rattle.finish.specs.Laws.{finish_numbers, NotFinishedBy, FinishingNumbers}
use Rattle.finish.specs.Settings.{Setting, Agreed, P2, P7, AgreedSettings}
use Rattle.finish.proofs.Promises.{faithful}

agreed : (x : Setting) → WellFormed 512 x.table → judgement x.table [] x.values [] 9 99 ≡ Ok x.verdict
    → evaluation (finished x.table) x.values [] 9 99 ≡ Ok x.spent → Agreed x
agreed x f judged evaluated =
    record {
      judged = judged;
      evaluated = evaluated;
      same = λ work long. (faithful x.table f).agrees [] x.values [] 9 99 x.verdict (λ k b v. empty.marks (term_at x.table k)) judged 9 work x.spent
          (ap (evaluation (finished x.table) x.values [] 9) long ∙ evaluated);
    }

-- by computation
pub agreed_settings : AgreedSettings
unfolding sheet_check admission_within scan fault fault_if typed any_below clash size_within steps fold value_by condition_by apply settles look_from check slot_sort array_entry afford finished flat plan_by groups
agreed_settings = (agreed P2 (admission-sound 512 P2.table refl) refl refl, agreed P7 (admission-sound 512 P7.table refl) refl refl)

-- The numbers

pub finishing-numbers : FinishingNumbers
finishing-numbers w room =
    admission_by (λ a. NotFinishedBy finish_numbers (and_then Err a (cond (ltb room (terms (finished w) * words)) (not_finished 21 (terms (finished w))) (Ok (extent w)))))
    (go (ltb room (terms (finished w) * words))) (λ number place e. rw e) 512 w
  where
    go : (b : Bool) → NotFinishedBy finish_numbers (cond b (not_finished 21 (terms (finished w))) (Ok (extent w)))
    go true = refl
    go false = tt
