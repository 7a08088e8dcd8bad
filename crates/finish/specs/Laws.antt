-- What is proved of finished tables, as named statements. The proofs are in proofs/.
-- Assumes nothing.
use Rattle.std.specs.Prelude.{Ok, Err, ◌≡◌, Bool, true, false, ◌&&◌, ◌||◌, List, ℕ, pred, ◌+◌, ◌*◌, ◌≤◌, ◌<◌, eqb, length, get_or, take}
use Rattle.ops.specs.Meaning.{bit}
use Rattle.table.specs.Terms.{words, terms, term_at}
use Rattle.table.specs.Faults.{is_store, is_choice}
use Rattle.table.specs.Admission.{and_then, admission_within}
use Rattle.table.specs.Refusals.{between}
use Rattle.table.specs.WellFormed.{WellFormed}
use Rattle.setting.specs.Check.{check}
use Rattle.setting.specs.Interpretation.{Interpretation}
use Rattle.evaluate.specs.declared.Spent.{Spent}
use Rattle.evaluate.specs.Steps.{steps}
use Rattle.evaluate.specs.Values.{value_at}
use Rattle.evaluate.specs.Evaluation as evaluating
use Rattle.judge.specs.declared.Verdict.{Verdict}
use Rattle.judge.specs.Conditions.{condition_at}
use Rattle.sheets.specs.Marks.{own_marks, LeavesMarks}
use Rattle.judge.specs.Judgement.{rule_in, rule_condition, judgement, passes}
use Rattle.finish.specs.declared.Extent.{Extent}
use Rattle.finish.specs.Finished.{Finishing}
use Rattle.finish.specs.Finished.{condition_number, added, finished, extent, finishing}
use Rattle.table.specs.Answers.{accepted}

-- With S the table's steps, at most 3 + 9 times n + 9 times S terms are added, and never over 3 + 145 times n.
pub record Few (w : List ℕ) (count : ℕ) : Type 0 where
  pub by_steps : count ≤ 3 + 9 * terms w + 9 * steps w (terms w)
  pub by_terms : count ≤ 3 + 145 * terms w

abbrev pub AddedFew : Type 0
AddedFew = (w : List ℕ) → WellFormed 512 w → Few w (length (added w))

-- A finished table is one that evaluate admits.
abbrev pub FinishedAdmitted : Type 0
FinishedAdmitted = (w : List ℕ) → WellFormed 512 w → WellFormed 80000 (finished w)

-- In every interpretation: the terms of the table keep their values; of every term that has a condition (no store, no choice between
-- arrays), the value at the condition's number is the condition; the last value is the conjunction of rule and C(rule).
abbrev pub KeepsValues : Type 0
KeepsValues = (w : List ℕ) (I : Interpretation) → WellFormed 512 w → (k : ℕ) → k < terms w → value_at (finished w) I k ≡ value_at w I k

abbrev pub ConditionsAgree : Type 0
ConditionsAgree =
    (w : List ℕ) (I : Interpretation) → WellFormed 512 w → (k : ℕ) → k < terms w → is_store (term_at w k) ≡ false → is_choice (term_at w k) ≡ false
    → (value_at (finished w) I (condition_number w k)).num ≡ bit (condition_at w own_marks I k).free

abbrev pub LastIsConjunction : Type 0
LastIsConjunction =
    (w : List ℕ) (I : Interpretation) → WellFormed 512 w → (value_at (finished w) I (extent w).last).num ≡ bit (rule_in w I && rule_condition w own_marks I)

-- A setting is refused for the finished table as it is for the table, by number and place.
abbrev pub SettingsAgree : Type 0
SettingsAgree = (w values cells : List ℕ) → WellFormed 512 w → check (finished w) values cells ≡ check w values cells

-- Of the routines: what evaluate answers on the numbers that finish wrote, beside what judge answers on the table. In the setting of a
-- judgement that is not refused, an evaluation that is not refused leaves rule, condition and their conjunction in its room, at the
-- rule's number, at the number of C(rule) and at the last.
pub record SameAnswers (w : List ℕ) (e : Extent) (v : Verdict) (room : List ℕ) : Type 0 where
  pub rule : get_or room (pred (terms w)) 0 ≡ bit v.rule
  pub condition : get_or room e.condition 0 ≡ bit v.condition
  pub conjunction : get_or room e.last 0 ≡ bit (passes v)

-- f is the finished table
pub record Faithful (w f : List ℕ) (e : Extent) : Type 0 where
  pub few : Few w (length (added w))
  pub count : e.terms ≡ terms w + length (added w)
  pub admitted : admission_within 80000 f ≡ accepted
  -- none but the refusals of the setting, 22 and 23
  pub evaluated : (values cells : List ℕ) (allowance room : ℕ)
      → evaluating.evaluation f values cells allowance room ≡ and_then Err (check w values cells) (evaluating.afford f 1 allowance room)
  -- judged under any sheet that leaves the table's marks as they are: finishing takes no sheet, and keeps these
  pub agrees : (sheet values cells : List ℕ) (allowance room : ℕ) (v : Verdict) → LeavesMarks w sheet → judgement w sheet values cells allowance room ≡ Ok v
      → (allowance' : ℕ) (work : List ℕ) (s : Spent) → evaluating.evaluation f values cells allowance' (length work) ≡ Ok s
      → SameAnswers w e v (evaluating.room_after (Ok s) f values cells work)

-- what finishing promises besides its answer: nothing for a refusal. room is what it left
abbrev pub FinishingPromise : List ℕ → List ℕ → Finishing → Type 0
FinishingPromise w room (Ok e) = Faithful w (take (e.terms * words) room) e
FinishingPromise w room (Err r) = Unit {0}

-- Finish knows 1 to 10 and 21: none is given on other grounds. Of a finished table nothing is said.
abbrev pub finish_numbers : ℕ → Bool
finish_numbers number = between 1 10 number || eqb number 21

abbrev pub NotFinishedBy : (ℕ → Bool) → Finishing → Type 0
NotFinishedBy numbers (Ok e) = Unit {0}
NotFinishedBy numbers (Err r) = numbers r.number ≡ true

abbrev pub FinishingNumbers : Type 0
FinishingNumbers = (w : List ℕ) (room : ℕ) → NotFinishedBy finish_numbers (finishing w room)
