-- What holds of every answer of judging: its numbers, and that values of unused slots do not enter; and P12 at every value.
-- Assumes nothing.
use Rattle.std.specs.Prelude.{Ok, Err}
use mathlib.Core.Path.{◌≡◌, refl, ap, ap₂, ◌∙◌}
use mathlib.Core.Bool.{Bool, true, false, not, ◌||◌}
use mathlib.Core.List.{List, map, ◌++◌}
use Prim.Native.Nat.{ℕ, pred, ◌*◌, ◌≤◌, ◌<◌}
use Prim.{tt}
use native.Mathlib.Omega.{arith}
use lib.Dec.{ltb}
use lib.ListN.{length, drop}
use Rattle.ops.specs.Meaning.{bit, holds, apply}
use Rattle.ops.specs.Condition.{settles}
use Rattle.table.specs.Answers.{Acceptance}
use Rattle.table.specs.declared.words.Term.{Term}
use Rattle.table.specs.Folds.{fold}
use Rattle.table.specs.Admission.{and_then, admission}
use Rattle.table.specs.Refusals.{between, RefusedBy}
use Rattle.table.proofs.Refusals.{wider}
use Rattle.table.specs.Terms.{terms, term_at}
use Rattle.table.specs.Faults.{is_variable}
use Rattle.table.proofs.Admitted.{admission-sound}
use Rattle.table.proofs.FoldLaws.{fold_same}
use Rattle.setting.specs.Cells.{look}
use Rattle.setting.specs.Check.{check}
use Rattle.setting.proofs.Refusals.{check_by}
use Rattle.setting.specs.Laws.{OneUsedValues}
use Rattle.setting.specs.Interpretation.{Value, Interpretation, interpret}
use Rattle.setting.proofs.UnusedSlots.{input-same, unused_unchecked}
use Rattle.evaluate.specs.Evaluation.{Evaluation}
use Rattle.evaluate.specs.Values.{value_by, value_in, values, numbers}
use Rattle.evaluate.specs.Evaluation.{evaluates, ready_by}
use Rattle.evaluate.specs.Laws.{NotEvaluatedBy}
use Rattle.evaluate.proofs.Refusals.{admitted_by, ready_by_lem}
use Rattle.evaluate.proofs.UnusedSlots.{values_same, value_at-same, numbers-same}
use Rattle.judge.specs.Judgement.{Judgement}
use Rattle.judge.specs.Conditions.{Condition, condition_by, condition_in, condition_from, conditions, condition_at, truths}
use Rattle.sheets.specs.Marks.{marks_under}
use Rattle.sheets.specs.Check.{sheet_check}
use Rattle.sheets.specs.Laws.{RefusedBy16}
use Rattle.sheets.proofs.Checking.{sheet_numbers}
use Rattle.judge.proofs.SheetMarks.{passed_under}
use Rattle.judge.specs.Judgement.{admission_under, rule_in, rule_condition, verdict_by, verdict, judgement, room_after}
use Rattle.judge.specs.Laws.{judge_numbers, NotJudgedBy, JudgementNumbers, UnusedUnjudged, AlwaysDependent}

-- The numbers

pub judged-by : (numbers : ℕ → Bool) (e : Evaluation) (rule condition : Bool) → NotEvaluatedBy numbers e → NotJudgedBy numbers (verdict_by e rule condition)
judged-by numbers (Ok s) rule condition h = tt
judged-by numbers (Err r) rule condition h = h

in-judging : (low high number : ℕ) → (between low high number ≡ true → between 1 16 number ≡ true) → between low high number ≡ true → judge_numbers number ≡ true
in-judging low high number h e = rw (h e)

ten : (number : ℕ) → between 1 10 number ≡ true → judge_numbers number ≡ true
ten number = in-judging 1 10 number (wider 1 1 10 16 number (omega arith) (omega arith))

-- of any numbers that have 16 and those of admission
pub under-by : (numbers : ℕ → Bool) → numbers 16 ≡ true → (w sheet : List ℕ) → RefusedBy numbers (admission w) → RefusedBy numbers (admission_under w sheet)
under-by numbers sixteen w sheet h = go (admission w) (sheet_check sheet) h (sheet_numbers sheet)
  where
    go : (a s : Acceptance) → RefusedBy numbers a → RefusedBy16 s → RefusedBy numbers (and_then Err a s)
    go (Ok _) (Ok _) h g = tt
    go (Ok _) (Err r) h g = ap numbers g ∙ sixteen
    go (Err r) s h g = h

pub judgement-numbers : JudgementNumbers
judgement-numbers w sheet values cells allowance room =
    let I = interpret values (look cells) in
    judged-by judge_numbers (ready_by w (admission_under w sheet) (check w values cells) 2 allowance room) (rule_in w I) (rule_condition w (marks_under sheet) I)
    (ready_by_lem judge_numbers ten refl refl w (admission_under w sheet) (check w values cells) 2 allowance room (under-by judge_numbers refl w sheet (admitted_by judge_numbers ten refl refl 512 w))
    (check_by (RefusedBy judge_numbers) tt (λ number place. in-judging 11 15 number (wider 11 1 15 16 number (omega arith) (omega arith))) w values cells))

-- Two interpretations that are one at every slot that a variable uses

module _ (w : List ℕ) (marked : Term → Bool) (I I' : Interpretation) (one : (k : ℕ) → k < terms w → is_variable (term_at w k) ≡ true → I (term_at w k).p ≡ I' (term_at w k).p) where
  conditions-same : (n : ℕ) → n ≤ terms w → conditions w marked I n ≡ conditions w marked I' n
  conditions-same n b = fold_same _ _ n (λ k c l. ap (λ (vs : List Value). condition_from w marked (value_in vs) (condition_in l) (term_at w k)) (values_same w I I' one k (omega arith)))

  condition-at-same : (k : ℕ) → k < terms w → condition_at w marked I k ≡ condition_at w marked I' k
  condition-at-same k b =
      ap₂ (λ (vs : List Value) (cs : List Condition). condition_from w marked (value_in vs) (condition_in cs) (term_at w k)) (values_same w I I' one k (omega arith)) (conditions-same k (omega arith))

  runs_same : (rest : List ℕ) → numbers w I (terms w) ++ truths w marked I (terms w) ++ rest ≡ numbers w I' (terms w) ++ truths w marked I' (terms w) ++ rest
  runs_same rest = ap₂ (λ a (cs : List Condition). a ++ map (λ c. bit c.free) cs ++ rest) (numbers-same w I I' one) (conditions-same (terms w) (omega arith))

module _ (w sheet values values' cells : List ℕ) (allowance room : ℕ) (one : OneUsedValues w values values') where
  abbrev I : Interpretation
  I = interpret values (look cells)

  abbrev I' : Interpretation
  I' = interpret values' (look cells)

  inputs : (k : ℕ) → k < terms w → is_variable (term_at w k) ≡ true → I (term_at w k).p ≡ I' (term_at w k).p
  inputs = input-same w values values' one (look cells)

  -- a table that is judged has a rule
  some : evaluates (ready_by w (admission_under w sheet) (check w values' cells) 2 allowance room) ≡ true → pred (terms w) < terms w
  some h =
      let f = admission-sound 512 w (passed_under w sheet (check w values' cells) 2 allowance room h).admitted in
      let b : 0 < terms w = f.some in
      omega arith

  verdict-same : (e : Evaluation) → (evaluates e ≡ true → pred (terms w) < terms w) → verdict e w (marks_under sheet) I ≡ verdict e w (marks_under sheet) I'
  verdict-same (Ok s) h =
      ap₂ (λ (v : Value) (c : Condition). verdict_by (Ok s) (holds v.num) c.free) (value_at-same w I I' inputs (pred (terms w)) (h refl))
      (condition-at-same w (marks_under sheet) I I' inputs (pred (terms w)) (h refl))
  verdict-same (Err r) h = refl

  judgement-same : judgement w sheet values cells allowance room ≡ judgement w sheet values' cells allowance room
  judgement-same =
      ap (λ c. verdict (ready_by w (admission_under w sheet) c 2 allowance room) w (marks_under sheet) I) (unused_unchecked w values values' cells one)
      ∙ verdict-same (ready_by w (admission_under w sheet) (check w values' cells) 2 allowance room) some

  room-same : (before : List ℕ) (j : Judgement) → room_after j w sheet values cells before ≡ room_after j w sheet values' cells before
  room-same before (Ok v) = runs_same w (marks_under sheet) I I' inputs (drop (terms w * 2) before)
  room-same before (Err r) = refl

pub unused-unjudged : UnusedUnjudged
unused-unjudged w sheet values values' cells allowance room one =
    let answer = judgement-same w sheet values values' cells allowance (length room) one in
    record {
      answer = answer;
      left = ap (λ j. room_after j w sheet values cells room) answer ∙ room-same w sheet values values' cells allowance (length room) one room (judgement w sheet values' cells allowance (length room));
    }

-- P12: one of the two sides is true, and neither is free
pub always-dependent : AlwaysDependent
unfolding fold value_by condition_by apply settles
always-dependent I = (go (ltb (I 0).num 5), refl)
  where
    go : (b : Bool) → holds (bit (holds (bit b) || holds (bit (not (holds (bit b)))))) ≡ true
    go true = refl
    go false = refl
