-- What is promised of finished tables, put together.
-- Assumes nothing.
use Rattle.std.specs.Prelude.{Ok, Err}
use mathlib.Core.Path.{◌≡◌, refl, sym, ap, ap₂, subst, ◌∙◌}
use mathlib.Core.Bool.{Bool, true, ◌&&◌}
use mathlib.Core.List.{List, ◌++◌}
use Prim.Native.Nat.{ℕ, zero, suc, pred, ◌+◌, ◌*◌, ◌≤◌, ◌<◌}
use Prim.{tt}
use native.Mathlib.Nat.{not-suc-le-zero, le_of_suc-le-suc}
use native.Mathlib.Omega.{arith}
use lib.Dec.{eqb}
use lib.ListN.{length, get_or, take, drop, get_or-append}
use lib.Seq.{take-append_seam}
use borrow.Author.Tests.{eqb-true, leb-true}
use Rattle.ops.specs.Meaning.{bit, holds}
use Rattle.ops.specs.Fits.{fits}
use Rattle.ops.proofs.Booleans.{and_parts}
use Rattle.table.specs.declared.words.Term.{Term}
use Rattle.table.specs.Answers.{Acceptance, accepted}
use Rattle.table.specs.Terms.{words, terms, term_at, sort_at}
use Rattle.table.specs.Faults.{fields, placed_as}
use Rattle.table.specs.Admission.{and_then, admission_within, admission}
use Rattle.table.specs.WellFormed.{WellFormed}
use Rattle.table.proofs.Admitted.{admission-sound, admission_complete}
use Rattle.setting.specs.Cells.{look}
use Rattle.setting.specs.Check.{check}
use Rattle.setting.specs.Interpretation.{Value, Interpretation, interpret}
use Rattle.evaluate.specs.Evaluation.{Evaluation}
use Rattle.evaluate.specs.Values.{value_at, numbers}
use Rattle.evaluate.specs.Evaluation.{evaluates, afford, ready_by}
use Rattle.evaluate.proofs.Fitting.{checked-values_fit}
use Rattle.evaluate.proofs.Folds.{length-numbers, number_in, value-below}
use Rattle.table.proofs.OperandSorts.{boolean-scalar, two_placed}
use Rattle.judge.specs.declared.Verdict.{Verdict}
use Rattle.judge.specs.Judgement.{Judgement}
use Rattle.sheets.specs.Marks.{own_marks, marks_under}
use Rattle.judge.specs.Conditions.{Condition}
use Rattle.judge.specs.Judgement.{admission_under, rule_in, rule_condition, verdict_by}
use Rattle.judge.proofs.SheetMarks.{condition_alike, passed_under}
use Rattle.groups.specs.Added.{and_t}
use Rattle.groups.specs.Plans.{next, plans}
use Rattle.finish.specs.Finished.{condition_number, added, finished, extent, room_after}
use Rattle.finish.specs.Laws.{FinishedAdmitted, KeepsValues, ConditionsAgree, LastIsConjunction, SettingsAgree, SameAnswers, Faithful, FinishingPromise}
use Rattle.finish.proofs.Layouts.{Layout, count_is, last_at, finished_layout}
use Rattle.finish.proofs.AddedSizes.{added-few}
use Rattle.finish.proofs.Settings.{check-same}
use Rattle.finish.proofs.Admitted.{admitted_of}
use Rattle.finish.proofs.Agreement.{keeps_values, scalar_neither, conditions_agree, last_agrees}

-- Of finished tables

-- at most 512 + 3 + 145 × 512 terms
pub finished_admitted : FinishedAdmitted
finished_admitted w F =
    let l = finished_layout w F in
    let count : terms (finished w) ≡ terms w + length (added w) = l.count in
    let most : length (added w) ≤ 3 + 145 * terms w = (added-few w F).by_terms in
    let few : terms w ≤ 512 = F.few in
    admitted_of w (finished w) F l (omega arith)

pub values_kept : KeepsValues
values_kept w I F k b = keeps_values w (finished w) I F (finished_layout w F) k b

pub conditions_are : ConditionsAgree
conditions_are w I F k b s c = conditions_agree w (finished w) I F (finished_layout w F) (finished_admitted w F) k b s c

pub last_is_conjunction : LastIsConjunction
last_is_conjunction w I F =
    let l = finished_layout w F in
    let e : pred (terms (finished w)) ≡ next w (plans w own_marks (terms w)) = omega (arith, count_is w (finished w) l) in
    ap (λ (k : ℕ). (value_at (finished w) I k).num) e ∙ last_agrees w (finished w) I F l (finished_admitted w F)

pub settings_agree : SettingsAgree
settings_agree w values cells F = check-same w (finished w) values cells F (finished_layout w F)

-- What a judgement says that is not refused

-- that nothing before it refused, and what rule and condition are; of a refusal nothing
abbrev Says : Evaluation → Bool → Bool → Judgement → Type 0
Says e rule condition (Ok v) = (evaluates e ≡ true) × (v.rule ≡ rule) × (v.condition ≡ condition)
Says e rule condition (Err r) = Unit {0}

says : (e : Evaluation) (rule condition : Bool) → Says e rule condition (verdict_by e rule condition)
says (Ok s) rule condition = (refl, refl, refl)
says (Err r) rule condition = tt

-- a Boolean's number is that of its truth
is-bit : (x : ℕ) → x ≤ 1 → x ≡ bit (holds x)
is-bit zero b = refl
is-bit (suc zero) b = refl
is-bit (suc (suc x)) b = absurd (not-suc-le-zero (le_of_suc-le-suc b))

-- What an evaluation leaves in its room

number_read : (f : List ℕ) (I : Interpretation) (rest : List ℕ) (k : ℕ) → k < terms f → get_or (numbers f I (terms f) ++ rest) k 0 ≡ (value_at f I k).num
number_read f I rest k b =
    get_or-append (numbers f I (terms f)) rest 0 k (rw (length-numbers f I (terms f)) b)
    ∙ number_in f I (terms f) k
    ∙ ap (λ (v : Value). v.num) (value-below f I (terms f) k b)

module _ (w : List ℕ) (F : WellFormed 512 w) where
  abbrev f : List ℕ
  f = finished w

  abbrev rule : ℕ
  rule = pred (terms w)

  layout : Layout w f
  layout = finished_layout w F

  rule_in_lem : pred (terms w) < terms w
  rule_in_lem = let some : 0 < terms w = F.some in omega arith

  last_is : pred (terms f) ≡ next w (plans w own_marks (terms w))
  last_is = omega (arith, count_is w f layout)

  last_in : pred (terms f) < terms f
  last_in = omega (arith, count_is w f layout)

  -- the operands of the last term stand below it
  below_last : (rule < pred (terms f)) × (condition_number w rule < pred (terms f))
  below_last =
      let last : Term = and_t rule (condition_number w rule) in
      two_placed (pred (terms f)) last
      (subst (λ (x : Term). placed_as (fields x) (pred (terms f)) x ≡ true) (ap (term_at f) last_is ∙ last_at w f layout)
      ((finished_admitted w F).sound (pred (terms f)) last_in).is_placed)

  module _ (values cells : List ℕ) (checked : check w values cells ≡ accepted) where
    abbrev I : Interpretation
    I = interpret values (look cells)

    -- the rule's number is 0 or 1 in a setting that is not refused
    rule_bit : (value_at w I rule).num ≡ bit (rule_in w I)
    rule_bit =
        let s = sort_at w rule in
        let fit : fits s.n (value_at w I rule).num ≡ true = (checked-values_fit 512 w values cells F checked rule rule_in_lem).num (boolean-scalar s F.rule) in
        let n_is : s.n ≡ 0 = eqb-true s.n 0 (and_parts (eqb s.m 0) (eqb s.n 0) F.rule).1 in
        is-bit (value_at w I rule).num (leb-true (value_at w I rule).num 1 (subst (λ (n : ℕ). fits n (value_at w I rule).num ≡ true) n_is fit))

    same-answers : (rest : List ℕ) (v : Verdict) → v.rule ≡ rule_in w I → v.condition ≡ rule_condition w own_marks I → SameAnswers w (extent w) v (numbers f I (terms f) ++ rest)
    same-answers rest v r c =
        let inside = last_in in
        let below = below_last in
        let none = scalar_neither w f I F layout (finished_admitted w F) rule rule_in_lem (boolean-scalar (sort_at w rule) F.rule) in
        record {
          rule = number_read f I rest rule (omega (arith, inside, below.0)) ∙ ap (λ (x : Value). x.num) (values_kept w I F rule rule_in_lem) ∙ rule_bit ∙ ap bit (sym r);
          condition = number_read f I rest (condition_number w rule) (omega (arith, inside, below.1)) ∙ conditions_are w I F rule rule_in_lem none.0 none.1 ∙ ap bit (sym c);
          conjunction =
              number_read f I rest (pred (terms f)) inside
              ∙ last_is_conjunction w I F
              ∙ ap₂ (λ (a b : Bool). bit (a && b)) (sym r) (sym c);
        }

pub faithful : (w : List ℕ) → WellFormed 512 w → Faithful w (finished w) (extent w)
faithful w F =
    let f = finished w in
    let admitted : admission_within 80000 f ≡ accepted = admission_complete 80000 f (finished_admitted w F) in
    record {
      few = added-few w F;
      count = (finished_layout w F).count;
      admitted = admitted;
      evaluated = λ values cells allowance room. ap₂ (λ (a b : Acceptance). and_then Err a (and_then Err b (afford f 1 allowance room))) admitted (settings_agree w values cells F);
      agrees = λ sheet values cells allowance room v leaves h allowance' work s _.
          let I = interpret values (look cells) in
          let e = ready_by w (admission_under w sheet) (check w values cells) 2 allowance room in
          let told = subst (Says e (rule_in w I) (rule_condition w (marks_under sheet) I)) h (says e (rule_in w I) (rule_condition w (marks_under sheet) I)) in
          let some : 0 < terms w = F.some in
          let own = ap (λ (c : Condition). c.free) (condition_alike w (marks_under sheet) own_marks I leaves (pred (terms w)) (omega arith)) in
          same-answers w F values cells (passed_under w sheet (check w values cells) 2 allowance room told.0).checked (drop (terms f) work) v told.1 (told.2 ∙ own);
    }

-- for the code: of what finishing left in its room
pub promise : (w room : List ℕ) → admission w ≡ accepted → FinishingPromise w (room_after (Ok (extent w)) w room) (Ok (extent w))
promise w room h =
    let F = admission-sound 512 w h in
    let f = finished w in
    let rest = drop (length f) room in
    let front : take (terms f * words) (f ++ rest) ≡ f = ap (λ (n : ℕ). take n (f ++ rest)) (sym (finished_layout w F).whole) ∙ take-append_seam f rest in
    subst (λ (t : List ℕ). Faithful w t (extent w)) (sym front) (faithful w F)
