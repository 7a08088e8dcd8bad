-- Demand 3, of every judgement.
-- Assumes nothing.
use Rattle.std.specs.Prelude.{Ok, Err}
use mathlib.Core.Path.{◌≡◌, refl, sym, subst, ◌∙◌}
use mathlib.Core.Bool.{Bool, true, false, cond}
use mathlib.Core.List.{List}
use Prim.Native.Nat.{ℕ, ◌-◌, ◌*◌}
use Prim.{tt}
use lib.Dec.{ltb}
use Rattle.ops.proofs.Booleans.{and_parts}
use Rattle.table.specs.Answers.{Acceptance}
use Rattle.table.specs.declared.words.Term.{Term}
use Rattle.table.specs.Terms.{terms}
use Rattle.table.specs.Admission.{and_then}
use Rattle.table.specs.WellFormed.{WellFormed}
use Rattle.table.proofs.Admitted.{admission-sound}
use Rattle.sheets.specs.Marks.{marks_under}
use Rattle.setting.specs.Cells.{look}
use Rattle.setting.specs.Check.{check}
use Rattle.setting.specs.Interpretation.{Interpretation, interpret, FitInputs, AgreeUnmarked}
use Rattle.setting.proofs.Checked.{checked-fits}
use Rattle.evaluate.specs.Evaluation.{Evaluation}
use Rattle.evaluate.specs.Steps.{steps}
use Rattle.evaluate.specs.Evaluation.{not_evaluated, evaluates, afford, ready_by}
use Rattle.judge.specs.declared.Verdict.{Verdict}
use Rattle.judge.specs.Judgement.{Judgement}
use Rattle.judge.specs.Judgement.{admission_under, rule_in, rule_condition, verdict, judgement, passes}
use Rattle.judge.specs.Demand3.{SameVerdict, JudgementPromise, Demand3}
use Rattle.judge.proofs.Alike.{independence}
use Rattle.judge.proofs.SheetMarks.{passed_under}

-- The steps that an evaluation spent

-- those that it reports, where it is no refusal
abbrev Spends : ℕ → Evaluation → Type 0
Spends n (Ok s) = s.steps ≡ n
Spends n (Err r) = Unit {0}

-- a refusal before it, or none, changes nothing of that
spends_then : (n : ℕ) (a : Acceptance) (e : Evaluation) → Spends n e → Spends n (and_then Err a e)
spends_then n (Ok _) e h = h
spends_then n (Err r) e h = tt

spends_unless : (n : ℕ) (b : Bool) (number place : ℕ) (e : Evaluation) → Spends n e → Spends n (cond b (not_evaluated number place) e)
spends_unless n true number place e h = tt
spends_unless n false number place e h = h

-- they are the table's
afford_spends : (w : List ℕ) (each allowance room : ℕ) → Spends (steps w (terms w)) (afford w each allowance room)
unfolding afford
afford_spends w each allowance room =
    let spent : ℕ = steps w (terms w) in
    let last : Evaluation = Ok (record { steps = spent; left = allowance - spent }) in
    spends_unless spent (ltb room (terms w * each)) 22 (terms w * each) (cond (ltb allowance spent) (not_evaluated 23 spent) last)
    (spends_unless spent (ltb allowance spent) 23 spent last refl)

ready_spends : (w : List ℕ) (admitted checked : Acceptance) (each allowance room : ℕ) → Spends (steps w (terms w)) (ready_by w admitted checked each allowance room)
ready_spends w admitted checked each allowance room =
    spends_then (steps w (terms w)) admitted (and_then Err checked (afford w each allowance room))
    (spends_then (steps w (terms w)) checked (afford w each allowance room) (afford_spends w each allowance room))

-- What is known of a verdict

-- a judgement that is no refusal: the table is well formed, the setting fits, and this is what it says
pub record Known (marked : Term → Bool) (w values cells : List ℕ) (v : Verdict) : Type 0 where
  pub formed : WellFormed 512 w
  pub fit : FitInputs w (interpret values (look cells))
  pub rule : v.rule ≡ rule_in w (interpret values (look cells))
  pub condition : v.condition ≡ rule_condition w marked (interpret values (look cells))
  pub steps : v.steps ≡ steps w (terms w)

-- (a) two verdicts of settings that agree on every unmarked input
same-verdict : (marked : Term → Bool) (w values cells values' cells' : List ℕ) (v v' : Verdict) → Known marked w values cells v → Known marked w values' cells' v'
    → AgreeUnmarked w marked (interpret values (look cells)) (interpret values' (look cells')) → SameVerdict v v'
same-verdict marked w values cells values' cells' v v' k k' agree =
    let one = independence 512 w marked (interpret values (look cells)) (interpret values' (look cells')) k.formed k.fit k'.fit agree in
    record {
      condition = k.condition ∙ one.condition ∙ sym k'.condition;
      steps = k.steps ∙ sym k'.steps;
      rule = λ h. k.rule ∙ one.rule (sym k.condition ∙ h) ∙ sym k'.rule;
    }

-- (b) a verdict that passes, and an interpretation that agrees
sure_of : (marked : Term → Bool) (w values cells : List ℕ) (v : Verdict) → Known marked w values cells v → passes v ≡ true
    → (I : Interpretation) → FitInputs w I → AgreeUnmarked w marked (interpret values (look cells)) I → rule_in w I ≡ true
sure_of marked w values cells v k h I fit agree =
    let both = and_parts v.rule v.condition h in
    sym ((independence 512 w marked (interpret values (look cells)) I k.formed k.fit fit agree).rule (sym k.condition ∙ both.1)) ∙ sym k.rule ∙ both.0

module _ (w sheet : List ℕ) where
  -- the same of a judgement under a sheet: nothing of a refusal
  abbrev KnownOf : List ℕ → List ℕ → Judgement → Type 0
  KnownOf values cells (Ok v) = Known (marks_under sheet) w values cells v
  KnownOf values cells (Err r) = Unit {0}

  -- it is so of every judgement
  known : (values cells : List ℕ) (allowance room : ℕ) → KnownOf values cells (judgement w sheet values cells allowance room)
  known values cells allowance room =
      go (ready_by w (admission_under w sheet) (check w values cells) 2 allowance room) (ready_spends w (admission_under w sheet) (check w values cells) 2 allowance room)
      (λ h. let p = passed_under w sheet (check w values cells) 2 allowance room h in let f = admission-sound 512 w p.admitted in (f, checked-fits 512 w values cells f p.checked))
    where
      go : (e : Evaluation) → Spends (steps w (terms w)) e → (evaluates e ≡ true → WellFormed 512 w × FitInputs w (interpret values (look cells))) → KnownOf values cells (verdict e w (marks_under sheet) (interpret values (look cells)))
      go (Ok s) h f = record { formed = (f refl).0; fit = (f refl).1; rule = refl; condition = refl; steps = h }
      go (Err r) h f = tt

  -- both, of every judgement
  promised : (values cells : List ℕ) (j : Judgement) → KnownOf values cells j → JudgementPromise w sheet values cells j
  promised values cells (Ok v) k =
      record {
        same = λ values' cells' allowance' room' v' e agree.
            same-verdict (marks_under sheet) w values cells values' cells' v v' k (subst (KnownOf values' cells') e (known values' cells' allowance' room')) agree;
        sure = sure_of (marks_under sheet) w values cells v k;
      }
  promised values cells (Err r) k = tt

pub demand3 : Demand3
demand3 w sheet values cells allowance room = promised w sheet values cells (judgement w sheet values cells allowance room) (known w sheet values cells allowance room)
