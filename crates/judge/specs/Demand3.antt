-- Demand 3: paper 01, "What demand 3 compares".
-- Assumes nothing.
use Rattle.std.specs.Prelude.{Ok, Err, ◌≡◌, Bool, true, List, ℕ}
use Rattle.table.specs.declared.words.Term.{Term}
use Rattle.table.specs.WellFormed.{WellFormed}
use Rattle.sheets.specs.Marks.{marks_under}
use Rattle.setting.specs.Cells.{look}
use Rattle.setting.specs.Interpretation.{Interpretation, interpret, FitInputs, AgreeUnmarked}
use Rattle.judge.specs.declared.Verdict.{Verdict}
use Rattle.judge.specs.Judgement.{Judgement}
use Rattle.judge.specs.Judgement.{rule_in, rule_condition, judgement, passes}

-- Of interpretations, under any marks: two that fit and agree on every unmarked input give the rule one condition, and where it is true one value.
pub record OneCondition (w : List ℕ) (marked : Term → Bool) (I I' : Interpretation) : Type 0 where
  pub condition : rule_condition w marked I ≡ rule_condition w marked I'
  pub rule : rule_condition w marked I ≡ true → rule_in w I ≡ rule_in w I'

abbrev pub Independence : Type 0
Independence =
    (limit : ℕ) (w : List ℕ) (marked : Term → Bool) (I I' : Interpretation) → WellFormed limit w → FitInputs w I → FitInputs w I'
    → AgreeUnmarked w marked I I' → OneCondition w marked I I'

-- (a) of two judgements of one table under one sheet that are not refused, in settings that agree on every input that is unmarked
-- under it, whatever the marked inputs, the rows' lengths and listings, the allowances and the rooms: one condition, one count of steps,
-- and where the condition is true one value of the rule
pub record SameVerdict (v v' : Verdict) : Type 0 where
  pub condition : v.condition ≡ v'.condition
  pub steps : v.steps ≡ v'.steps
  pub rule : v.condition ≡ true → v.rule ≡ v'.rule

-- (b) where a setting passes, the rule's SMT-LIB value is true in every fitting interpretation that agrees with it on these inputs
pub record Independent (w sheet values cells : List ℕ) (v : Verdict) : Type 0 where
  pub same : (values' cells' : List ℕ) (allowance' room' : ℕ) (v' : Verdict) → judgement w sheet values' cells' allowance' room' ≡ Ok v'
      → AgreeUnmarked w (marks_under sheet) (interpret values (look cells)) (interpret values' (look cells')) → SameVerdict v v'
  pub sure : passes v ≡ true → (I : Interpretation) → FitInputs w I → AgreeUnmarked w (marks_under sheet) (interpret values (look cells)) I → rule_in w I ≡ true

-- what a judgement promises besides its answer: nothing for a refusal
abbrev pub JudgementPromise : List ℕ → List ℕ → List ℕ → List ℕ → Judgement → Type 0
JudgementPromise w sheet values cells (Ok v) = Independent w sheet values cells v
JudgementPromise w sheet values cells (Err r) = Unit {0}

-- Demand 3, of every judgement
abbrev pub Demand3 : Type 0
Demand3 = (w sheet values cells : List ℕ) (allowance room : ℕ) → JudgementPromise w sheet values cells (judgement w sheet values cells allowance room)
