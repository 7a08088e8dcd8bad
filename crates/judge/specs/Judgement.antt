-- What judging answers, and what it leaves in the work room: paper 01, "Results".
-- Assumes nothing.
use Rattle.std.specs.Prelude.{Ok, Err, Bool, ◌&&◌, List, ◌++◌, ℕ, pred, ◌*◌, drop, Result}
use Rattle.ops.specs.Meaning.{holds}
use Rattle.table.specs.declared.words.Term.{Term}
use Rattle.table.specs.Terms.{terms}
use Rattle.table.specs.Answers.{Acceptance}
use Rattle.table.specs.Admission.{and_then, admission}
use Rattle.sheets.specs.Marks.{marks_under}
use Rattle.sheets.specs.Check.{sheet_check}
use Rattle.setting.specs.Cells.{look}
use Rattle.setting.specs.declared.cells.Cell.{Cell}
use Rattle.setting.specs.Check.{check_by, check}
use Rattle.setting.specs.Interpretation.{Interpretation, interpret, in_cells}
use Rattle.evaluate.specs.Evaluation.{Evaluation}
use Rattle.evaluate.specs.Evaluation.{ready_by, ready}
use Rattle.evaluate.specs.Values.{value_at, numbers}
use Rattle.judge.specs.declared.Verdict.{Verdict}
use Rattle.table.specs.declared.Refusal.{Refusal}
use Rattle.judge.specs.Conditions.{condition_at, truths}

-- a verdict, or the first refusal
abbrev pub Judgement : Type 0
Judgement = Result Verdict Refusal

-- the rule is the last term: its value and its condition in an interpretation; which terms are marked is a parameter
abbrev pub rule_in : List ℕ → Interpretation → Bool
rule_in w I = holds (value_at w I (pred (terms w))).num

abbrev pub rule_condition : List ℕ → (Term → Bool) → Interpretation → Bool
rule_condition w marked I = (condition_at w marked I (pred (terms w))).free

-- rule, condition, steps and allowance left, or the refusal
abbrev pub verdict_by : Evaluation → Bool → Bool → Judgement
verdict_by (Ok s) rule condition = Ok (record { rule = rule; condition = condition; steps = s.steps; left = s.left })
verdict_by (Err r) rule condition = Err r

abbrev pub verdict : Evaluation → List ℕ → (Term → Bool) → Interpretation → Judgement
verdict e w marked I = verdict_by e (rule_in w I) (rule_condition w marked I)

-- judging by any marks: at most 512 terms, two numbers a term
abbrev pub judgement_under : (Term → Bool) → List ℕ → List ℕ → List ℕ → ℕ → ℕ → Judgement
judgement_under marked w values cells allowance room = verdict (ready 512 w values cells 2 allowance room) w marked (interpret values (look cells))

-- 1 to 10, then 16
abbrev pub admission_under : List ℕ → List ℕ → Acceptance
admission_under w sheet = and_then Err (admission w) (sheet_check sheet)

-- by the marks that hold under a sheet; the cells are a row of any form, and its last cell may be cut
abbrev pub judgement_in : Bool → List ℕ → List ℕ → List ℕ → (ℕ → Cell) → ℕ → ℕ → ℕ → Judgement
judgement_in cut w sheet values cells count allowance room =
    verdict (ready_by w (admission_under w sheet) (check_by cut w values cells count) 2 allowance room) w (marks_under sheet) (in_cells values cells count)

-- of a row of numbers
abbrev pub judgement : List ℕ → List ℕ → List ℕ → List ℕ → ℕ → ℕ → Judgement
judgement w sheet values cells allowance room =
    verdict (ready_by w (admission_under w sheet) (check w values cells) 2 allowance room) w (marks_under sheet) (interpret values (look cells))

-- a setting passes just where rule and condition are both true
abbrev pub passes : Verdict → Bool
passes v = v.rule && v.condition

-- the room: the n values, then the n truths, in the setting's interpretation, its rest untouched; a refusal leaves it as it was
abbrev pub room_in : Judgement → List ℕ → (Term → Bool) → Interpretation → List ℕ → List ℕ
room_in (Ok v) w marked I room = numbers w I (terms w) ++ truths w marked I (terms w) ++ drop (terms w * 2) room
room_in (Err r) w marked I room = room

abbrev pub room_after : Judgement → List ℕ → List ℕ → List ℕ → List ℕ → List ℕ → List ℕ
room_after j w sheet values cells room = room_in j w (marks_under sheet) (interpret values (look cells)) room
