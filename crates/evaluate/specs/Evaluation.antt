-- What evaluating answers, and what it leaves in the work room: paper 01, "Results", 22 and 23.
-- Assumes nothing.
use Rattle.std.specs.Prelude.{Ok, Err, Bool, true, false, cond, List, ◌++◌, ℕ, ◌-◌, ◌*◌, ltb, drop, Result}
use Rattle.table.specs.Answers.{Acceptance}
use Rattle.table.specs.Terms.{terms}
use Rattle.table.specs.Admission.{and_then, admission_within}
use Rattle.setting.specs.Cells.{look}
use Rattle.setting.specs.declared.cells.Cell.{Cell}
use Rattle.setting.specs.Check.{check_by, check}
use Rattle.setting.specs.Interpretation.{Interpretation, interpret}
use Rattle.table.specs.declared.Refusal.{Refusal}
use Rattle.evaluate.specs.declared.Spent.{Spent}
use Rattle.evaluate.specs.Values.{numbers}
use Rattle.evaluate.specs.Steps.{steps}

-- what was spent, or the first refusal
abbrev pub Evaluation : Type 0
Evaluation = Result Spent Refusal

abbrev pub not_evaluated : ℕ → ℕ → Evaluation
not_evaluated number place = Err (record { number = number; place = place })

abbrev pub evaluates : Evaluation → Bool
evaluates (Ok s) = true
evaluates (Err r) = false

-- 22 the work room is too short (numbers needed): each numbers a term. 23 the allowance is below the table's steps (steps needed).
-- Else the steps, and the allowance left
unfoldable pub afford : List ℕ → ℕ → ℕ → ℕ → Evaluation
afford w each allowance room =
    let needed = terms w * each in
    let spent = steps w (terms w) in
    cond (ltb room needed) (not_evaluated 22 needed)
    (cond (ltb allowance spent) (not_evaluated 23 spent)
    (Ok (record { steps = spent; left = allowance - spent })))

-- what admission says, 1 to 10 and for a judgement 16; then what the check of the setting says, 11 to 15; then 22 and 23
abbrev pub ready_by : List ℕ → Acceptance → Acceptance → ℕ → ℕ → ℕ → Evaluation
ready_by w admitted checked each allowance room = and_then Err admitted (and_then Err checked (afford w each allowance room))

-- by a limit on the terms
abbrev pub ready : ℕ → List ℕ → List ℕ → List ℕ → ℕ → ℕ → ℕ → Evaluation
ready limit w values cells each allowance room = ready_by w (admission_within limit w) (check w values cells) each allowance room

-- evaluating: at most 80,000 terms, one number a term; the cells are a row of any form, and its last cell may be cut
abbrev pub evaluation_in : Bool → List ℕ → List ℕ → (ℕ → Cell) → ℕ → ℕ → ℕ → Evaluation
evaluation_in cut w values cells count allowance room = ready_by w (admission_within 80000 w) (check_by cut w values cells count) 1 allowance room

-- of a row of numbers
abbrev pub evaluation : List ℕ → List ℕ → List ℕ → ℕ → ℕ → Evaluation
evaluation w values cells allowance room = ready 80000 w values cells 1 allowance room

-- the room: its front holds the terms' values in the setting's interpretation, its rest is untouched; a refusal leaves it as it was
abbrev pub room_in : Evaluation → List ℕ → Interpretation → List ℕ → List ℕ
room_in (Ok s) w I room = numbers w I (terms w) ++ drop (terms w) room
room_in (Err r) w I room = room

abbrev pub room_after : Evaluation → List ℕ → List ℕ → List ℕ → List ℕ → List ℕ
room_after e w values cells room = room_in e w (interpret values (look cells)) room
