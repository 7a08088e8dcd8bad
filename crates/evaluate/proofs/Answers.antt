-- What an answer leaves: of an admission, of what was asked before, and of the room.
-- Assumes nothing.
use Rattle.std.specs.Prelude.{Ok, Err}
use mathlib.Core.Path.{◌≡◌, refl, sym}
use mathlib.Core.Bool.{Bool, true, false, cond}
use mathlib.Core.List.{List, ◌++◌}
use Prim.Native.Nat.{ℕ, ◌-◌, ◌*◌, ◌≤◌}
use lib.Dec.{ltb}
use lib.ListN.{drop}
use borrow.Author.Tests.{ltb-false}
use Rattle.ops.proofs.Booleans.{never}
use Rattle.table.specs.Answers.{Acceptance, accepted}
use Rattle.table.specs.Terms.{terms}
use Rattle.table.specs.Admission.{and_then, admission_within, accepts}
use Rattle.setting.specs.Cells.{look}
use Rattle.setting.specs.Check.{check}
use Rattle.setting.specs.Interpretation.{interpret}
use Rattle.evaluate.specs.Evaluation.{Evaluation}
use Rattle.evaluate.specs.Values.{numbers}
use Rattle.evaluate.specs.Steps.{steps}
use Rattle.evaluate.specs.Evaluation.{evaluates, not_evaluated, afford, ready_by, ready, room_after}

pub is-admitted : (a : Acceptance) → accepts a ≡ true → a ≡ accepted
is-admitted (Ok _) h = refl
is-admitted (Err r) h = never h

-- what is refused stays so, whatever would come after
pub stands : (a : Acceptance) (x y : Evaluation) → accepts a ≡ false → and_then Err a x ≡ and_then Err a y
stands (Ok _) x y h = never (sym h)
stands (Err r) x y h = refl

-- what is not lets the rest stand
pub goes_on : (a : Acceptance) (e : Evaluation) → accepts a ≡ true → e ≡ and_then Err a e
goes_on (Ok _) e h = refl
goes_on (Err r) e h = never h

-- What was not refused

both : (a : Acceptance) (e : Evaluation) → evaluates (and_then Err a e) ≡ true → (a ≡ accepted) × (evaluates e ≡ true)
both (Ok _) e h = (refl, h)
both (Err r) e h = never h

room-enough : (b : Bool) (number place : ℕ) (rest : Evaluation) → evaluates (cond b (not_evaluated number place) rest) ≡ true → (b ≡ false) × (evaluates rest ≡ true)
room-enough true number place rest h = never h
room-enough false number place rest h = (refl, h)

afforded : (w : List ℕ) (each allowance room : ℕ) → evaluates (afford w each allowance room) ≡ true → (terms w * each ≤ room) × (steps w (terms w) ≤ allowance)
unfolding afford
afforded w each allowance room h =
    let spent : ℕ = steps w (terms w) in
    let rest : Evaluation = cond (ltb allowance spent) (not_evaluated 23 spent) (Ok (record { steps = spent; left = allowance - spent })) in
    let first = room-enough (ltb room (terms w * each)) 22 (terms w * each) rest h in
    let second = room-enough (ltb allowance spent) 23 spent (Ok (record { steps = spent; left = allowance - spent })) first.1 in
    (ltb-false room (terms w * each) first.0, ltb-false allowance spent second.0)

-- an answer that is no refusal: admission and the setting's check refuse nothing, the room is long enough and the allowance large enough
pub record PassedBy (w : List ℕ) (a c : Acceptance) (each allowance room : ℕ) : Type 0 where
  pub admitted : a ≡ accepted
  pub checked : c ≡ accepted
  pub long : terms w * each ≤ room
  pub large : steps w (terms w) ≤ allowance

pub passed_by : (w : List ℕ) (admitted checked : Acceptance) (each allowance room : ℕ) → evaluates (ready_by w admitted checked each allowance room) ≡ true → PassedBy w admitted checked each allowance room
passed_by w admitted checked each allowance room h =
    let first = both admitted (and_then Err checked (afford w each allowance room)) h in
    let second = both checked (afford w each allowance room) first.1 in
    let last = afforded w each allowance room second.1 in
    record { admitted = first.0; checked = second.0; long = last.0; large = last.1 }

-- by a limit on the terms, in a setting
abbrev pub Passed : ℕ → List ℕ → List ℕ → List ℕ → ℕ → ℕ → ℕ → Type 0
Passed limit w values cells each allowance room = PassedBy w (admission_within limit w) (check w values cells) each allowance room

pub passed : (limit : ℕ) (w values cells : List ℕ) (each allowance room : ℕ) → evaluates (ready limit w values cells each allowance room) ≡ true → Passed limit w values cells each allowance room
passed limit w values cells each allowance room h = passed_by w (admission_within limit w) (check w values cells) each allowance room h

-- The room

pub room_filled : (e : Evaluation) (w values cells room : List ℕ) → evaluates e ≡ true → numbers w (interpret values (look cells)) (terms w) ++ drop (terms w) room ≡ room_after e w values cells room
room_filled (Ok s) w values cells room h = refl
room_filled (Err r) w values cells room h = never h

pub room_kept : (e : Evaluation) (w values cells room : List ℕ) → evaluates e ≡ false → room ≡ room_after e w values cells room
room_kept (Ok s) w values cells room h = never (sym h)
room_kept (Err r) w values cells room h = refl
