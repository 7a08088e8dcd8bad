-- By which numbers an evaluation is refused.
-- Assumes nothing.
use Rattle.std.specs.Prelude.{Ok, Err}
use mathlib.Core.Path.{◌≡◌, refl}
use mathlib.Core.Bool.{Bool, true, false, cond}
use mathlib.Core.List.{List}
use Prim.Native.Nat.{ℕ, ◌-◌, ◌*◌}
use Prim.{tt}
use native.Mathlib.Omega.{arith}
use lib.Dec.{ltb}
use Rattle.table.specs.Answers.{Acceptance}
use Rattle.table.specs.Terms.{terms}
use Rattle.table.specs.Admission.{and_then, admission_within}
use Rattle.table.specs.Refusals.{between, RefusedBy}
use Rattle.table.proofs.Refusals.{wider, admission_by}
use Rattle.setting.specs.Check.{check}
use Rattle.setting.proofs.Refusals.{check_by}
use Rattle.evaluate.specs.Evaluation.{Evaluation}
use Rattle.evaluate.specs.Steps.{steps}
use Rattle.evaluate.specs.Evaluation.{not_evaluated, afford, ready_by, ready}
use Rattle.evaluate.specs.Laws.{run_numbers, NotEvaluatedBy, EvaluationNumbers}

-- Of any numbers that have 1 to 10, 22 and 23
module _ (numbers : ℕ → Bool) (ten : (number : ℕ) → between 1 10 number ≡ true → numbers number ≡ true) (short : numbers 22 ≡ true) (poor : numbers 23 ≡ true) where
  then_by : (a : Acceptance) (e : Evaluation) → RefusedBy numbers a → NotEvaluatedBy numbers e → NotEvaluatedBy numbers (and_then Err a e)
  then_by (Ok _) e h later = later
  then_by (Err r) e h later = h

  afford_by : (w : List ℕ) (each allowance room : ℕ) → NotEvaluatedBy numbers (afford w each allowance room)
  unfolding afford
  afford_by w each allowance room = go (ltb room (terms w * each)) (ltb allowance (steps w (terms w)))
    where
      enough : Evaluation
      enough = Ok (record { steps = steps w (terms w); left = allowance - steps w (terms w) })

      go : (a b : Bool) → NotEvaluatedBy numbers (cond a (not_evaluated 22 (terms w * each)) (cond b (not_evaluated 23 (steps w (terms w))) enough))
      go true b = short
      go false true = poor
      go false false = tt

  pub admitted_by : (limit : ℕ) (w : List ℕ) → RefusedBy numbers (admission_within limit w)
  admitted_by limit w = admission_by (RefusedBy numbers) tt (λ number place e. ten number e) limit w

  -- where admission and the setting's check refuse by these numbers, so does all that comes before a run
  pub ready_by_lem : (w : List ℕ) (admitted checked : Acceptance) (each allowance room : ℕ) → RefusedBy numbers admitted → RefusedBy numbers checked
      → NotEvaluatedBy numbers (ready_by w admitted checked each allowance room)
  ready_by_lem w admitted checked each allowance room g h =
      then_by admitted (and_then Err checked (afford w each allowance room)) g
      (then_by checked (afford w each allowance room) h (afford_by w each allowance room))

in_run : (low high number : ℕ) → (between low high number ≡ true → between 1 15 number ≡ true) → between low high number ≡ true → run_numbers number ≡ true
in_run low high number h e = rw (h e)

ten : (number : ℕ) → between 1 10 number ≡ true → run_numbers number ≡ true
ten number = in_run 1 10 number (wider 1 1 10 15 number (omega arith) (omega arith))

pub ready-numbers : (limit : ℕ) (w values cells : List ℕ) (each allowance room : ℕ) → NotEvaluatedBy run_numbers (ready limit w values cells each allowance room)
ready-numbers limit w values cells each allowance room =
    ready_by_lem run_numbers ten refl refl w (admission_within limit w) (check w values cells) each allowance room (admitted_by run_numbers ten refl refl limit w)
    (check_by (RefusedBy run_numbers) tt (λ number place. in_run 11 15 number (wider 11 1 15 15 number (omega arith) (omega arith))) w values cells)

pub evaluation-numbers : EvaluationNumbers
evaluation-numbers w values cells allowance room = ready-numbers 80000 w values cells 1 allowance room
