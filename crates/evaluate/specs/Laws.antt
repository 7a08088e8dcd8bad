-- What is proved of values, as named statements. The proofs are in proofs/.
-- Assumes nothing.
use Rattle.std.specs.Prelude.{Ok, Err, ◌≡◌, Bool, true, ◌||◌, List, ℕ, ◌+◌, ◌%◌, ◌^◌, ◌<◌, length}
use Rattle.ops.specs.declared.Op.TheVariants.{Apply, Store}
use Rattle.ops.specs.declared.Function.TheVariants.{BvAdd, BvMul}
use Rattle.ops.specs.Numbers.{op_of}
use Rattle.ops.specs.Meaning.{apply}
use Rattle.table.specs.Terms.{terms, term_at, sort_at}
use Rattle.table.specs.WellFormed.{WellFormed}
use Rattle.table.specs.Refusals.{between}
use Rattle.setting.specs.Cells.{look}
use Rattle.setting.specs.Check.{check}
use Rattle.setting.specs.Interpretation.{Interpretation, interpret, Fit, FitInputs}
use Rattle.setting.specs.Laws.{OneUsedValues}
use Rattle.evaluate.specs.Evaluation.{Evaluation}
use Rattle.evaluate.specs.Values.{value_in, values, value_at}
use Rattle.evaluate.specs.Evaluation.{evaluation, room_after}
use Rattle.table.specs.Answers.{accepted}

-- In an interpretation that fits, the value of every term of an admitted table fits its sort.
abbrev pub ValuesFit : Type 0
ValuesFit = (limit : ℕ) (w : List ℕ) (I : Interpretation) → WellFormed limit w → FitInputs w I → (k : ℕ) → k < terms w → Fit (sort_at w k) (value_at w I k)

-- So it does in every setting that is not refused.
abbrev pub CheckedValuesFit : Type 0
CheckedValuesFit =
    (limit : ℕ) (w values cells : List ℕ) → WellFormed limit w → check w values cells ≡ accepted
    → (k : ℕ) → k < terms w → Fit (sort_at w k) (value_at w (interpret values (look cells)) k)

-- Familiar facts: 200 + 100 at width 8 is 44 (P5), 16 × 16 is 0 (P6).
abbrev pub Familiar : Type 0
Familiar = (apply (Apply BvAdd) 8 200 100 0 ≡ 44) × (apply (Apply BvMul) 8 16 16 0 ≡ 0)

-- A sum is the operands' sum, kept modulo 2^n.
abbrev pub SumIs : Type 0
SumIs =
    (w : List ℕ) (I : Interpretation) (k : ℕ) → op_of (term_at w k).op ≡ Apply BvAdd
    → (value_at w I k).num ≡ ((value_in (values w I k) (term_at w k).p).num + (value_in (values w I k) (term_at w k).q).num) % 2 ^ (sort_at w (term_at w k).p).n

-- Two of the three axioms of ArraysEx (the third is of equal arrays, which no term compares): at its own index a store holds the stored value, at any other what the array beneath holds.
pub record ReadOverWrite (w : List ℕ) (I : Interpretation) (k : ℕ) : Type 0 where
  pub hit : (value_at w I k).cell (value_in (values w I k) (term_at w k).q).num ≡ (value_in (values w I k) (term_at w k).r).num
  pub miss : (j : ℕ) → ((value_in (values w I k) (term_at w k).q).num ≡ j → ⊥) → (value_at w I k).cell j ≡ (value_in (values w I k) (term_at w k).p).cell j

abbrev pub StoreIs : Type 0
StoreIs = (w : List ℕ) (I : Interpretation) (k : ℕ) → op_of (term_at w k).op ≡ Store → ReadOverWrite w I k

-- Evaluate and judge know 1 to 15, 22 and 23: none is given on other grounds.
abbrev pub run_numbers : ℕ → Bool
run_numbers number = between 1 15 number || between 22 23 number

-- the number of a refusal is one of these; of an evaluation nothing is said
abbrev pub NotEvaluatedBy : (ℕ → Bool) → Evaluation → Type 0
NotEvaluatedBy numbers (Ok s) = Unit {0}
NotEvaluatedBy numbers (Err r) = numbers r.number ≡ true

abbrev pub EvaluationNumbers : Type 0
EvaluationNumbers = (w values cells : List ℕ) (allowance room : ℕ) → NotEvaluatedBy run_numbers (evaluation w values cells allowance room)

-- Values of slots that no variable uses are not looked at: answer and room are the same.
pub record OneEvaluation (w values values' cells : List ℕ) (allowance : ℕ) (room : List ℕ) : Type 0 where
  pub answer : evaluation w values cells allowance (length room) ≡ evaluation w values' cells allowance (length room)
  pub left : room_after (evaluation w values cells allowance (length room)) w values cells room
      ≡ room_after (evaluation w values' cells allowance (length room)) w values' cells room

abbrev pub UnusedUnevaluated : Type 0
UnusedUnevaluated =
    (w values values' cells : List ℕ) (allowance : ℕ) (room : List ℕ) → OneUsedValues w values values' → OneEvaluation w values values' cells allowance room
