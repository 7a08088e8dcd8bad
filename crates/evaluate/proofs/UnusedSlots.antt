-- Values of slots that no variable uses are not looked at.
-- Assumes nothing.
use Rattle.std.specs.Prelude.{Ok, Err}
use mathlib.Core.Path.{◌≡◌, refl, ap, ◌∙◌}
use mathlib.Core.Bool.{true, cond}
use mathlib.Core.List.{List, map, ◌++◌}
use Prim.Native.Nat.{ℕ, ◌≤◌, ◌<◌}
use native.Mathlib.Omega.{arith}
use lib.Dec.{eqb}
use lib.ListN.{length, drop}
use Rattle.ops.specs.declared.Op.{Op}
use Rattle.ops.specs.declared.Op.TheVariants.{Constant, Variable, Apply, Ite, Select, Store, Unknown}
use Rattle.ops.specs.Numbers.{op_of}
use Rattle.table.specs.declared.words.Term.{Term}
use Rattle.table.specs.Terms.{terms, term_at, sort_at}
use Rattle.table.specs.Ranks.{slotted}
use Rattle.table.specs.Admission.{admission_within}
use Rattle.table.specs.Faults.{is_variable}
use Rattle.table.proofs.FoldLaws.{fold_same}
use Rattle.setting.specs.Cells.{look}
use Rattle.setting.specs.Interpretation.{Value, Interpretation, interpret}
use Rattle.setting.proofs.UnusedSlots.{input-same, unused_unchecked}
use Rattle.evaluate.specs.Evaluation.{Evaluation}
use Rattle.evaluate.specs.Values.{scalar_value, array_value, value_by, value_in, value_from, values, value_at, numbers}
use Rattle.evaluate.specs.Evaluation.{ready_by, evaluation, room_after}
use Rattle.evaluate.specs.Laws.{UnusedUnevaluated}

-- a term's value asks the interpretation for the slot of a variable alone
module _ (I I' : Interpretation) (v : ℕ → Value) (width : ℕ) (t : Term) where
  value_by_lem : (op : Op) → (slotted op ≡ true → I t.p ≡ I' t.p) → value_by I v width t op ≡ value_by I' v width t op
  unfolding value_by
  value_by_lem Variable h = ap (λ (x : Value). cond (eqb t.sort.m 0) (scalar_value x.num) (array_value x.cell)) (h refl)
  value_by_lem Constant h = refl
  value_by_lem (Apply f) h = refl
  value_by_lem Ite h = refl
  value_by_lem Select h = refl
  value_by_lem Store h = refl
  value_by_lem Unknown h = refl

-- two interpretations that are one at every slot that a variable uses
module _ (w : List ℕ) (I I' : Interpretation) (one : (k : ℕ) → k < terms w → is_variable (term_at w k) ≡ true → I (term_at w k).p ≡ I' (term_at w k).p) where
  value_same : (k : ℕ) → k < terms w → (v : ℕ → Value) → value_from w I v (term_at w k) ≡ value_from w I' v (term_at w k)
  value_same k b v = value_by_lem I I' v (sort_at w (term_at w k).p).n (term_at w k) (op_of (term_at w k).op) (one k b)

  pub values_same : (n : ℕ) → n ≤ terms w → values w I n ≡ values w I' n
  values_same n b = fold_same _ _ n (λ k c l. value_same k (omega arith) (value_in l))

  pub value_at-same : (k : ℕ) → k < terms w → value_at w I k ≡ value_at w I' k
  value_at-same k b = value_same k b (value_in (values w I k)) ∙ ap (λ l. value_from w I' (value_in l) (term_at w k)) (values_same k (omega arith))

  pub numbers-same : numbers w I (terms w) ≡ numbers w I' (terms w)
  numbers-same = ap (map (λ v. v.num)) (values_same (terms w) (omega arith))

pub unused_unevaluated : UnusedUnevaluated
unused_unevaluated w values values' cells allowance room one =
    let answer : evaluation w values cells allowance (length room) ≡ evaluation w values' cells allowance (length room) =
    ap (λ c. ready_by w (admission_within 80000 w) c 1 allowance (length room)) (unused_unchecked w values values' cells one) in
    record { answer = answer; left = ap (λ e. room_after e w values cells room) answer ∙ go (evaluation w values' cells allowance (length room)) }
  where
    go : (e : Evaluation) → room_after e w values cells room ≡ room_after e w values' cells room
    go (Ok s) =
        ap (λ l. l ++ drop (terms w) room) (numbers-same w (interpret values (look cells)) (interpret values' (look cells)) (input-same w values values' one (look cells)))
    go (Err r) = refl
