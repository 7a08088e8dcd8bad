-- Two runs that agree on the operands agree on the result.
-- Assumes nothing.
use Rattle.std.proofs.Common.{◌≡◌, ℕ, Bool, true, false, cond, ◌&&◌, ◌||◌, eqb, sym, ap, ◌∙◌, ap₂, ⊎_elim, eqb-true}
use Rattle.ops.specs.Meaning.{Operation, operation, value_by}
use Rattle.ops.specs.Meaning.Operation.{unary, strict, absorbing, shift, fixed}
use Rattle.ops.specs.Ranks.{FunctionRank, arity, function_rank}
use Rattle.ops.specs.Condition.{absorbed, shifted, fixed_by, condition_by}
use Rattle.ops.specs.Laws.{first, second, operand_fits, OperandsFit, Agree, Independence, ChoiceIndependence}
use Rattle.ops.proofs.Booleans.{and_parts, or_parts, or_open, and_same, or_same}
use Rattle.ops.proofs.Absorption.{absorption}

module _ {x x' y y' : ℕ} {c c' d d' : Bool} (p : Agree c c' x x') (q : Agree d d' y y') where
  both_condition : (c && d) ≡ (c' && d')
  both_condition = and_same p.condition (λ h. q.condition)

  both_value : (f : ℕ → ℕ → ℕ) → (c && d) ≡ true → f x y ≡ f x' y'
  both_value f h = ap₂ f (p.value (and_parts c d h).0) (q.value (and_parts c d h).1)

  -- what each operand settles: A tests x, B tests y
  module _ (f : ℕ → ℕ → ℕ) (A B : ℕ → Bool) where
    first-value : (A x ≡ true → f x y ≡ f x y') → (c && A x) ≡ true → f x y ≡ f x' y'
    first-value by h =
        let parts = and_parts c (A x) h in
        by parts.1 ∙ ap (λ (u : ℕ). f u y') (p.value parts.0)

    second-value : (B y ≡ true → f x y ≡ f x' y) → (d && B y) ≡ true → f x y ≡ f x' y'
    second-value by h =
        let parts = and_parts d (B y) h in
        by parts.1 ∙ ap (λ (u : ℕ). f x' u) (q.value parts.0)

    absorbed_agree : (A x ≡ true → f x y ≡ f x y') → (B y ≡ true → f x y ≡ f x' y) → Agree (absorbed c (A x) d (B y)) (absorbed c' (A x') d' (B y')) (f x y) (f x' y')
    absorbed_agree by_first by_second =
        record {
          condition = or_same (or_same (and_same p.condition (λ h. ap A (p.value h))) (and_same q.condition (λ h. ap B (q.value h)))) both_condition;
          value = λ h. ⊎_elim (λ k. ⊎_elim (first-value by_first) (second-value by_second) (or_parts (c && A x) (d && B y) k)) (both_value f) (or_parts ((c && A x) || (d && B y)) (c && d) h);
        }

    shifted_agree : (B y ≡ true → f x y ≡ f x' y) → Agree (shifted c d (B y)) (shifted c' d' (B y')) (f x y) (f x' y')
    shifted_agree by_second =
        record {
          condition = or_same (and_same q.condition (λ h. ap B (q.value h))) both_condition;
          value = λ h. ⊎_elim (second-value by_second) (both_value f) (or_parts (d && B y) (c && d) h);
        }

  -- A and B test x
  fixed_agree : (f : ℕ → ℕ → ℕ) (A B : ℕ → Bool) → ((A x || B x) ≡ true → f x y ≡ f x y') → Agree (fixed_by c d (A x) (B x)) (fixed_by c' d' (A x') (B x')) (f x y) (f x' y')
  fixed_agree f A B by_first =
      record {
        condition = or_same (or_same (and_same p.condition (λ h. ap A (p.value h))) (and_same p.condition (λ h. ap B (p.value h)))) both_condition;
        value = λ h. ⊎_elim (λ k. ⊎_elim (first-value f A B (λ e. by_first (ap (λ (t : Bool). t || B x) e))) (first-value f B A (λ e. by_first (ap (λ (t : Bool). A x || t) e ∙ or_open (A x)))) (or_parts (c && A x) (c && B x) k)) (both_value f) (or_parts ((c && A x) || (c && B x)) (c && d) h);
      }

pub choice_independence : ChoiceIndependence
choice_independence test test' y y' z z' c c' d d' e e' free same q r =
    record {
      condition =
          or_same
          (and_same free (λ h. ap (λ (b : Bool). cond b d e) (same h) ∙ ap₂ (λ (a b : Bool). cond test' a b) q.condition r.condition))
          (and_same (and_same q.condition (λ h. r.condition)) (λ h. ap₂ eqb (q.value (and_parts d e h).0) (r.value (and_parts d e h).1)));
      value = λ h. ⊎_elim tested equal (or_parts (c && cond test d e) ((d && e) && eqb y z) h);
    }
  where
    pick : (b : Bool) → cond b d e ≡ true → cond b y z ≡ cond b y' z'
    pick true k = q.value k
    pick false k = r.value k

    tested : (c && cond test d e) ≡ true → cond test y z ≡ cond test' y' z'
    tested k =
        let parts = and_parts c (cond test d e) k in
        pick test parts.1 ∙ ap (λ (b : Bool). cond b y' z') (same parts.0)

    either : (b b' : Bool) → y ≡ y' → z ≡ z' → y ≡ z → cond b y z ≡ cond b' y' z'
    either true true s t u = s
    either true false s t u = u ∙ t
    either false true s t u = sym u ∙ s
    either false false s t u = t

    equal : ((d && e) && eqb y z) ≡ true → cond test y z ≡ cond test' y' z'
    equal k =
        let parts = and_parts (d && e) (eqb y z) k in
        let free-both = and_parts d e parts.0 in
        either test test' (q.value free-both.0) (r.value free-both.1) (eqb-true y z parts.1)

-- one operation, with what its tests promise
operation_agree : (o : Operation) (r : FunctionRank (arity o)) (n : ℕ) {x x' y y' : ℕ} {c c' d d' : Bool}
    → OperandsFit (arity o) r n x y → OperandsFit (arity o) r n x' y' → Agree c c' x x' → Agree d d' y y'
    → (operand_fits r n y ≡ true → operand_fits r n y' ≡ true → first o n x ≡ true → value_by o n x y ≡ value_by o n x y')
    → (operand_fits r n x ≡ true → operand_fits r n x' ≡ true → second o n y ≡ true → value_by o n x y ≡ value_by o n x' y)
    → Agree (condition_by o n x y c d) (condition_by o n x' y' c' d') (value_by o n x y) (value_by o n x' y')
operation_agree (unary f) r n fit fit' p q by_first by_second = record { condition = p.condition; value = λ h. ap (f n) (p.value h) }
operation_agree (strict f) r n fit fit' p q by_first by_second = record { condition = both_condition p q; value = both_value p q (f n) }
operation_agree (absorbing f a b) r n fit fit' p q by_first by_second =
    absorbed_agree p q (f n) (a n) (b n) (by_first fit.1 fit'.1) (by_second fit.0 fit'.0)
operation_agree (shift f b) r n fit fit' p q by_first by_second = shifted_agree p q (f n) (b n) (b n) (by_second fit.0 fit'.0)
operation_agree (fixed f a b) r n fit fit' p q by_first by_second = fixed_agree p q (f n) (a n) (b n) (by_first fit.1 fit'.1)

pub independence : Independence
independence f n x x' y y' c c' d d' fit fit' p q =
    let a = absorption f n in
    operation_agree (operation f) (function_rank f) n fit fit' p q (a.by_first x y y') (a.by_second x x' y)
