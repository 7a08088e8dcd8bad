-- The condition of each term, under which it ignores the marked inputs: paper 01, "The condition of each term" (source 004,
-- Algorithm 2 and Fig. 2). A fold over the table; which terms are marked is a parameter.
-- Assumes nothing.
use Rattle.std.specs.Prelude.{Bool, true, false, not, ◌&&◌, List, map, ℕ, eqb, get_or}
use Rattle.ops.specs.declared.Op.{Op}
use Rattle.ops.specs.declared.Op.TheVariants.{Constant, Variable, Apply, Ite, Select, Store, Unknown}
use Rattle.ops.specs.Numbers.{op_of}
use Rattle.ops.specs.Meaning.{bit, holds}
use Rattle.ops.specs.Condition.{chosen, settles}
use Rattle.table.specs.declared.words.Term.{Term}
use Rattle.table.specs.Folds.{fold}
use Rattle.table.specs.Terms.{term_at, sort_at, array}
use Rattle.setting.specs.Interpretation.{Value, Interpretation}
use Rattle.evaluate.specs.Values.{value_in, values}

-- C(t); of an array also the condition D of a read of it, at an index and the index's own condition C(j)
pub record Condition : Type 0 where
  pub free : Bool
  pub read_free : ℕ → Bool → Bool

-- a scalar or a variable: D is and(C(v), C(j))
abbrev pub plain : Bool → Condition
plain b = record { free = b; read_free = λ j cj. b && cj }

-- the condition of term t by its operator, from the values v and conditions c of the terms before it
module _ (marked : Term → Bool) (v : ℕ → Value) (c : ℕ → Condition) (width : ℕ) (t : Term) where
  abbrev pub settled : Op → Bool
  settled op = settles op width (v t.p).num (v t.q).num (v t.r).num (c t.p).free (c t.q).free (c t.r).free

  -- a store of e at i over an array: or(and(and(C(i), C(j)), choice(i = j, C(e), D below)), and(and(C(e), D below), e = the read))
  abbrev pub store_free : ℕ → Bool → Bool
  store_free j cj =
      chosen ((c t.q).free && cj) (eqb (v t.q).num j) (c t.r).free ((c t.p).read_free j cj) (eqb (v t.r).num ((v t.p).cell j))

  -- a choice by c between arrays: or(and(C(c), choice(c, Dq, Dr)), and(and(Dq, Dr), the two reads are equal))
  abbrev pub choice_free : ℕ → Bool → Bool
  choice_free j cj =
      chosen (c t.p).free (holds (v t.p).num) ((c t.q).read_free j cj) ((c t.r).read_free j cj) (eqb ((v t.q).cell j) ((v t.r).cell j))

  unfoldable pub condition_by : Op → Condition
  condition_by Constant = plain true
  condition_by Variable = plain (not (marked t))
  condition_by (Apply f) = plain (settled (Apply f))
  -- a choice of arrays has no C
  condition_by Ite = record { free = not (array t.sort) && settled Ite; read_free = choice_free }
  condition_by Select = plain ((c t.p).read_free (v t.q).num (c t.q).free)
  -- a store has no C
  condition_by Store = record { free = false; read_free = store_free }
  condition_by Unknown = plain false

abbrev pub condition_in : List Condition → ℕ → Condition
condition_in cs k = get_or cs k (plain false)

abbrev pub condition_from : List ℕ → (Term → Bool) → (ℕ → Value) → (ℕ → Condition) → Term → Condition
condition_from w marked v c t = condition_by marked v c (sort_at w t.p).n t (op_of t.op)

-- the conditions of the first k terms
abbrev pub conditions : List ℕ → (Term → Bool) → Interpretation → ℕ → List Condition
conditions w marked I k = fold (λ cs i. condition_from w marked (value_in (values w I i)) (condition_in cs) (term_at w i)) k

-- the condition of term k
abbrev pub condition_at : List ℕ → (Term → Bool) → Interpretation → ℕ → Condition
condition_at w marked I k = condition_from w marked (value_in (values w I k)) (condition_in (conditions w marked I k)) (term_at w k)

-- the truths of the first k terms' conditions: 1 or 0; 0 for stores and choices of arrays
abbrev pub truths : List ℕ → (Term → Bool) → Interpretation → ℕ → List ℕ
truths w marked I k = map (λ c. bit c.free) (conditions w marked I k)
