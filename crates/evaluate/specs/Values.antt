-- SMT-LIB's value of each term of a table, in an interpretation of its inputs: a fold over the table.
-- Assumes nothing.
use Rattle.std.specs.Prelude.{cond, List, map, ℕ, eqb, get_or}
use Rattle.ops.specs.declared.Op.{Op}
use Rattle.ops.specs.declared.Op.TheVariants.{Constant, Variable, Apply, Ite, Select, Store, Unknown}
use Rattle.ops.specs.Numbers.{op_of}
use Rattle.ops.specs.Meaning.{apply, holds}
use Rattle.table.specs.declared.words.Term.{Term}
use Rattle.table.specs.Folds.{fold}
use Rattle.table.specs.Terms.{term_at, sort_at}
use Rattle.setting.specs.Interpretation.{Value, Interpretation}

-- a Boolean or a vector; an array
abbrev pub scalar_value : ℕ → Value
scalar_value x = record { num = x; cell = λ j. 0 }

abbrev pub array_value : (ℕ → ℕ) → Value
array_value f = record { num = 0; cell = f }

-- the value of term t by its operator, from the values v of the terms before it; width is its first operand's
module _ (I : Interpretation) (v : ℕ → Value) (width : ℕ) (t : Term) where
  abbrev pub operated : Op → Value
  operated op = scalar_value (apply op width (v t.p).num (v t.q).num (v t.r).num)

  unfoldable pub value_by : Op → Value
  value_by Constant = scalar_value t.p
  value_by Variable = cond (eqb t.sort.m 0) (scalar_value (I t.p).num) (array_value (I t.p).cell)
  value_by (Apply f) = operated (Apply f)
  -- of every sort: the branch that the test picks
  value_by Ite = cond (holds (v t.p).num) (v t.q) (v t.r)
  value_by Select = scalar_value ((v t.p).cell (v t.q).num)
  value_by Store = array_value (λ j. cond (eqb (v t.q).num j) (v t.r).num ((v t.p).cell j))
  value_by Unknown = scalar_value 0

abbrev pub value_in : List Value → ℕ → Value
value_in vs k = get_or vs k (scalar_value 0)

abbrev pub value_from : List ℕ → Interpretation → (ℕ → Value) → Term → Value
value_from w I v t = value_by I v (sort_at w t.p).n t (op_of t.op)

-- the values of the first k terms: each from those before it
abbrev pub values : List ℕ → Interpretation → ℕ → List Value
values w I k = fold (λ vs i. value_from w I (value_in vs) (term_at w i)) k

-- the value of term k
abbrev pub value_at : List ℕ → Interpretation → ℕ → Value
value_at w I k = value_from w I (value_in (values w I k)) (term_at w k)

-- the numbers of the first k terms: one value a term, 0 for an array
abbrev pub numbers : List ℕ → Interpretation → ℕ → List ℕ
numbers w I k = map (λ v. v.num) (values w I k)
