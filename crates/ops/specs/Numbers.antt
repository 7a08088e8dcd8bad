-- The operators' numbers: paper 01, "A term", first column; from 17 on request 05.
-- Assumes nothing.
use Rattle.std.specs.Prelude.{ℕ, List, [], ◌∷◌, slice_index_or}
use Rattle.ops.specs.declared.Op.{Op}
use Rattle.ops.specs.declared.Op.TheVariants.{Constant, Variable, Apply, Ite, Select, Store, Unknown}
use Rattle.ops.specs.declared.Function.TheVariants.{Not, And, Or, Implies, Equal, BvNot, BvAnd, BvOr, BvAdd, BvMul, BvShl, BvUlt, BvNeg, BvSub, BvSlt, BvAshr}

-- the operators in the order of their numbers, from 0
abbrev pub ops : List Op
ops = Constant ∷ Variable ∷ Apply Not ∷ Apply And ∷ Apply Or ∷ Apply Implies ∷ Apply Equal ∷ Ite ∷ Apply BvNot ∷ Apply BvAnd ∷ Apply BvOr ∷ Apply BvAdd ∷ Apply BvMul ∷ Apply BvShl ∷ Apply BvUlt ∷ Select ∷ Store ∷ Apply BvNeg ∷ Apply BvSub ∷ Apply BvSlt ∷ Apply BvAshr ∷ []

-- the last number
abbrev pub last_op : ℕ
last_op = 20

-- the operator of a number; past the list there is none
abbrev pub op_of : ℕ → Op
op_of number = slice_index_or ops number Unknown
