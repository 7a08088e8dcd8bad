-- The functions' ranks (SMT-LIB's word: the sorts of the operands and of the value): paper 01's table of operators; request 05.
-- Assumes nothing.
use Rattle.std.specs.Prelude.{ℕ}
use Rattle.ops.specs.declared.Function.{Function}
use Rattle.ops.specs.declared.Function.TheVariants.{Not, And, Or, Implies, Equal, BvNot, BvAnd, BvOr, BvAdd, BvMul, BvShl, BvUlt, BvNeg, BvSub, BvSlt, BvAshr}
use Rattle.ops.specs.Meaning.{Operation, operation}
use Rattle.ops.specs.Meaning.Operation.{unary, strict, absorbing, shift, fixed}

-- the count of operands
pub data Arity : Type 0 where
  one : Arity
  two : Arity

abbrev pub arity : Operation → Arity
arity (unary f) = one
arity (strict f) = two
arity (absorbing f a b) = two
arity (shift f b) = two
arity (fixed f a b) = two

pub data FunctionRank : Arity → Type 0 where
  -- Booleans to a Boolean
  bool_unary : FunctionRank one
  bool_binary : FunctionRank two
  -- two operands of one sort to a Boolean
  equality : FunctionRank two
  -- vectors to a vector, all of one width
  bv_unary : FunctionRank one
  bv_binary : FunctionRank two
  -- two vectors of one width to a Boolean
  bv_compare : FunctionRank two

abbrev pub function_rank : (f : Function) → FunctionRank (arity (operation f))
function_rank Not = bool_unary
function_rank And = bool_binary
function_rank Or = bool_binary
function_rank Implies = bool_binary
function_rank Equal = equality
function_rank BvNot = bv_unary
function_rank BvAnd = bv_binary
function_rank BvOr = bv_binary
function_rank BvAdd = bv_binary
function_rank BvMul = bv_binary
function_rank BvShl = bv_binary
function_rank BvUlt = bv_compare
function_rank BvNeg = bv_unary
function_rank BvSub = bv_binary
function_rank BvSlt = bv_compare
function_rank BvAshr = bv_binary

-- the width of the value (0: a Boolean), from the width n of the first operand
abbrev pub rank_width : {a : Arity} → FunctionRank a → ℕ → ℕ
rank_width bool_unary n = 0
rank_width bool_binary n = 0
rank_width equality n = 0
rank_width bv_unary n = n
rank_width bv_binary n = n
rank_width bv_compare n = 0
