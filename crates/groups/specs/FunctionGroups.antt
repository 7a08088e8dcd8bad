-- Which kind of group an operator has: the lines of paper 01's "The condition of each term", of less and
-- the signed operators those of paper 02's requests 03 and 05.
-- Assumes nothing.
use Rattle.std.specs.Prelude.{not, ℕ, eqb, leb}
use Rattle.ops.specs.declared.Op.{Op}
use Rattle.ops.specs.declared.Op.TheVariants.{Constant, Variable, Apply, Ite, Select, Store, Unknown}
use Rattle.ops.specs.declared.Function.{Function}
use Rattle.ops.specs.declared.Function.TheVariants.{Not, And, Or, Implies, Equal, BvNot, BvAnd, BvOr, BvAdd, BvMul, BvShl, BvUlt, BvNeg, BvSub, BvSlt, BvAshr}
use Rattle.ops.specs.Meaning.{Operation, holds, ones, operation}
use Rattle.ops.specs.Meaning.Operation.{unary as one_operand, strict as never-settled, absorbing, shift as second-settled, fixed as first-settled}
use Rattle.ops.specs.Signed.{greatest, least}
use Rattle.ops.specs.Ranks.{FunctionRank, arity, function_rank}
use Rattle.ops.specs.Ranks.Arity.{one, two}
use Rattle.ops.specs.Ranks.FunctionRank.{bool_binary, bv_binary, bv_compare}
use Rattle.groups.specs.declared.kinds.GroupKind.{GroupKind}
use Rattle.groups.specs.declared.kinds.GroupKind.TheVariants.{Literal, Input, Unary, Strict, Conjunction, Disjunction, Implication, Zero, Ones, Bounds, SignedBounds, Fixed, Shift, Choice, Read, Write}

-- The groups of functions: each is right for the functions that these values settle, of this rank.
pub data FunctionGroup : (o : Operation) → FunctionRank (arity o) → Type 0 where
  -- C(p)
  unary : {f : ℕ → ℕ → ℕ} {r : FunctionRank one} → FunctionGroup (one_operand f) r
  -- no value settles it
  strict : {f : ℕ → ℕ → ℕ → ℕ} {r : FunctionRank two} → FunctionGroup (never-settled f) r
  -- false on either side; true on either; false on the left, true on the right
  conjunction : {f : ℕ → ℕ → ℕ → ℕ} → FunctionGroup (absorbing f (λ n x. not (holds x)) (λ n y. not (holds y))) bool_binary
  disjunction : {f : ℕ → ℕ → ℕ → ℕ} → FunctionGroup (absorbing f (λ n x. holds x) (λ n y. holds y)) bool_binary
  implication : {f : ℕ → ℕ → ℕ → ℕ} → FunctionGroup (absorbing f (λ n x. not (holds x)) (λ n y. holds y)) bool_binary
  -- 0 on either side; all ones on either
  by_zero : {f : ℕ → ℕ → ℕ → ℕ} → FunctionGroup (absorbing f (λ n x. eqb x 0) (λ n y. eqb y 0)) bv_binary
  by_ones : {f : ℕ → ℕ → ℕ → ℕ} → FunctionGroup (absorbing f (λ n x. eqb x (ones n)) (λ n y. eqb y (ones n))) bv_binary
  -- all ones on the left, 0 on the right
  by_bounds : {f : ℕ → ℕ → ℕ → ℕ} → FunctionGroup (absorbing f (λ n x. eqb x (ones n)) (λ n y. eqb y 0)) bv_compare
  -- the greatest on the left, the least on the right
  by_signed : {f : ℕ → ℕ → ℕ → ℕ} → FunctionGroup (absorbing f (λ n x. eqb x (greatest n)) (λ n y. eqb y (least n))) bv_compare
  -- 0 or all ones on the left
  by_fixed : {f : ℕ → ℕ → ℕ → ℕ} → FunctionGroup (first-settled f (λ n x. eqb x 0) (λ n x. eqb x (ones n))) bv_binary
  -- the width or more on the right
  shift : {f : ℕ → ℕ → ℕ → ℕ} → FunctionGroup (second-settled f (λ n y. leb n y)) bv_binary

abbrev pub function_group : (f : Function) → FunctionGroup (operation f) (function_rank f)
function_group Not = unary
function_group And = conjunction
function_group Or = disjunction
function_group Implies = implication
function_group Equal = strict
function_group BvNot = unary
function_group BvAnd = by_zero
function_group BvOr = by_ones
function_group BvAdd = strict
function_group BvMul = by_zero
function_group BvShl = shift
function_group BvUlt = by_bounds
function_group BvNeg = unary
function_group BvSub = strict
function_group BvSlt = by_signed
function_group BvAshr = by_fixed

abbrev pub group_kind : {o : Operation} {r : FunctionRank (arity o)} → FunctionGroup o r → GroupKind
group_kind unary = Unary
group_kind strict = Strict
group_kind conjunction = Conjunction
group_kind disjunction = Disjunction
group_kind implication = Implication
group_kind by_zero = Zero
group_kind by_ones = Ones
group_kind by_bounds = Bounds
group_kind by_signed = SignedBounds
group_kind by_fixed = Fixed
group_kind shift = Shift

abbrev pub kind_of : Op → GroupKind
kind_of Constant = Literal
kind_of Variable = Input
kind_of (Apply f) = group_kind (function_group f)
kind_of Ite = Choice
kind_of Select = Read
kind_of Store = Write
kind_of Unknown = Write
