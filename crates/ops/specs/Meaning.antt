-- The operators on numbers. A Boolean is 0 or 1; a vector of width n is a number below 2^n, and each operator on
-- vectors keeps its result modulo 2^n. Values are SMT-LIB 2.6's (Core, FixedSizeBitVectors). Beside the value stand
-- the operand's values that settle the result, whatever the other operand: paper 01, "The condition of each term", and
-- requests 03 and 05.
-- Assumes nothing.
use Rattle.std.specs.Prelude.{ℕ, ◌+◌, ◌-◌, ◌*◌, ◌%◌, ◌^◌, Bool, true, false, cond, not, ◌&&◌, ◌||◌, ◌-ℤ◌, neg_ℤ, ◌==◌, bit_and, bit_or, int_lt, nat_eq, nat_le, nat_lt}
use Rattle.std.specs.Int.Signed.{shr_z}
use Rattle.ops.specs.declared.Op.{Op}
use Rattle.ops.specs.declared.Op.TheVariants.{Constant, Variable, Apply, Ite, Select, Store, Unknown}
use Rattle.ops.specs.declared.Function.{Function}
use Rattle.ops.specs.declared.Function.TheVariants.{Not, And, Or, Implies, Equal, BvNot, BvAnd, BvOr, BvAdd, BvMul, BvShl, BvUlt, BvNeg, BvSub, BvSlt, BvAshr}
use Rattle.ops.specs.Signed.{greatest, least, signed, wrap}

abbrev pub bit : Bool → ℕ
bit true = 1
bit false = 0

abbrev pub holds : ℕ → Bool
holds x = x == 1

-- the vector of n ones
abbrev pub ones : ℕ → ℕ
ones n = 2 ^ n - 1

-- What an operator does with the first operand's width n and the operands' values x, y (and z). A test of n and an
-- operand's value says where that value settles the result.
pub data Operation : Type 0 where
  unary : (value : ℕ → ℕ → ℕ) → Operation
  -- no value of one operand settles it
  strict : (value : ℕ → ℕ → ℕ → ℕ) → Operation
  -- a value of either operand may settle it
  absorbing : (value : ℕ → ℕ → ℕ → ℕ) (first second : ℕ → ℕ → Bool) → Operation
  -- a value of the second operand may settle it
  shift : (value : ℕ → ℕ → ℕ → ℕ) (second : ℕ → ℕ → Bool) → Operation
  -- two values of the first operand settle it
  fixed : (value : ℕ → ℕ → ℕ → ℕ) (low high : ℕ → ℕ → Bool) → Operation

abbrev pub operation : Function → Operation
operation Not = unary (λ n x. bit (not (holds x)))
operation And = absorbing (λ n x y. bit (holds x && holds y)) (λ n x. not (holds x)) (λ n y. not (holds y))
operation Or = absorbing (λ n x y. bit (holds x || holds y)) (λ n x. holds x) (λ n y. holds y)
operation Implies = absorbing (λ n x y. bit (not (holds x) || holds y)) (λ n x. not (holds x)) (λ n y. holds y)
operation Equal = strict (λ n x y. bit (x == y))
operation BvNot = unary (λ n x. ones n - x % 2 ^ n)
operation BvAnd = absorbing (λ n x y. bit_and x y % 2 ^ n) (λ n x. nat_eq x 0) (λ n y. nat_eq y 0)
operation BvOr = absorbing (λ n x y. bit_or x y % 2 ^ n) (λ n x. nat_eq x (ones n)) (λ n y. nat_eq y (ones n))
operation BvAdd = strict (λ n x y. (x + y) % 2 ^ n)
operation BvMul = absorbing (λ n x y. (x * y) % 2 ^ n) (λ n x. nat_eq x 0) (λ n y. nat_eq y 0)
operation BvShl = shift (λ n x y. (x * 2 ^ y) % 2 ^ n) (λ n y. nat_le n y)
-- nothing is above all ones, nothing below 0
operation BvUlt = absorbing (λ n x y. bit (nat_lt x y)) (λ n x. nat_eq x (ones n)) (λ n y. nat_eq y 0)
-- of the integers that the vectors stand for; the shift to the right is a division, rounded down
operation BvNeg = unary (λ n x. wrap n (neg_ℤ (signed n x)))
operation BvSub = strict (λ n x y. wrap n (signed n x -ℤ signed n y))
operation BvSlt = absorbing (λ n x y. bit (int_lt (signed n x) (signed n y))) (λ n x. nat_eq x (greatest n)) (λ n y. nat_eq y (least n))
operation BvAshr = fixed (λ n x y. wrap n (shr_z (signed n x) (2 ^ y))) (λ n x. nat_eq x 0) (λ n x. nat_eq x (ones n))

abbrev pub value_by : Operation → ℕ → ℕ → ℕ → ℕ
value_by (unary f) n x y = f n x
value_by (strict f) n x y = f n x y
value_by (absorbing f a b) n x y = f n x y
value_by (shift f b) n x y = f n x y
value_by (fixed f a b) n x y = f n x y

-- the value of a function, from the first operand's width and the operands' values
abbrev pub value_of : Function → ℕ → ℕ → ℕ → ℕ
value_of f n x y = value_by (operation f) n x y

-- the value of an operator
unfoldable pub apply : Op → ℕ → ℕ → ℕ → ℕ → ℕ
apply Constant n x y z = 0
apply Variable n x y z = 0
apply (Apply f) n x y z = value_of f n x y
apply Ite n x y z = cond (holds x) y z
apply Select n x y z = 0
apply Store n x y z = 0
apply Unknown n x y z = 0
