-- What is proved of every operator, as named statements. The proofs are in proofs/Fitting, proofs/Signed,
-- proofs/Absorption, proofs/Bounds, proofs/Independence and proofs/Monotone.
-- Assumes nothing.
use Rattle.std.specs.Prelude.{◌≡◌, ℕ, ◌-◌, ◌/◌, ◌%◌, ◌^◌, ◌<◌, ◌≤◌, Bool, true, false, cond, ◌||◌, ℤ, ◌==◌, bit_and, bit_or, nat_lt}
use Rattle.std.specs.Int.Signed.{mag, shr_z}
use Rattle.ops.specs.declared.Op.{Op}
use Rattle.ops.specs.declared.Op.TheVariants.{Constant, Variable, Apply, Ite, Select, Store, Unknown}
use Rattle.ops.specs.declared.Function.{Function}
use Rattle.ops.specs.declared.Function.TheVariants.{BvNot, BvAnd, BvOr, BvAdd, BvUlt, BvNeg, BvSub, BvSlt, BvAshr}
use Rattle.ops.specs.Signed.{greatest, least, signed, wrap}
use Rattle.ops.specs.Meaning.{Operation, ones, operation, value_of, apply}
use Rattle.ops.specs.Meaning.Operation.{unary, strict, absorbing, shift, fixed}
use Rattle.ops.specs.Ranks.{Arity, FunctionRank, arity, function_rank, rank_width}
use Rattle.ops.specs.Ranks.Arity.{one, two}
use Rattle.ops.specs.Ranks.FunctionRank.{bool_unary, bool_binary, equality, bv_unary, bv_binary, bv_compare}
use Rattle.ops.specs.Condition.{chosen, condition_of, settles}
use Rattle.ops.specs.Fits.{fits}

-- The width of an operator's value (0: a Boolean), from the widths n and m of its first and second operand.
abbrev pub result_width : Op → ℕ → ℕ → ℕ
result_width Constant n m = n
result_width Variable n m = n
result_width (Apply f) n m = rank_width (function_rank f) n
result_width Ite n m = m
result_width Select n m = n
result_width Store n m = n
result_width Unknown n m = n

-- a choice
abbrev pub chooses : Op → Bool
chooses Constant = false
chooses Variable = false
chooses (Apply f) = false
chooses Ite = true
chooses Select = false
chooses Store = false
chooses Unknown = false

-- Values fit their sort. Only a choice asks something of its operands: that the branches fit their width m.
abbrev pub Fitting : Type 0
Fitting =
    (op : Op) (n m x y z : ℕ) → (chooses op ≡ true → (fits m y ≡ true) × (fits m z ≡ true))
    → fits (result_width op n m) (apply op n x y z) ≡ true

-- On vectors of width n the reduction of not, and, or changes nothing: they are SMT-LIB's, bit by bit.
pub record BitByBit (n x y : ℕ) : Type 0 where
  pub bvnot : value_of BvNot n x y ≡ ones n - x
  pub bvand : value_of BvAnd n x y ≡ bit_and x y
  pub bvor : value_of BvOr n x y ≡ bit_or x y

abbrev pub Bitwise : Type 0
Bitwise = (n x y : ℕ) → x < 2 ^ n → y < 2 ^ n → BitByBit n x y

-- The signed operators by the others, whatever the numbers.
pub record ByOthers (n x y : ℕ) : Type 0 where
  -- not plus one; the sum with the negation
  pub bvneg : value_of BvNeg n x y ≡ value_of BvAdd n (value_of BvNot n x y) 1
  pub bvsub : value_of BvSub n x y ≡ value_of BvAdd n x (value_of BvNeg n y x)
  -- less, with the top bits turned: adding 2^(n-1) turns them
  pub bvslt : value_of BvSlt n x y ≡ value_of BvUlt n (value_of BvAdd n x (least n)) (value_of BvAdd n y (least n))
  -- with the top bit 0 a division by a power of two, with the top bit 1 that between two nots
  pub bvashr : value_of BvAshr n x y ≡ cond (nat_lt (x % 2 ^ n) (least n)) (x % 2 ^ n / 2 ^ y) (value_of BvNot n (value_of BvNot n x y / 2 ^ y) y)

abbrev pub SignedByOthers : Type 0
SignedByOthers = (n x y : ℕ) → ByOthers n x y

-- Of vectors of width n, above 0.
pub record SignedFacts (n x y : ℕ) : Type 0 where
  -- reading and wrapping undo each other, on the vectors and on the integers from -2^(n-1) to 2^(n-1) - 1
  pub wrap_signed : wrap n (signed n x) ≡ x
  pub signed-wrap : (z : ℤ) → mag z < least n → signed n (wrap n z) ≡ z
  -- the shift to the right divides the integer by 2^y, rounded down; by the width or more it leaves the sign
  pub divided : signed n (value_of BvAshr n x y) ≡ shr_z (signed n x) (2 ^ y)
  pub shifted_out : n ≤ y → value_of BvAshr n x y ≡ cond (nat_lt x (least n)) 0 (ones n)

abbrev pub SignedReading : Type 0
SignedReading = (n x y : ℕ) → 0 < n → x < 2 ^ n → SignedFacts n x y

-- the tests of an operator: which values of the first and of the second operand settle the result
abbrev pub first : Operation → ℕ → ℕ → Bool
first (unary f) n x = false
first (strict f) n x = false
first (absorbing f a b) n x = a n x
first (shift f b) n x = false
first (fixed f a b) n x = a n x || b n x

abbrev pub second : Operation → ℕ → ℕ → Bool
second (unary f) n y = false
second (strict f) n y = false
second (absorbing f a b) n y = b n y
second (shift f b) n y = b n y
second (fixed f a b) n y = false

-- the values of an operand, by its function's rank: 0 or 1; of the width n; below 2^n
abbrev pub operand_fits : {a : Arity} → FunctionRank a → ℕ → ℕ → Bool
operand_fits bool_unary n v = fits 0 v
operand_fits bool_binary n v = fits 0 v
operand_fits equality n v = fits n v
operand_fits bv_unary n v = nat_lt v (2 ^ n)
operand_fits bv_binary n v = nat_lt v (2 ^ n)
operand_fits bv_compare n v = nat_lt v (2 ^ n)

-- both operands, where there are two
abbrev pub OperandsFit : (a : Arity) → FunctionRank a → ℕ → ℕ → ℕ → Type 0
OperandsFit one r n x y = operand_fits r n x ≡ true
OperandsFit two r n x y = (operand_fits r n x ≡ true) × (operand_fits r n y ≡ true)

-- Where one operand settles the result, the other cannot change it, whichever value of its sort it takes (source 004: R-absorption).
pub record Absorbs (f : Function) (n : ℕ) : Type 0 where
  pub by_first : (x y y' : ℕ) → operand_fits (function_rank f) n y ≡ true → operand_fits (function_rank f) n y' ≡ true
      → first (operation f) n x ≡ true → value_of f n x y ≡ value_of f n x y'
  pub by_second : (x x' y : ℕ) → operand_fits (function_rank f) n x ≡ true → operand_fits (function_rank f) n x' ≡ true
      → second (operation f) n y ≡ true → value_of f n x y ≡ value_of f n x' y

abbrev pub Absorption : Type 0
Absorption = (f : Function) (n : ℕ) → Absorbs f n

-- Of less these are all: a value of the first operand that settles it is the top of the order, one of the second the bottom.
pub record OnlyBounds (f : Function) (n top bottom u : ℕ) : Type 0 where
  pub as_first : ((y y' : ℕ) → y < 2 ^ n → y' < 2 ^ n → value_of f n u y ≡ value_of f n u y') → u ≡ top
  pub as_second : ((x x' : ℕ) → x < 2 ^ n → x' < 2 ^ n → value_of f n x u ≡ value_of f n x' u) → u ≡ bottom

abbrev pub LessSettled : Type 0
LessSettled = (n u : ℕ) → u < 2 ^ n → OnlyBounds BvUlt n (ones n) 0 u

abbrev pub SignedLessSettled : Type 0
SignedLessSettled = (n u : ℕ) → 0 < n → u < 2 ^ n → OnlyBounds BvSlt n (greatest n) (least n) u

-- Two runs agree on a term: one condition, and where it is true one value.
pub record Agree (c c' : Bool) (x x' : ℕ) : Type 0 where
  pub condition : c ≡ c'
  pub value : c ≡ true → x ≡ x'

-- Two runs that agree on the operands of a function, whose values fit, agree on the result.
abbrev pub Independence : Type 0
Independence =
    (f : Function) (n x x' y y' : ℕ) (c c' d d' : Bool)
    → OperandsFit (arity (operation f)) (function_rank f) n x y → OperandsFit (arity (operation f)) (function_rank f) n x' y'
    → Agree c c' x x' → Agree d d' y y'
    → Agree (condition_of f n x y c d) (condition_of f n x' y' c' d') (value_of f n x y) (value_of f n x' y')

-- The same of a choice whose test is any truth, one in both runs where its condition is true; nothing is asked of the values.
abbrev pub ChoiceIndependence : Type 0
ChoiceIndependence =
    (test test' : Bool) (y y' z z' : ℕ) (c c' d d' e e' : Bool) → c ≡ c' → (c ≡ true → test ≡ test') → Agree d d' y y' → Agree e e' z z'
    → Agree (chosen c test d e (y == z)) (chosen c' test' d' e' (y' == z')) (cond test y z) (cond test' y' z')

-- One condition is true wherever another is.
abbrev pub Implied : Bool → Bool → Type 0
Implied c c' = c ≡ true → c' ≡ true

-- An operator's condition is monotone in its operands' conditions, the values being the same.
abbrev pub Monotone : Type 0
Monotone =
    (op : Op) (n x y z : ℕ) (c c' d d' e e' : Bool) → Implied c c' → Implied d d' → Implied e e'
    → Implied (settles op n x y z c d e) (settles op n x y z c' d' e')

-- The same of a choice whose test is any truth.
abbrev pub ChoiceMonotone : Type 0
ChoiceMonotone =
    (test same c c' d d' e e' : Bool) → Implied c c' → Implied d d' → Implied e e' → Implied (chosen c test d e same) (chosen c' test d' e' same)
