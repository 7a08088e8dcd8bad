-- The value of an operand that settles an operator, as the program names it.
-- Assumes nothing.
use Rattle.std.specs.Prelude.{◌≡◌, ℕ, ◌≤◌, Bool, true, false, cond, ◌&&◌, ◌||◌, nat_lt}
use Rattle.ops.specs.Numbers.{op_of}
use Rattle.ops.specs.Meaning.{ones}
use Rattle.ops.specs.Signed.{greatest, least}
use Rattle.explain.specs.Operands.{would_settle}

-- the first of 0, 1, the width n, all ones and the greatest that a test is true of; the least in the signed order where it is of none
abbrev pub first_of : (ℕ → Bool) → ℕ → ℕ
first_of test n = cond (test 0) 0 (cond (test 1) 1 (cond (test n || nat_lt 32 n) n (cond (test (ones n)) (ones n) (cond (test (greatest n)) (greatest n) (least n)))))

-- of the first operand, or of the second, of the operator of a number
abbrev pub settling_value : ℕ → Bool → ℕ → ℕ
settling_value op second n = first_of (λ v. would_settle (op_of op) n v second) n

-- whether that value does settle it
abbrev pub settled : ℕ → Bool → ℕ → Bool
settled op second n = would_settle (op_of op) n (settling_value op second n) second

-- by either operand
abbrev pub either : ℕ → ℕ → Bool
either op n = settled op false n && settled op true n

-- What the program names does settle: and, or, implies, vector and, vector or, the product, less and signed less, by either operand; the
-- shift to the left by its second, that to the right by its first.
abbrev pub SettlingSettles : Type 0
SettlingSettles =
    (n : ℕ) → n ≤ 32
    → (either 3 n && (either 4 n && (either 5 n && (either 9 n && (either 10 n && (either 12 n && (either 14 n && (either 19 n && (settled 13 true n && settled 20 false n))))))))) ≡ true
