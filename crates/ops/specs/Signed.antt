-- Vectors of width n read as integers: SMT-LIB's two's complement (FixedSizeBitVectors, QF_BV).
-- Assumes nothing.
use Rattle.std.specs.Prelude.{ℕ, ◌-◌, ◌%◌, ◌^◌, cond, ℤ, pos, negsuc, nat_lt}

-- the greatest vector in the signed order, and the least: the top bit alone
abbrev pub greatest : ℕ → ℕ
greatest n = 2 ^ (n - 1) - 1

abbrev pub least : ℕ → ℕ
least n = 2 ^ (n - 1)

-- the integer of a vector: with the top bit 0 its number, with the top bit 1 that less 2^n
abbrev pub signed : ℕ → ℕ → ℤ
signed n x = let u = x % 2 ^ n in cond (nat_lt u (least n)) (pos u) (negsuc ((2 ^ n - 1) - u))

-- the vector of an integer, modulo 2^n: negsuc a is -(a + 1)
abbrev pub wrap : ℕ → ℤ → ℕ
wrap n (pos a) = a % 2 ^ n
wrap n (negsuc a) = (2 ^ n - 1) - a % 2 ^ n
