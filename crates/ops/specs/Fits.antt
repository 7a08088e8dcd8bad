-- Which numbers are values of a sort: paper 01, "What demand 3 compares" ("A value fits its input ..").
-- Assumes nothing.
use Rattle.std.specs.Prelude.{ℕ, ◌^◌, Bool, cond, ◌==◌, nat_le, nat_lt}

-- of width n, which is 0 for a Boolean: 0 or 1, or below 2^n
abbrev pub fits : ℕ → ℕ → Bool
fits n v = cond (n == 0) (nat_le v 1) (nat_lt v (2 ^ n))
