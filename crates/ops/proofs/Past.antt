-- A number that no arm of a match over 0 to k - 1 has is k or more.
-- Assumes nothing.
use Rattle.std.proofs.Common.{◌≡◌, ℕ, zero, suc, ◌≤◌, zero-le, arith}

-- what such a match says of a number in its last arm
abbrev pub Others : ℕ → ℕ → Type 0
Others n zero = Unit {0}
Others n (suc k) = Others n k × (n ≡ k → ⊥)

next : (n k : ℕ) → k ≤ n → (n ≡ k → ⊥) → suc k ≤ n
next n k from other = omega arith

pub past : {n : ℕ} (k : ℕ) → Others n k → k ≤ n
past zero o = zero-le
past {n} (suc k) o = next n k (past k o.0) o.1
