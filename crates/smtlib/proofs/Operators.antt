-- What holds of every entry of a table, by one test that is computed.
-- Assumes nothing.
use mathlib.Core.Path.{◌≡◌}
use mathlib.Core.Bool.{Bool, true, ◌&&◌}
use Prim.Native.Nat.{ℕ, zero, suc, ◌<◌}
use native.Mathlib.Omega.{arith}
use Rattle.smtlib.proofs.Cuts.{and_left, and_right}

-- every number below n passes
unfoldable pub passes : ℕ → (ℕ → Bool) → Bool
passes zero f = true
passes (suc n) f = f 0 && passes n (λ k. f (suc k))

pub passed : (n : ℕ) (f : ℕ → Bool) (k : ℕ) → passes n f ≡ true → k < n → f k ≡ true
unfolding passes
passed zero f k p h = absurd (omega arith)
passed (suc n) f zero p h = and_left (f 0) (passes n (λ j. f (suc j))) p
passed (suc n) f (suc k) p h = passed n (λ j. f (suc j)) k (and_right (f 0) (passes n (λ j. f (suc j))) p) (omega arith)
