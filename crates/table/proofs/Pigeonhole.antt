-- The pigeonhole principle: n different numbers below m, none of which is v, itself below m, are fewer than m.
-- Assumes nothing.
use mathlib.Core.Path.{◌≡◌}
use Prim.Native.Nat.{ℕ, zero, suc, min, ◌-◌, ◌<◌}
use native.Mathlib.Decide.{dec_lt}
use native.Mathlib.Omega.{arith}

-- the numbers but v, counted from 0
skip : ℕ → ℕ → ℕ
skip v y = y - min 1 (y - v)

skip_low : (m v y : ℕ) → v < suc m → y < suc m → (y ≡ v → ⊥) → skip v y < m
unfolding skip
skip_low m v y low below other = omega arith

skip_over : (v y : ℕ) → v < y → y ≡ suc (skip v y)
unfolding skip
skip_over v y h = omega arith

skip_under : (v y : ℕ) → (v < y → ⊥) → y ≡ skip v y
unfolding skip
skip_under v y h = omega arith

skip_one : (v y z : ℕ) → (y ≡ v → ⊥) → (z ≡ v → ⊥) → skip v y ≡ skip v z → y ≡ z
skip_one v y z other other' e = go (dec_lt v y) (dec_lt v z)
  where
    go : Dec (v < y) → Dec (v < z) → y ≡ z
    go (yes a) (yes b) = omega (arith, skip_over v y a, skip_over v z b)
    go (yes a) (no b) = omega (arith, skip_over v y a, skip_under v z b)
    go (no a) (yes b) = omega (arith, skip_under v y a, skip_over v z b)
    go (no a) (no b) = omega (arith, skip_under v y a, skip_under v z b)

pub pigeonhole : (m n v : ℕ) (f : ℕ → ℕ) → v < m → ((k : ℕ) → k < n → f k < m) → ((k : ℕ) → k < n → f k ≡ v → ⊥) → ((k : ℕ) → k < n → (j : ℕ) → j < k → f j ≡ f k → ⊥) → n < m
pigeonhole m zero v f low below other apart = omega arith
pigeonhole zero (suc n) v f low below other apart = absurd (omega arith)
pigeonhole (suc m) (suc n) v f low below other apart =
    let told : (k : ℕ) → k < suc n → (j : ℕ) → j < k → skip v (f j) ≡ skip v (f k) → ⊥ =
    λ k b j c e. apart k b j c (skip_one v (f j) (f k) (other j (omega arith)) (other k b) e) in
    let fewer : n < m =
    pigeonhole m n (skip v (f n)) (λ k. skip v (f k))
    (skip_low m v (f n) low (below n (omega arith)) (other n (omega arith)))
    (λ k b. skip_low m v (f k) low (below k (omega arith)) (other k (omega arith)))
    (λ k b. told n (omega arith) k b)
    (λ k b. told k (omega arith)) in
    omega arith
