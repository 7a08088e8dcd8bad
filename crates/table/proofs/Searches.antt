-- Searches: any number below a bound, and the first from a number on.
-- Assumes nothing.
use mathlib.Core.Path.{◌≡◌, refl, sym, ap, ◌∙◌}
use mathlib.Core.Bool.{Bool, true, false, cond, ◌||◌}
use Prim.Native.Nat.{ℕ, zero, suc, ◌+◌, ◌-◌, ◌≤◌, ◌<◌}
use native.Mathlib.Decide.{ℕ_discrete}
use native.Mathlib.Nat.{not-suc-le-zero}
use native.Mathlib.Numerals.{add-one}
use native.Mathlib.Omega.{arith}
use Rattle.ops.proofs.Booleans.{or_open, or_neither}
use Rattle.table.specs.Folds.{any_below, first_from}

pub any_none : (n : ℕ) (f : ℕ → Bool) → ((k : ℕ) → k < n → f k ≡ false) → any_below n f ≡ false
unfolding any_below
any_none zero f h = refl
any_none (suc n) f h = rw (any_none n f (λ k b. h k (omega arith)), h n (omega arith))

pub any_found : (n : ℕ) (f : ℕ → Bool) (k : ℕ) → k < n → f k ≡ true → any_below n f ≡ true
unfolding any_below
any_found zero f k b h = absurd (not-suc-le-zero b)
any_found (suc n) f k b h = go (ℕ_discrete k n) (λ c. any_found n f k c h)
  where
    go : Dec (k ≡ n) → (k < n → any_below n f ≡ true) → any_below n f || f n ≡ true
    go (yes e) below = rw (sym (ap f e) ∙ h) (or_open (any_below n f))
    go (no e) below = rw (below (omega arith))

pub none_of-any : (n : ℕ) (f : ℕ → Bool) → any_below n f ≡ false → (k : ℕ) → k < n → f k ≡ false
unfolding any_below
none_of-any zero f h k b = absurd (not-suc-le-zero b)
none_of-any (suc n) f h k b = go (ℕ_discrete k n) (none_of-any n f (or_neither (any_below n f) (f n) h).0 k)
  where
    go : Dec (k ≡ n) → (k < n → f k ≡ false) → f k ≡ false
    go (yes e) below = ap f e ∙ (or_neither (any_below n f) (f n) h).1
    go (no e) below = below (omega arith)

module _ (f : ℕ → Bool) where
  -- r is the first number below n of which f is true, or n
  pub record First (n r : ℕ) : Type 0 where
    pub within : r ≤ n
    pub before : (k : ℕ) → k < r → f k ≡ false
    pub found : r < n → f r ≡ true

  -- the search from a number on, through numbers below end
  module _ (n i : ℕ) (inside : i < n) where
    left : n - i ≡ suc (n - (i + 1))
    left = omega arith

    pub first_on : f i ≡ false → first_from f (n - i) i ≡ first_from f (n - (i + 1)) (i + 1)
    unfolding first_from
    first_on e = rw (left, e, add-one)

    pub first-here : f i ≡ true → first_from f (n - i) i ≡ i
    unfolding first_from
    first-here e = rw (left, e)

  pub first_past : (n i : ℕ) → n ≤ i → first_from f (n - i) i ≡ i
  unfolding first_from
  first_past n i h =
      let e : n - i ≡ 0 = omega arith in
      rw e

  -- where it stands, what it passed and what it found
  pub record From (left at r : ℕ) : Type 0 where
    pub low : at ≤ r
    pub high : r ≤ at + left
    pub passed : (k : ℕ) → at ≤ k → k < r → f k ≡ false
    pub hit : r < at + left → f r ≡ true

  pub from : (left at : ℕ) → From left at (first_from f left at)
  unfolding first_from
  from zero at = record { low = omega arith; high = omega arith; passed = λ k a b. absurd (omega arith); hit = λ b. absurd (omega arith) }
  from (suc left) at = go (f at) refl (from left (suc at))
    where
      go : (b : Bool) → f at ≡ b → From left (suc at) (first_from f left (suc at)) → From (suc left) at (cond b at (first_from f left (suc at)))
      go true e later = record { low = omega arith; high = omega arith; passed = λ k a b. absurd (omega arith); hit = λ b. e }
      go false e later =
          let r = first_from f left (suc at) in
          let low : suc at ≤ r = later.low in
          let high : r ≤ suc at + left = later.high in
          record { low = omega arith; high = omega arith; passed = λ k a b. past k a b (ℕ_discrete at k); hit = λ b. later.hit (omega arith) }
        where
          past : (k : ℕ) → at ≤ k → k < first_from f left (suc at) → Dec (at ≡ k) → f k ≡ false
          past k a b (yes same) = ap f (sym same) ∙ e
          past k a b (no other) = later.passed k (omega arith) b

  pub first_is : (n r : ℕ) → r ≡ first_from f n 0 → First n r
  first_is n r e =
      let whole = from n 0 in
      let high : first_from f n 0 ≤ 0 + n = whole.high in
      record {
        within = omega arith;
        before = λ k b. whole.passed k (omega arith) (omega arith);
        found = λ b. ap f e ∙ whole.hit (omega arith);
      }
