-- Integers wrapped to a width n: sums and negations are those modulo 2^n.
-- Assumes nothing.
use Rattle.std.proofs.Common.{◌≡◌, ℕ, suc, ◌+◌, ◌-◌, ◌*◌, ◌/◌, ◌%◌, ◌^◌, ◌<◌, Bool, true, false, cond, ltb, ℤ, pos, negsuc, ◌+ℤ◌, neg_ℤ, sym, refl, ap, ◌∙◌, ap₂, mod-eq_of_lt, div-add-mod', arith, ltb-false, ltb-true}
use native.Mathlib.Nat.{zero-mod, mod-add-mod, add-mod, mod_self, add-mul-mod_self_right}
use lib.IntN.{sub_ℕ, +ℤ_invl}
use lib.Pow.{ones_sub-lt}
use Rattle.ops.specs.Signed.{wrap}
use Rattle.ops.specs.Fits.{fits}
use Rattle.ops.proofs.Widths.{mod_below, fits_below}

-- an integer is what it gains less what it loses
abbrev gain : ℤ → ℕ
gain (pos a) = a
gain (negsuc a) = 0

abbrev loss : ℤ → ℕ
loss (pos a) = 0
loss (negsuc a) = suc a

difference : (a b : ℕ) → a + loss (sub_ℕ a b) ≡ gain (sub_ℕ a b) + b
difference a b = go (ltb a b) refl
  where
    go : (t : Bool) → ltb a b ≡ t → a + loss (cond t (negsuc (b - suc a)) (pos (a - b))) ≡ gain (cond t (negsuc (b - suc a)) (pos (a - b))) + b
    go true e = omega (arith, ltb-true a b e)
    go false e = omega (arith, ltb-false a b e)

sum : (z w : ℤ) → (gain z + gain w) + loss (z +ℤ w) ≡ gain (z +ℤ w) + (loss z + loss w)
sum (pos a) (pos b) = omega arith
sum (pos a) (negsuc b) = omega (arith, difference a (suc b))
sum (negsuc a) (pos b) = omega (arith, difference b (suc a))
sum (negsuc a) (negsuc b) = omega arith

module _ (n : ℕ) where
  reduced : {a b : ℕ} → a ≡ b → a % 2 ^ n ≡ b % 2 ^ n
  reduced e = ap (λ (v : ℕ). v % 2 ^ n) e

  -- up to a multiple of 2^n
  filled : (c : ℕ) → (2 ^ n - c % 2 ^ n) + c ≡ suc (c / 2 ^ n) * 2 ^ n
  filled c = omega (arith, div-add-mod' c (2 ^ n), mod_below n c)

  -- what was added is taken off again
  back : (r c : ℕ) → r < 2 ^ n → ((r + c) % 2 ^ n + (2 ^ n - c % 2 ^ n)) % 2 ^ n ≡ r
  back r c h =
      mod-add-mod (r + c) (2 ^ n) (2 ^ n - c % 2 ^ n) ∙ reduced (omega (arith, filled c))
      ∙ add-mul-mod_self_right r (suc (c / 2 ^ n)) (2 ^ n) ∙ mod-eq_of_lt h

  pub cancel : (c : ℕ) {r s : ℕ} → r < 2 ^ n → s < 2 ^ n → (r + c) % 2 ^ n ≡ (s + c) % 2 ^ n → r ≡ s
  cancel c {r} {s} h k e = sym (back r c h) ∙ ap (λ (v : ℕ). (v + (2 ^ n - c % 2 ^ n)) % 2 ^ n) e ∙ back s c k

  wrap-below : (z : ℤ) → wrap n z < 2 ^ n
  wrap-below (pos a) = mod_below n a
  wrap-below (negsuc a) = ones_sub-lt n (a % 2 ^ n)

  pub fits_wrap : (z : ℤ) → fits n (wrap n z) ≡ true
  fits_wrap z = fits_below n (wrap n z) (wrap-below z)

  -- of an integer that is a less b
  wrap_less : (z : ℤ) (a b : ℕ) → a + loss z ≡ gain z + b → (wrap n z + b) % 2 ^ n ≡ a % 2 ^ n
  wrap_less (pos k) a b e = mod-add-mod k (2 ^ n) b ∙ reduced (omega arith)
  wrap_less (negsuc k) a b e = reduced (omega (arith, filled k, mod_below n k)) ∙ add-mul-mod_self_right a (suc (k / 2 ^ n)) (2 ^ n)

  both : (z w : ℤ) → ((wrap n z + wrap n w) % 2 ^ n + (loss z + loss w)) % 2 ^ n ≡ (gain z + gain w) % 2 ^ n
  both z w =
      mod-add-mod (wrap n z + wrap n w) (2 ^ n) (loss z + loss w) ∙ reduced (omega arith)
      ∙ add-mod (wrap n z + loss z) (wrap n w + loss w) (2 ^ n)
      ∙ ap₂ (λ (v u : ℕ). (v + u) % 2 ^ n) (wrap_less z (gain z) (loss z) refl) (wrap_less w (gain w) (loss w) refl)
      ∙ sym (add-mod (gain z) (gain w) (2 ^ n))

  pub wrap-sum : (z w : ℤ) → wrap n (z +ℤ w) ≡ (wrap n z + wrap n w) % 2 ^ n
  wrap-sum z w =
      cancel (loss z + loss w) (wrap-below (z +ℤ w)) (mod_below n (wrap n z + wrap n w))
      (wrap_less (z +ℤ w) (gain z + gain w) (loss z + loss w) (sum z w) ∙ sym (both z w))

  -- not plus one
  pub wrap-negated : (z : ℤ) → wrap n (neg_ℤ z) ≡ ((2 ^ n - 1) - wrap n z + 1) % 2 ^ n
  wrap-negated z =
      let v = (2 ^ n - 1) - wrap n z + 1 in
      let zero_by_sum : (v % 2 ^ n + wrap n z) % 2 ^ n ≡ 0 = mod-add-mod v (2 ^ n) (wrap n z) ∙ reduced (omega (arith, wrap-below z)) ∙ mod_self (2 ^ n) in
      cancel (wrap n z) (wrap-below (neg_ℤ z)) (mod_below n v)
      (sym (wrap-sum (neg_ℤ z) z) ∙ ap (wrap n) (+ℤ_invl z) ∙ zero-mod (2 ^ n) ∙ sym zero_by_sum)
