-- Numbers modulo a power of two, at every width n.
-- Assumes nothing.
use Rattle.std.proofs.Common.{◌≡◌, ℕ, zero, suc, ◌+◌, ◌-◌, ◌*◌, ◌/◌, ◌%◌, ◌^◌, ◌<◌, ◌≤◌, Bool, true, false, eqb, ltb, sym, refl, ap, ◌∙◌, lt_of_lt_of_le, lt_of_le_of_lt, le_of_lt, mod-lt, mod-eq_of_lt, mul_assoc, mul-le-mul_left, mul-lt-mul_of_pos_right, one-mul, le-div_iff_mul-le, sub-add_cancel, arith, lit<, pow_pos, pow_mono, pow-add, shl_exact, le-ltb, lt-ltb, eq-eqb, ne_eqb, le-leb}
use mathlib.Core.Path.{subst⁻¹}
use native.Mathlib.Nat.{mul-mod_left, div-eq_of_lt}
use native.Mathlib.Decide.{dec_lt}
use lib.Dec.{eqb-suc-zero}
use lib.Pow.{pow-lt, mod-mod-pow, le_ones}
use Rattle.ops.specs.Meaning.{bit}
use Rattle.ops.specs.Fits.{fits}

-- one shifted to the left within the word
pub one_shifted : (n : ℕ) → n < 32 → (1 * 2 ^ n) % 2 ^ 32 ≡ 2 ^ n
one_shifted n h = shl_exact 1 n 32 (lit< tt) (omega arith) ∙ one-mul (2 ^ n)

pub below_whole : (n v : ℕ) → 32 ≤ n → v < 2 ^ 32 → v < 2 ^ n
below_whole n v h b = lt_of_lt_of_le b (pow_mono h)

pub whole_word : (n v : ℕ) → 32 ≤ n → v < 2 ^ 32 → v ≡ v % 2 ^ n
whole_word n v h b = sym (mod-eq_of_lt (below_whole n v h b))

-- what wraps at the word is the same modulo a smaller power
pub wrapped : (n v : ℕ) → n ≤ 32 → v % 2 ^ 32 % 2 ^ n ≡ v % 2 ^ n
wrapped n v h =
    let e : 32 ≡ 32 - n + n = omega arith in
    ap (λ (w : ℕ). v % 2 ^ w % 2 ^ n) e ∙ mod-mod-pow v (32 - n) n

pub mod_below : (n v : ℕ) → v % 2 ^ n < 2 ^ n
mod_below n v = mod-lt v (pow_pos n)

pub mod-ones : (n v : ℕ) → v % 2 ^ n ≤ 2 ^ n - 1
mod-ones n v = le_ones n (mod_below n v)

-- no number of 32 bits is a vector of more ones
pub no_ones : (n x : ℕ) → 32 < n → x < 2 ^ 32 → eqb x (2 ^ n - 1) ≡ false
no_ones n x h b = ne_eqb x (2 ^ n - 1) (λ e. absurd (omega (arith, e, b, pow-lt h)))

-- nor a top bit beyond them
pub no_top_bit : (n x : ℕ) → 32 < n → x < 2 ^ 32 → eqb x (2 ^ (n - 1)) ≡ false
no_top_bit n x h b = let l = below_whole (n - 1) x (omega arith) b in ne_eqb x (2 ^ (n - 1)) (omega arith)

-- the whole product of two numbers
pub product_below : (k : ℕ) {a b : ℕ} → a < 2 ^ k → b < 2 ^ k → a * b < 2 ^ (k + k)
product_below k {a} {b} ha hb =
    subst⁻¹ (λ (n : ℕ). a * b < n) (pow-add 2 k k)
    (lt_of_le_of_lt (mul-le-mul_left a (le_of_lt hb)) (mul-lt-mul_of_pos_right ha (pow_pos k)))

-- a shift by the width or more leaves nothing
pub shifted_out : (n x y : ℕ) → n ≤ y → (x * 2 ^ y) % 2 ^ n ≡ 0
shifted_out n x y h =
    ap (λ (e : ℕ). (x * 2 ^ e) % 2 ^ n) (sym (sub-add_cancel h)) ∙ ap (λ (e : ℕ). (x * e) % 2 ^ n) (pow-add 2 (y - n) n)
    ∙ ap (λ (e : ℕ). e % 2 ^ n) (sym (mul_assoc x (2 ^ (y - n)) (2 ^ n))) ∙ mul-mod_left (x * 2 ^ (y - n)) (2 ^ n)

-- a shift to the right leaves nothing just of a number below the power
pub shr_test : (v k : ℕ) → eqb (v / 2 ^ k) 0 ≡ ltb v (2 ^ k)
shr_test v k = go (dec_lt v (2 ^ k))
  where
    go : Dec (v < 2 ^ k) → eqb (v / 2 ^ k) 0 ≡ ltb v (2 ^ k)
    go (yes h) = eq-eqb _ _ (div-eq_of_lt h) ∙ sym (lt-ltb _ _ h)
    go (no h) =
        let above : 2 ^ k ≤ v = omega arith in
        let one_below : 1 ≤ v / 2 ^ k = (le-div_iff_mul-le (pow_pos k)).1 (omega (arith, above)) in
        ne_eqb (v / 2 ^ k) 0 (omega arith) ∙ sym (le-ltb _ _ above)

-- a number below 2^n fits width n, for a Boolean too
pub fits_below : (n v : ℕ) → v < 2 ^ n → fits n v ≡ true
fits_below zero v h = le-leb v 1 (omega arith)
fits_below (suc n) v h = rw (eqb-suc-zero n) (lt-ltb v (2 ^ suc n) h)

pub fits_mod : (n v : ℕ) → fits n (v % 2 ^ n) ≡ true
fits_mod n v = fits_below n (v % 2 ^ n) (mod_below n v)

pub fits-bit : (b : Bool) → fits 0 (bit b) ≡ true
fits-bit true = refl
fits-bit false = refl
