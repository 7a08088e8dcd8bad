-- The signed operators at every width n: by the unsigned ones, and as integers.
-- Assumes nothing.
use Rattle.std.proofs.Common.{◌≡◌, ℕ, zero, suc, ◌+◌, ◌-◌, ◌/◌, ◌%◌, ◌^◌, ◌<◌, ◌≤◌, Bool, true, false, cond, ltb, ℤ, pos, negsuc, neg_ℤ, sym, refl, ap, ◌∙◌, lt_of_lt_of_le, lt_of_le_of_lt, mod-eq_of_lt, div-le_self, arith, pow_pos, pow_mono, ltb-false, ltb-true, le-ltb, lt-ltb}
use native.Mathlib.Nat.{zero-mod, mod-one, mod-mod, mod_self, mod-eq-sub-mod, mod-add-mod, add-mod_right, zero-div, div-eq_of_lt, sub-zero, sub_self}
use native.Mathlib.Decide.{dec_lt}
use lib.Pow.{ones_lt, ones_sub-lt}
use lib.Signed.{lt_z, shr_z, mag, mag_shr}
use Rattle.ops.specs.declared.Function.TheVariants.{BvAshr}
use Rattle.ops.specs.Signed.{greatest, least, signed, wrap}
use Rattle.ops.specs.Meaning.{bit, ones, value_of}
use Rattle.ops.specs.Laws.{SignedByOthers, SignedReading}
use Rattle.ops.proofs.Widths.{mod_below}
use Rattle.ops.proofs.Wraps.{wrap-sum, wrap-negated}

-- the integer of a vector, by the top bit
data Reading (n x : ℕ) : ℤ → Type 0 where
  low : x % 2 ^ n < least n → Reading n x (pos (x % 2 ^ n))
  high : least n ≤ x % 2 ^ n → Reading n x (negsuc (ones n - x % 2 ^ n))

reading : (n x : ℕ) → Reading n x (signed n x)
reading n x = go (ltb (x % 2 ^ n) (least n)) refl
  where
    go : (t : Bool) → ltb (x % 2 ^ n) (least n) ≡ t → Reading n x (cond t (pos (x % 2 ^ n)) (negsuc (ones n - x % 2 ^ n)))
    go true e = low (ltb-true _ _ e)
    go false e = high (ltb-false _ _ e)

read_back : (n x : ℕ) → wrap n (signed n x) ≡ x % 2 ^ n
read_back n x = go (reading n x)
  where
    go : {z : ℤ} → Reading n x z → wrap n z ≡ x % 2 ^ n
    go (low h) = mod-mod x (2 ^ n)
    go (high h) = rw (mod-eq_of_lt (ones_sub-lt n (x % 2 ^ n))) (omega (arith, mod_below n x))

-- above width 0 the top bit is half of 2^n
halves : (n : ℕ) → 0 < n → least n + least n ≡ 2 ^ n
halves n positive =
    let e : suc (n - 1) ≡ n = omega arith in
    sym (ap (λ (k : ℕ). 2 ^ k) (sym e) ∙ omega arith)

-- the vector with its top bit turned

abbrev pub turned : ℕ → ℕ → ℕ
turned n x = (x + least n) % 2 ^ n

same_less : (a b c d : ℕ) → (a < b → c < d) → (b ≤ a → d ≤ c) → ltb a b ≡ ltb c d
same_less a b c d f g = go (dec_lt a b)
  where
    go : Dec (a < b) → ltb a b ≡ ltb c d
    go (yes h) = lt-ltb a b h ∙ sym (lt-ltb c d (f h))
    go (no h) = let k : b ≤ a = omega arith in le-ltb a b k ∙ sym (le-ltb c d (g k))

module _ (n : ℕ) (positive : 0 < n) where
  turned_low : (x : ℕ) → x % 2 ^ n < least n → turned n x ≡ x % 2 ^ n + least n
  turned_low x h = sym (mod-add-mod x (2 ^ n) (least n)) ∙ mod-eq_of_lt (omega (arith, halves n positive))

  turned_high : (x : ℕ) → least n ≤ x % 2 ^ n → turned n x ≡ x % 2 ^ n - least n
  turned_high x h =
      let e : x % 2 ^ n + least n - 2 ^ n ≡ x % 2 ^ n - least n = omega (arith, halves n positive) in
      sym (mod-add-mod x (2 ^ n) (least n)) ∙ mod-eq-sub-mod (omega (arith, halves n positive)) ∙ ap (λ (v : ℕ). v % 2 ^ n) e
      ∙ mod-eq_of_lt (omega (arith, mod_below n x))

  pub turned_twice : (x : ℕ) → x < 2 ^ n → turned n (turned n x) ≡ x
  turned_twice x h =
      let e : x + least n + least n ≡ x + 2 ^ n = omega (arith, halves n positive) in
      mod-add-mod (x + least n) (2 ^ n) (least n) ∙ ap (λ (v : ℕ). v % 2 ^ n) e ∙ add-mod_right x (2 ^ n) ∙ mod-eq_of_lt h

  less_by : {x y : ℕ} {z w : ℤ} → Reading n x z → Reading n y w → lt_z z w ≡ ltb (turned n x) (turned n y)
  less_by {x} {y} (low h) (low k) =
      let p = turned_low x h in
      let q = turned_low y k in
      same_less (x % 2 ^ n) (y % 2 ^ n) (turned n x) (turned n y) (omega arith) (omega arith)
  less_by {x} {y} (low h) (high k) =
      sym (le-ltb (turned n x) (turned n y) (omega (arith, turned_low x h, turned_high y k, mod_below n y, halves n positive)))
  less_by {x} {y} (high h) (low k) =
      sym (lt-ltb (turned n x) (turned n y) (omega (arith, turned_high x h, turned_low y k, mod_below n x, halves n positive)))
  less_by {x} {y} (high h) (high k) =
      let p = turned_high x h in
      let q = turned_high y k in
      let r = mod_below n x in
      let s = mod_below n y in
      same_less (ones n - y % 2 ^ n) (ones n - x % 2 ^ n) (turned n x) (turned n y) (omega arith) (omega arith)

pub less_turned : (n x y : ℕ) → lt_z (signed n x) (signed n y) ≡ ltb (turned n x) (turned n y)
less_turned zero x y = rw (mod-one x, mod-one y, mod-one (x + 1), mod-one (y + 1))
less_turned (suc n) x y = less_by (suc n) (omega arith) (reading (suc n) x) (reading (suc n) y)

pub turned_greatest : (n : ℕ) → turned n (greatest n) ≡ ones n
turned_greatest zero = refl
turned_greatest (suc n) =
    let e : greatest (suc n) + least (suc n) ≡ ones (suc n) = omega (arith, halves (suc n) (omega arith), pow_pos (suc n - 1)) in
    ap (λ (v : ℕ). v % 2 ^ suc n) e ∙ mod-eq_of_lt (ones_lt (suc n))

pub turned_least : (n : ℕ) → turned n (least n) ≡ 0
turned_least zero = refl
turned_least (suc n) = ap (λ (v : ℕ). v % 2 ^ suc n) (halves (suc n) (omega arith)) ∙ mod_self (2 ^ suc n)

shift_by : {n x : ℕ} {z : ℤ} (y : ℕ) → Reading n x z
    → wrap n (shr_z z (2 ^ y)) ≡ cond (ltb (x % 2 ^ n) (least n)) (x % 2 ^ n / 2 ^ y) (ones n - (ones n - x % 2 ^ n) / 2 ^ y % 2 ^ n)
shift_by {n} {x} y (low h) = rw (lt-ltb (x % 2 ^ n) (least n) h) (mod-eq_of_lt (lt_of_le_of_lt (div-le_self (x % 2 ^ n) (2 ^ y)) (mod_below n x)))
shift_by {n} {x} y (high h) = rw (le-ltb (x % 2 ^ n) (least n) h)

pub signed_by_others : SignedByOthers
signed_by_others n x y =
    let negation = wrap n (neg_ℤ (signed n y)) in
    record {
      bvneg = wrap-negated n (signed n x) ∙ ap (λ (v : ℕ). (ones n - v + 1) % 2 ^ n) (read_back n x);
      bvsub = wrap-sum n (signed n x) (neg_ℤ (signed n y)) ∙ ap (λ (v : ℕ). (v + negation) % 2 ^ n) (read_back n x) ∙ mod-add-mod x (2 ^ n) negation;
      bvslt = ap bit (less_turned n x y);
      bvashr = shift_by y (reading n x);
    }

-- the shift leaves 0 and all ones

pub shift_zero : (n y : ℕ) → value_of BvAshr n 0 y ≡ 0
shift_zero n y = (signed_by_others n 0 y).bvashr ∙ rw (zero-mod (2 ^ n), lt-ltb 0 (least n) (pow_pos (n - 1)), zero-div (2 ^ y))

pub shift_ones : (n y : ℕ) → value_of BvAshr n (ones n) y ≡ ones n
shift_ones zero y = shift_zero 0 y
shift_ones (suc n) y =
    let m = suc n in
    let e : least m ≤ ones m = omega (arith, halves m (omega arith), pow_pos (m - 1)) in
    (signed_by_others m (ones m) y).bvashr
    ∙ rw (mod-eq_of_lt (ones_lt m), le-ltb (ones m) (least m) e, sub_self (ones m), zero-div (2 ^ y), zero-mod (2 ^ m), sub-zero (ones m))

-- vectors as integers

module _ (n : ℕ) (positive : 0 < n) where
  in_range : {x : ℕ} {z : ℤ} → Reading n x z → mag z < least n
  in_range (low h) = h
  in_range (high h) = omega (arith, halves n positive, pow_pos (n - 1))

  signed-wrap : (z : ℤ) → mag z < least n → signed n (wrap n z) ≡ z
  signed-wrap (pos a) h =
      let e : a % 2 ^ n % 2 ^ n ≡ a = mod-mod a (2 ^ n) ∙ mod-eq_of_lt (omega (arith, halves n positive)) in
      rw (e, lt-ltb a (least n) h)
  signed-wrap (negsuc a) h =
      let u = ones n - a in
      let e : a % 2 ^ n ≡ a = mod-eq_of_lt (omega (arith, halves n positive)) in
      let back : ones n - u ≡ a = omega (arith, halves n positive) in
      rw (e, mod-eq_of_lt (ones_sub-lt n a), le-ltb u (least n) (omega (arith, halves n positive)), back)

pub signed-reading : SignedReading
signed-reading n x y positive h =
    record {
      wrap_signed = read_back n x ∙ mod-eq_of_lt h;
      signed-wrap = signed-wrap n positive;
      divided = signed-wrap n positive (shr_z (signed n x) (2 ^ y)) (lt_of_le_of_lt (mag_shr (signed n x) (2 ^ y)) (in_range n positive (reading n x)));
      shifted_out = λ l. (signed_by_others n x y).bvashr ∙ rw (mod-eq_of_lt h, gone x h l, gone (ones n - x) (ones_sub-lt n x) l, zero-mod (2 ^ n), sub-zero (ones n));
    }
  where
    gone : (v : ℕ) → v < 2 ^ n → n ≤ y → v / 2 ^ y ≡ 0
    gone v b l = div-eq_of_lt (lt_of_lt_of_le b (pow_mono l))
