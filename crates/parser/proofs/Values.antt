-- The number that digits say, digit by digit, and how large it can be.
-- Assumes nothing.
use mathlib.Core.Path.{◌≡◌, sym, ap, ◌∙◌}
use mathlib.Core.Bool.{true}
use mathlib.Core.List.{List, [], ◌∷◌}
use Prim.Native.Nat.{ℕ, suc, ◌+◌, ◌-◌, ◌*◌, ◌^◌, ◌<◌, ◌≤◌}
use native.Mathlib.Nat.{le_trans, le-mul_of_pos_right, mul-le-mul_right, mul_assoc, mul-one, one-mul, suc-mul, pow-zero, pow-succ', pow-le-pow_right}
use native.Mathlib.Numerals.{add-one}
use native.Mathlib.Omega.{arith}
use lib.Dec.{leb}
use lib.ListN.{length, drop, get_or, drop_of_length-le}
use lib.Seq.{drop-cons}
use borrow.Author.Tests.{leb-true}
use Rattle.smtlib.specs.Numerals.{value_of}
use Rattle.smtlib.proofs.Cuts.{and_left, and_right}
use Rattle.table.specs.Folds.{every}
use Rattle.parser.specs.Words.{between}

-- digits only add to it
grows : (base v : ℕ) (ds : List ℕ) → 1 ≤ base → v ≤ value_of base v ds
unfolding value_of
grows base v [] h = omega arith
grows base v (d ∷ ds) h =
    let a : v ≤ v * base = le-mul_of_pos_right v h in
    le_trans {m = v * base + (d - 48)} (omega arith) (grows base (v * base + (d - 48)) ds h)

module _ (base : ℕ) (word : List ℕ) (at v i : ℕ) (so_far : value_of base v (drop i word) ≡ value_of base 0 (drop at word)) where
  next : i < length word → value_of base v (drop i word) ≡ value_of base (v * base + (get_or word i 0 - 48)) (drop (suc i) word)
  unfolding value_of
  next b = ap (value_of base v) (drop-cons word i 0 b)

  pub one_digit : i < length word → value_of base (v * base + (get_or word i 0 - 48)) (drop (i + 1) word) ≡ value_of base 0 (drop at word)
  one_digit b = rw (add-one i) (sym (next b) ∙ so_far)

  pub no_digit : length word ≤ i → v ≡ value_of base 0 (drop at word)
  unfolding value_of
  no_digit b = sym (sym so_far ∙ ap (value_of base v) (drop_of_length-le word b))

  -- so it is never larger than the whole
  pub not_larger : i < length word → 1 ≤ base → v * base + (get_or word i 0 - 48) ≤ value_of base 0 (drop at word)
  not_larger b h = let g = grows base (v * base + (get_or word i 0 - 48)) (drop (suc i) word) h in let e = sym (next b) ∙ so_far in omega arith

-- n digits to a base say less than its n-th power
below_power : (base v : ℕ) (ds : List ℕ) → every (between 48 (47 + base)) ds ≡ true → suc (value_of base v ds) ≤ suc v * base ^ length ds
unfolding value_of every
below_power base v [] h = rw (pow-zero base, mul-one (suc v)) (omega arith)
below_power base v (d ∷ ds) h =
    let t = and_left (between 48 (47 + base) d) (every (between 48 (47 + base)) ds) h in
    let low : 48 ≤ d = leb-true 48 d (and_left (leb 48 d) (leb d (47 + base)) t) in
    let high : d ≤ 47 + base = leb-true d (47 + base) (and_right (leb 48 d) (leb d (47 + base)) t) in
    let w : suc v * base ≡ v * base + base = suc-mul v base in
    let s : suc (v * base + (d - 48)) ≤ suc v * base = omega arith in
    let ih = below_power base (v * base + (d - 48)) ds (and_right (between 48 (47 + base) d) (every (between 48 (47 + base)) ds) h) in
    rw (pow-succ' base (length ds), sym (mul_assoc (suc v) base (base ^ length ds))) (le_trans ih (mul-le-mul_right (base ^ length ds) s))

-- binary digits, at most 32; two decimal digits
pub bits_fit : (ds : List ℕ) → every (between 48 49) ds ≡ true → length ds ≤ 32 → value_of 2 0 ds < 4294967296
bits_fit ds h short =
    let p : 2 ^ length ds ≤ 2 ^ 32 = pow-le-pow_right {n = 2} (omega arith) short in
    let b = below_power 2 0 ds h in
    let e : 1 * 2 ^ length ds ≡ 2 ^ length ds = one-mul (2 ^ length ds) in
    omega arith

pub decimal_fits : (ds : List ℕ) → every (between 48 57) ds ≡ true → length ds ≤ 2 → value_of 10 0 ds < 4294967296
decimal_fits ds h short =
    let p : 10 ^ length ds ≤ 10 ^ 2 = pow-le-pow_right {n = 10} (omega arith) short in
    let b = below_power 10 0 ds h in
    let e : 1 * 10 ^ length ds ≡ 10 ^ length ds = one-mul (10 ^ length ds) in
    omega arith
