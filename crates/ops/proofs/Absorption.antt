-- The functions, one by one: where one operand settles the result the other cannot change it, and the value fits.
-- Assumes nothing.
use Rattle.std.proofs.Common.{◌≡◌, ℕ, ◌+◌, ◌*◌, ◌%◌, ◌^◌, ◌<◌, Bool, true, false, not, ◌&&◌, ◌||◌, eqb, ltb, leb, ◌-ℤ◌, neg_ℤ, sym, refl, ap, ◌∙◌, ⊎_elim, mod-eq_of_lt, mul-zero, zero-mul, arith, ltb-true, le-ltb, eqb-true, leb-true}
use native.Mathlib.Nat.{zero-mod, add_right_cancel}
use lib.Bits.{bit_and, bit_or, and_zero_l, and_zero_r, and_comm, and_mask, or_comm, or_mod, or_add_and}
use lib.Pow.{ones_lt, ones_sub-lt, le_ones}
use lib.Signed.{lt_z, shr_z}
use Rattle.ops.specs.declared.Function.TheVariants.{Not, And, Or, Implies, Equal, BvNot, BvAnd, BvOr, BvAdd, BvMul, BvShl, BvUlt, BvNeg, BvSub, BvSlt, BvAshr}
use Rattle.ops.specs.declared.Function.{Function}
use Rattle.ops.specs.Signed.{greatest, least, signed}
use Rattle.ops.specs.Meaning.{bit, holds, ones, operation, value_of}
use Rattle.ops.specs.Ranks.{function_rank, rank_width}
use Rattle.ops.specs.Fits.{fits}
use Rattle.ops.specs.Laws.{first, second, Absorbs, Absorption}
use Rattle.ops.proofs.Booleans.{never, or_parts, and_shut, or_open}
use Rattle.ops.proofs.Widths.{mod_below, shifted_out, fits_below, fits_mod, fits-bit}
use Rattle.ops.proofs.Wraps.{fits_wrap}
use Rattle.ops.proofs.Signed.{turned, less_turned, turned_greatest, turned_least, shift_zero, shift_ones}

-- truths

and_first : (a b b' : Bool) → not a ≡ true → (a && b) ≡ (a && b')
and_first true b b' p = never p
and_first false b b' p = refl

and_second : (a a' b : Bool) → not b ≡ true → (a && b) ≡ (a' && b)
and_second a a' true p = never p
and_second a a' false p = and_shut a ∙ sym (and_shut a')

or-first : (a b b' : Bool) → a ≡ true → (a || b) ≡ (a || b')
or-first true b b' p = refl
or-first false b b' p = never p

or-second : (a a' b : Bool) → b ≡ true → (a || b) ≡ (a' || b)
or-second a a' true p = or_open a ∙ sym (or_open a')
or-second a a' false p = never p

-- vectors: a value that each other operand leaves as it is, on either side

module _ (f : ℕ → ℕ → ℕ) (a : ℕ) where
  one_first : ((y : ℕ) → f a y ≡ a) → (x y y' : ℕ) → eqb x a ≡ true → f x y ≡ f x y'
  one_first h x y y' e =
      ap (λ (u : ℕ). f u y) (eqb-true x a e) ∙ h y ∙ sym (h y') ∙ sym (ap (λ (u : ℕ). f u y') (eqb-true x a e))

  one_second : ((x : ℕ) → f x a ≡ a) → (x x' y : ℕ) → eqb y a ≡ true → f x y ≡ f x' y
  one_second h x x' y e =
      ap (λ (u : ℕ). f x u) (eqb-true y a e) ∙ h x ∙ sym (h x') ∙ sym (ap (λ (u : ℕ). f x' u) (eqb-true y a e))

module _ (n : ℕ) where
  nothing : {v : ℕ} → v ≡ 0 → v % 2 ^ n ≡ 0
  nothing e = ap (λ (u : ℕ). u % 2 ^ n) e ∙ zero-mod (2 ^ n)

  -- all ones, or'ed with a number below 2^n
  or-below : (y : ℕ) → y < 2 ^ n → bit_or (ones n) y ≡ ones n
  or-below y h =
      add_right_cancel y (ap (λ (a : ℕ). bit_or (ones n) y + a) (sym (and_comm (ones n) y ∙ and_mask y n ∙ mod-eq_of_lt h)) ∙ or_add_and (ones n) y)

  or-ones : (y : ℕ) → bit_or (ones n) y % 2 ^ n ≡ ones n
  or-ones y = or_mod (ones n) y n ∙ ap (λ (a : ℕ). bit_or a (y % 2 ^ n)) (mod-eq_of_lt (ones_lt n)) ∙ or-below (y % 2 ^ n) (mod_below n y)

  ones-or : (x : ℕ) → bit_or x (ones n) % 2 ^ n ≡ ones n
  ones-or x = ap (λ (a : ℕ). a % 2 ^ n) (or_comm x (ones n)) ∙ or-ones x

  out : (x x' y : ℕ) → leb n y ≡ true → (x * 2 ^ y) % 2 ^ n ≡ (x' * 2 ^ y) % 2 ^ n
  out x x' y e = shifted_out n x y (leb-true n y e) ∙ sym (shifted_out n x' y (leb-true n y e))

  -- no vector is above all ones
  none_above : (x y : ℕ) → x ≡ ones n → y < 2 ^ n → ltb x y ≡ false
  none_above x y e h = ap (λ (u : ℕ). ltb u y) e ∙ le-ltb (ones n) y (le_ones n h)

-- and none is below 0
none_below : (x y : ℕ) → y ≡ 0 → ltb x y ≡ false
none_below x y e = ap (ltb x) e ∙ le-ltb x 0 (omega arith)

-- the same of the greatest and the least in the signed order
module _ (n x y : ℕ) where
  none-above-greatest : eqb x (greatest n) ≡ true → lt_z (signed n x) (signed n y) ≡ false
  none-above-greatest e =
      less_turned n x y ∙ none_above n (turned n x) (turned n y) (ap (turned n) (eqb-true x (greatest n) e) ∙ turned_greatest n) (mod_below n (y + least n))

  none-below-least : eqb y (least n) ≡ true → lt_z (signed n x) (signed n y) ≡ false
  none-below-least e = less_turned n x y ∙ none_below (turned n x) (turned n y) (ap (turned n) (eqb-true y (least n) e) ∙ turned_least n)

-- What is shown function by function: where one operand settles the result the other cannot change it, and the value fits.
pub record Lawful (f : Function) (n : ℕ) : Type 0 where
  pub absorbed : Absorbs f n
  pub fitted : (x y : ℕ) → fits (rank_width (function_rank f) n) (value_of f n x y) ≡ true

module _ (f : Function) (n : ℕ) (fitted : (x y : ℕ) → fits (rank_width (function_rank f) n) (value_of f n x y) ≡ true) where
  -- whatever the other operand's value
  absorbing : ((x y y' : ℕ) → first (operation f) n x ≡ true → value_of f n x y ≡ value_of f n x y') → ((x x' y : ℕ) → second (operation f) n y ≡ true → value_of f n x y ≡ value_of f n x' y) → Lawful f n
  absorbing a b = record { absorbed = record { by_first = λ x y y' h h'. a x y y'; by_second = λ x x' y h h'. b x x' y }; fitted = fitted }

  -- a function that no value settles
  unsettled : ((x : ℕ) → first (operation f) n x ≡ false) → ((y : ℕ) → second (operation f) n y ≡ false) → Lawful f n
  unsettled a b = absorbing (λ x y y' p. never (sym (a x) ∙ p)) (λ x x' y p. never (sym (b y) ∙ p))

pub lawful : (f : Function) (n : ℕ) → Lawful f n
lawful Not n = unsettled Not n (λ x y. fits-bit (not (holds x))) (λ x. refl) (λ y. refl)
lawful And n =
    absorbing And n (λ x y. fits-bit (holds x && holds y))
    (λ x y y' p. ap bit (and_first (holds x) (holds y) (holds y') p))
    (λ x x' y p. ap bit (and_second (holds x) (holds x') (holds y) p))
lawful Or n =
    absorbing Or n (λ x y. fits-bit (holds x || holds y))
    (λ x y y' p. ap bit (or-first (holds x) (holds y) (holds y') p))
    (λ x x' y p. ap bit (or-second (holds x) (holds x') (holds y) p))
lawful Implies n =
    absorbing Implies n (λ x y. fits-bit (not (holds x) || holds y))
    (λ x y y' p. ap bit (or-first (not (holds x)) (holds y) (holds y') p))
    (λ x x' y p. ap bit (or-second (not (holds x)) (not (holds x')) (holds y) p))
lawful Equal n = unsettled Equal n (λ x y. fits-bit (eqb x y)) (λ x. refl) (λ y. refl)
lawful BvNot n = unsettled BvNot n (λ x y. fits_below n _ (ones_sub-lt n (x % 2 ^ n))) (λ x. refl) (λ y. refl)
lawful BvAnd n =
    absorbing BvAnd n (λ x y. fits_mod n _)
    (one_first (λ u w. bit_and u w % 2 ^ n) 0 (λ w. nothing n (and_zero_l w)))
    (one_second (λ u w. bit_and u w % 2 ^ n) 0 (λ u. nothing n (and_zero_r u)))
lawful BvOr n =
    absorbing BvOr n (λ x y. fits_mod n _)
    (one_first (λ u w. bit_or u w % 2 ^ n) (ones n) (or-ones n))
    (one_second (λ u w. bit_or u w % 2 ^ n) (ones n) (ones-or n))
lawful BvAdd n = unsettled BvAdd n (λ x y. fits_mod n _) (λ x. refl) (λ y. refl)
lawful BvMul n =
    absorbing BvMul n (λ x y. fits_mod n _)
    (one_first (λ u w. (u * w) % 2 ^ n) 0 (λ w. nothing n (zero-mul w)))
    (one_second (λ u w. (u * w) % 2 ^ n) 0 (λ u. nothing n (mul-zero u)))
lawful BvShl n = absorbing BvShl n (λ x y. fits_mod n _) (λ x y y' p. never p) (out n)
lawful BvUlt n =
    record {
      absorbed = record {
        by_first = λ x y y' h h' p. let e = eqb-true x (ones n) p in ap bit (none_above n x y e (ltb-true y (2 ^ n) h) ∙ sym (none_above n x y' e (ltb-true y' (2 ^ n) h')));
        by_second = λ x x' y h h' p. let e = eqb-true y 0 p in ap bit (none_below x y e ∙ sym (none_below x' y e));
      };
      fitted = λ x y. fits-bit (ltb x y);
    }
lawful BvNeg n = unsettled BvNeg n (λ x y. fits_wrap n (neg_ℤ (signed n x))) (λ x. refl) (λ y. refl)
lawful BvSub n = unsettled BvSub n (λ x y. fits_wrap n (signed n x -ℤ signed n y)) (λ x. refl) (λ y. refl)
lawful BvSlt n =
    absorbing BvSlt n (λ x y. fits-bit (lt_z (signed n x) (signed n y)))
    (λ x y y' p. ap bit (none-above-greatest n x y p ∙ sym (none-above-greatest n x y' p)))
    (λ x x' y p. ap bit (none-below-least n x y p ∙ sym (none-below-least n x' y p)))
lawful BvAshr n =
    absorbing BvAshr n (λ x y. fits_wrap n (shr_z (signed n x) (2 ^ y)))
    (λ x y y' p. ⊎_elim (one_first (value_of BvAshr n) 0 (shift_zero n) x y y') (one_first (value_of BvAshr n) (ones n) (shift_ones n) x y y') (or_parts (eqb x 0) (eqb x (ones n)) p))
    (λ x x' y p. never p)

pub absorption : Absorption
absorption f n = (lawful f n).absorbed
