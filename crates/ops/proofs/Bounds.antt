-- Which values settle less, and signed less: the bounds of the order alone.
-- Assumes nothing.
use Rattle.std.proofs.Common.{◌≡◌, ℕ, suc, ◌+◌, ◌-◌, ◌^◌, ◌<◌, Bool, true, false, ltb, sym, ap, ◌∙◌, arith, pow_pos, le-ltb, lt-ltb}
use native.Mathlib.Decide.{dec_lt}
use lib.Pow.{pow-lt}
use Rattle.ops.specs.declared.Function.TheVariants.{BvUlt, BvSlt}
use Rattle.ops.specs.Signed.{least}
use Rattle.ops.specs.Meaning.{bit, ones, value_of}
use Rattle.ops.specs.Laws.{LessSettled, SignedLessSettled}
use Rattle.ops.proofs.Widths.{mod_below}
use Rattle.ops.proofs.Wraps.{cancel}
use Rattle.ops.proofs.Signed.{turned, less_turned, turned_greatest, turned_least, turned_twice}

-- of any other value the successor is above it, and 0 below it
told_apart : {a b : Bool} → bit a ≡ bit b → a ≡ true → b ≡ false → ⊥
told_apart e p q = let z : ◌≡◌ {A = ℕ} 1 0 = sym (ap bit p) ∙ e ∙ ap bit q in omega arith

pub less_settled : LessSettled
less_settled n u h =
    record {
      as_first = λ same. go (dec_lt (suc u) (2 ^ n)) same;
      as_second = λ same. up (dec_lt 0 u) same;
    }
  where
    go : Dec (suc u < 2 ^ n) → ((y y' : ℕ) → y < 2 ^ n → y' < 2 ^ n → value_of BvUlt n u y ≡ value_of BvUlt n u y') → u ≡ ones n
    go (yes l) same = absurd (told_apart (same (suc u) u l h) (lt-ltb u (suc u) (omega arith)) (le-ltb u u (omega arith)))
    go (no l) same = omega arith

    up : Dec (0 < u) → ((x x' : ℕ) → x < 2 ^ n → x' < 2 ^ n → value_of BvUlt n x u ≡ value_of BvUlt n x' u) → u ≡ 0
    up (yes l) same = absurd (told_apart (same 0 u (pow_pos n) h) (lt-ltb 0 u l) (le-ltb u u (omega arith)))
    up (no l) same = omega arith

-- signed less is less of the turned vectors, and these are all the vectors
pub signed_less-settled : SignedLessSettled
signed_less-settled n u positive h =
    let b = less_settled n (turned n u) (inside u) in
    let top_bit : least n < 2 ^ n = pow-lt {i = n - 1} {j = n} (omega arith) in
    record {
      as_first = λ same. told (omega arith) (b.as_first (λ y y' k k'. right y k ∙ same (turned n y) (turned n y') (inside y) (inside y') ∙ sym (right y' k')) ∙ sym (turned_greatest n));
      as_second = λ same. told top_bit (b.as_second (λ x x' k k'. left x k ∙ same (turned n x) (turned n x') (inside x) (inside x') ∙ sym (left x' k')) ∙ sym (turned_least n));
    }
  where
    inside : (v : ℕ) → turned n v < 2 ^ n
    inside v = mod_below n (v + least n)

    told : {v : ℕ} → v < 2 ^ n → turned n u ≡ turned n v → u ≡ v
    told k e = cancel n (least n) h k e

    right : (y : ℕ) → y < 2 ^ n → value_of BvUlt n (turned n u) y ≡ value_of BvSlt n u (turned n y)
    right y k = ap bit (ap (ltb (turned n u)) (sym (turned_twice n positive y k)) ∙ sym (less_turned n u (turned n y)))

    left : (x : ℕ) → x < 2 ^ n → value_of BvUlt n x (turned n u) ≡ value_of BvSlt n (turned n x) u
    left x k = ap bit (ap (λ (v : ℕ). ltb v (turned n u)) (sym (turned_twice n positive x k)) ∙ sym (less_turned n (turned n x) u))
