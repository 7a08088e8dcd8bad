-- Digits give back their number.
-- Assumes nothing.
use mathlib.Core.Path.{◌≡◌, refl, sym, ap, ◌∙◌}
use mathlib.Core.Bool.{Bool, true, false}
use mathlib.Core.List.{List, [], ◌∷◌, ◌++◌}
use Prim.Native.Nat.{ℕ, zero, suc, ◌+◌, ◌-◌, ◌*◌, ◌/◌, ◌%◌, ◌^◌, ◌≤◌, ◌<◌}
use native.Mathlib.Nat.{pow-suc, div-lt_iff_lt-mul}
use native.Mathlib.Omega.{arith}
use lib.Dec.{ltb}
use borrow.Author.Tests.{ltb-false, lt-ltb, le-ltb}
use Rattle.smtlib.specs.Numerals.{digit, numeral_within, numeral, bits, value_of}
use Rattle.smtlib.specs.Laws.{above, NumeralsTold, BitsTold, NumeralsAbove, BitsAbove}
use Rattle.smtlib.proofs.Cuts.{above-append}

value-more : (base v d : ℕ) (x : List ℕ) → value_of base v (x ++ digit d) ≡ value_of base v x * base + d
unfolding value_of
value-more base v d [] = ap (λ (k : ℕ). v * base + k) (omega arith)
value-more base v d (c ∷ x) = value-more base (v * base + (c - 48)) d x

numeral-value : (k v : ℕ) → v ≤ k → value_of 10 0 (numeral_within k v) ≡ v
unfolding value_of numeral_within
numeral-value zero v h = omega arith
numeral-value (suc k) v h = go (ltb v 10) refl (λ big. numeral-value k (v / 10) (omega arith))
  where
    go : (t : Bool) → ltb v 10 ≡ t → (10 ≤ v → value_of 10 0 (numeral_within k (v / 10)) ≡ v / 10) → value_of 10 0 (elim t [ true ↦ digit v | false ↦ numeral_within k (v / 10) ++ digit (v % 10) ]) ≡ v
    go true e ih = omega arith
    go false e ih = rw (value-more 10 0 (v % 10) (numeral_within k (v / 10)), ih (ltb-false v 10 e)) (omega arith)

-- numerals differ
pub numeral-told : NumeralsTold
numeral-told a b e = sym (numeral-value a a (omega arith)) ∙ ap (value_of 10 0) e ∙ numeral-value b b (omega arith)

bits-value : (n v : ℕ) → v < 2 ^ n → value_of 2 0 (bits n v) ≡ v
unfolding value_of bits
bits-value zero v h = omega arith
bits-value (suc n) v h =
    let small : v / 2 < 2 ^ n = (div-lt_iff_lt-mul {k = 2} (omega arith)).1 (rw (← pow-suc) h) in
    rw (value-more 2 0 (v % 2) (bits n (v / 2)), bits-value n (v / 2) small) (omega arith)

pub bits-told : BitsTold
bits-told n a b p q e = sym (bits-value n a p) ∙ ap (value_of 2 0) e ∙ bits-value n b q

-- and consist of digits
digit-above : (d : ℕ) → above 47 (digit d) ≡ true
unfolding above
digit-above d = rw (lt-ltb 47 (48 + d) (omega arith))

digits_above : (k v : ℕ) → above 47 (numeral_within k v) ≡ true
unfolding numeral_within
digits_above zero v = digit-above v
digits_above (suc k) v = go (ltb v 10) (digits_above k (v / 10))
  where
    go : (t : Bool) → above 47 (numeral_within k (v / 10)) ≡ true → above 47 (elim t [ true ↦ digit v | false ↦ numeral_within k (v / 10) ++ digit (v % 10) ]) ≡ true
    go true h = digit-above v
    go false h = above-append 47 (numeral_within k (v / 10)) (digit (v % 10)) h (digit-above (v % 10))

pub numeral-above : NumeralsAbove
numeral-above v = digits_above v v

pub bits_above : BitsAbove
unfolding bits above
bits_above zero v = refl
bits_above (suc n) v = above-append 47 (bits n (v / 2)) (digit (v % 2)) (bits_above n (v / 2)) (digit-above (v % 2))

-- As they are written: a digit alone, or after others

any_bound : (k j v : ℕ) → v ≤ k → v ≤ j → numeral_within k v ≡ numeral_within j v
unfolding numeral_within
any_bound zero zero v h l = refl
any_bound zero (suc j) v h l = rw (lt-ltb v 10 (omega arith), numeral_within)
any_bound (suc k) zero v h l = rw (lt-ltb v 10 (omega arith), numeral_within)
any_bound (suc k) (suc j) v h l = go (ltb v 10) refl (λ big. any_bound k j (v / 10) (omega arith) (omega arith))
  where
    go : (t : Bool) → ltb v 10 ≡ t → (10 ≤ v → numeral_within k (v / 10) ≡ numeral_within j (v / 10))
        → ◌≡◌ {A = List ℕ} (elim t [ true ↦ digit v | false ↦ numeral_within k (v / 10) ++ digit (v % 10) ]) (elim t [ true ↦ digit v | false ↦ numeral_within j (v / 10) ++ digit (v % 10) ])
    go true e ih = refl
    go false e ih = ap (λ (x : List ℕ). x ++ digit (v % 10)) (ih (ltb-false v 10 e))

pub numeral_last : (v : ℕ) → v < 10 → numeral v ≡ digit v
unfolding numeral_within
numeral_last zero h = refl
numeral_last (suc v) h = rw (lt-ltb (suc v) 10 h, numeral_within)

pub numeral-more : (v : ℕ) → 10 ≤ v → numeral v ≡ numeral (v / 10) ++ digit (v % 10)
unfolding numeral_within
numeral-more zero h = absurd (omega arith)
numeral-more (suc v) h = rw (le-ltb (suc v) 10 h, numeral_within) (ap (λ (x : List ℕ). x ++ digit (suc v % 10)) (any_bound v (suc v / 10) (suc v / 10) (omega arith) (omega arith)))

pub bits_none : (n v : ℕ) → n ≡ 0 → bits n v ≡ []
unfolding bits
bits_none n v e = ap (λ (k : ℕ). bits k v) e

pub bits-more : (n v : ℕ) → 0 < n → bits n v ≡ bits (n - 1) (v / 2) ++ digit (v % 2)
unfolding bits
bits-more zero v h = absurd (omega arith)
bits-more (suc n) v h = let e : n ≡ suc n - 1 = omega arith in ap (λ (k : ℕ). bits k (v / 2) ++ digit (v % 2)) e
