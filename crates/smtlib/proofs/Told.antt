-- Numbers, sorts, constants and operators give back what they were written from.
-- Assumes nothing.
use mathlib.Core.Path.{◌≡◌, refl, sym, ap, ◌∙◌}
use mathlib.Core.Bool.{Bool, true, false, cond, ◌&&◌, ◌||◌}
use mathlib.Core.List.{List, [], ◌∷◌, ◌++◌, append_cancel_left}
use Prim.Native.Nat.{ℕ, zero, suc, ◌^◌, ◌≤◌, ◌<◌}
use native.Mathlib.Omega.{arith}
use lib.ListN.{get_or}
use lib.Dec.{eqb, ltb, eqb-suc-zero}
use borrow.Author.Tests.{eqb-true, leb-true, ltb-true, lt-ltb, le-ltb}
use Rattle.std.proofs.lemmas.Bool.Decides.{nat_tests}
use Rattle.ops.specs.Numbers.{last_op}
use Rattle.smtlib.specs.Bytes.{bytes, same_bytes, place_in, is_in}
use Rattle.smtlib.specs.Numerals.{numeral, bits}
use Rattle.smtlib.specs.Symbols.{operators, operator_name, operator_of, vector_sort, sort_name, constant_name}
use Rattle.smtlib.specs.Laws.{above, stops, OperatorsTold, OperatorsAbove, OperatorsRead, OperatorsNamed, SortsTold, ConstantsTold}
use Rattle.smtlib.proofs.Cuts.{above_less, head_same, tail_same, cut, regroup, and_left, and_right}
use Rattle.smtlib.proofs.Searches.{word_at}
use Rattle.smtlib.proofs.Operators.{passes, passed}
use Rattle.smtlib.proofs.Digits.{numeral-told, numeral-above, bits-told, bits_above}

-- Numbers

pub plain-number : (c v : ℕ) → c ≤ 47 → above c (numeral v) ≡ true
plain-number c v h = above_less c 47 (numeral v) h (numeral-above v)

pub number-told : (a b : ℕ) {r s : List ℕ} → stops 47 r ≡ true → stops 47 s ≡ true → numeral a ++ r ≡ numeral b ++ s → (a ≡ b) × (r ≡ s)
number-told a b h k e =
    let (x, y) = cut 47 (numeral a) (numeral b) (numeral-above a) (numeral-above b) h k e in
    (numeral-told a b x, y)

-- Sorts, whatever follows

vector-told : (n n' : ℕ) (r s : List ℕ) → vector_sort n ++ r ≡ vector_sort n' ++ s → (n ≡ n') × (r ≡ s)
unfolding vector_sort stops
vector-told n n' r s e =
    let (x, y) = number-told n n' refl refl (regroup (numeral n) (41 ∷ []) r (numeral n') (41 ∷ []) s (append_cancel_left (bytes "(_ BitVec ") _ _ e)) in
    (x, tail_same y)

pub sort_told : SortsTold
unfolding sort_name vector_sort
sort_told zero zero zero zero r s e = (refl, refl, append_cancel_left (bytes "Bool") r s e)
sort_told zero zero zero (suc n') r s e = absurd (omega (arith, head_same e))
sort_told zero zero (suc m') n' r s e = absurd (omega (arith, head_same e))
sort_told zero (suc n) zero zero r s e = absurd (omega (arith, head_same e))
sort_told zero (suc n) zero (suc n') r s e = let (x, y) = vector-told (suc n) (suc n') r s e in (refl, x, y)
sort_told zero (suc n) (suc m') n' r s e = absurd (omega (arith, head_same (tail_same e)))
sort_told (suc m) n zero zero r s e = absurd (omega (arith, head_same e))
sort_told (suc m) n zero (suc n') r s e = absurd (omega (arith, head_same (tail_same e)))
sort_told (suc m) n (suc m') n' r s e =
    let second : ℕ → List ℕ = λ k. vector_sort k ++ (41 ∷ []) in
    let (x, y) = vector-told (suc m) (suc m') _ _ (regroup (vector_sort (suc m)) (32 ∷ second n) r (vector_sort (suc m')) (32 ∷ second n') s (append_cancel_left (bytes "(Array ") _ _ e)) in
    let (z, w) = vector-told n n' _ _ (regroup (vector_sort n) (41 ∷ []) r (vector_sort n') (41 ∷ []) s (tail_same y)) in
    (x, z, tail_same w)

-- Operators

right : ℕ → Bool
right op = ltb op 2 || (eqb (place_in operators (operator_name op)) op && above 41 (operator_name op))

all_right : (op : ℕ) → 2 ≤ op → op ≤ last_op → eqb (place_in operators (operator_name op)) op && above 41 (operator_name op) ≡ true
unfolding passes same_bytes place_in above right
all_right op low high = rw (le-ltb op 2 low) at (passed (suc last_op) right op refl (omega arith))

-- what a name is looked up as
pub operators-read : OperatorsRead
operators-read op h =
    let e = eqb-true (place_in operators (operator_name op)) op (and_left _ (above 41 (operator_name op)) (all_right op h.0 (omega (arith, h.1)))) in
    rw (e, lt-ltb op (suc last_op) h.1)

pub operators-named : OperatorsNamed
operators-named w h = go (is_in operators w) refl h
  where
    go : (t : Bool) → is_in operators w ≡ t → 0 < cond t (place_in operators w) 0 → get_or operators (cond t (place_in operators w) 0) [] ≡ w
    go true e k = word_at operators w (ltb-true (place_in operators w) (suc last_op) e)
    go false e k = absurd (omega arith)

nothing_named : operator_of [] ≡ 0
unfolding place_in same_bytes
nothing_named = refl

-- a word that no operator has
pub unnamed : (w : List ℕ) → ((k : ℕ) → 2 ≤ k → k < 21 → operator_name k ≡ w → ⊥) → 0 ≡ operator_of w
unnamed w h = go (operator_of w) refl
  where
    few : operator_of w < 21
    few = grind (arith, nat_tests)

    go : (n : ℕ) → operator_of w ≡ n → 0 ≡ operator_of w
    go zero e = sym e
    go (suc zero) e =
        let named : operator_name (operator_of w) ≡ w = operators-named w (omega arith) in
        let empty : [] ≡ w = ap operator_name (sym e) ∙ named in
        let none : operator_of w ≡ 0 = ap operator_of (sym empty) ∙ nothing_named in
        sym none
    go (suc (suc n)) e = absurd (h (operator_of w) (omega arith) few (operators-named w (omega arith)))

pub operators-told : OperatorsTold
operators-told a b h k e = sym (operators-read a h) ∙ ap operator_of e ∙ operators-read b k

pub operators-above : OperatorsAbove
operators-above op h = and_right (eqb (place_in operators (operator_name op)) op) _ (all_right op h.0 (omega (arith, h.1)))

-- the same, for a number up to the last
pub operator_told : (a b : ℕ) → 2 ≤ a → a ≤ last_op → 2 ≤ b → b ≤ last_op → operator_name a ≡ operator_name b → a ≡ b
operator_told a b h k l m e = operators-told a b (h, omega arith) (l, omega arith) e

pub operator_above : (op : ℕ) → 2 ≤ op → op ≤ last_op → above 41 (operator_name op) ≡ true
operator_above op h k = operators-above op (h, omega arith)

-- Constants

pub constant-told : ConstantsTold
unfolding constant_name
constant-told zero zero zero r s p q h k e = (refl, append_cancel_left (bytes "false") r s e)
constant-told zero zero (suc w) r s p q h k e = absurd (omega (arith, head_same e))
constant-told zero (suc v) zero r s p q h k e = absurd (omega (arith, head_same e))
constant-told zero (suc v) (suc w) r s p q h k e = (omega (arith, leb-true (suc v) 1 p, leb-true (suc w) 1 q), append_cancel_left (bytes "true") r s e)
constant-told (suc n) v w r s p q h k e =
    let (x, y) = cut 47 (bits (suc n) v) (bits (suc n) w) (bits_above (suc n) v) (bits_above (suc n) w) h k (tail_same (tail_same e)) in
    (bits-told (suc n) v w (ltb-true v (2 ^ suc n) (rw (eqb-suc-zero n) at p)) (ltb-true w (2 ^ suc n) (rw (eqb-suc-zero n) at q)) x, y)

-- no constant begins with a parenthesis
pub no_application : (n v : ℕ) (r s : List ℕ) → constant_name n v ++ r ≡ 40 ∷ s → ⊥
unfolding constant_name
no_application zero zero r s e = absurd (omega (arith, head_same e))
no_application zero (suc v) r s e = absurd (omega (arith, head_same e))
no_application (suc n) v r s e = absurd (omega (arith, head_same e))
