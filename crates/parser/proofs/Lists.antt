-- What std's searches answer is what the definitions say.
-- Assumes nothing.
use Rattle.std.proofs.Common.{◌≡◌, refl, sym, ap, ◌∙◌, Bool, true, false, cond, ◌||◌, List, [], ◌∷◌, ℕ, suc, eqb, ltb, length, map, nat_eq, Bor, arith}
use Rattle.std.specs.List.{list_all, list_any}
use Rattle.std.specs.Cmp.Lexicographic.{pointwise}
use borrow.Author.Tests.{eqb-true, eqb-false, eq-eqb, ne_eqb, ltb-true, ltb-false, lt-ltb, le-ltb}
use Rattle.smtlib.specs.Bytes.{same_bytes, place_in, is_in}
use Rattle.table.specs.Folds.{every}
use Rattle.parser.specs.Words.{among}

pub every_is : {A : Type 0} (test : A → Bool) (xs : List A) → list_all test xs ≡ every test xs
unfolding every
every_is test [] = refl
every_is test (x ∷ xs) = rw (every_is test xs)

turned : (a b : ℕ) → eqb a b ≡ eqb b a
turned a b = go (eqb a b) refl
  where
    go : (t : Bool) → eqb a b ≡ t → t ≡ eqb b a
    go true e = sym (eq-eqb b a (sym (eqb-true a b e)))
    go false e = sym (ne_eqb b a (λ f. eqb-false a b e (sym f)))

pub among_is : (b : ℕ) (xs : List ℕ) → list_any (λ x. nat_eq x b) xs ≡ among xs b
unfolding among
among_is b [] = refl
among_is b (x ∷ xs) = rw (among_is b xs, turned x b)

pub same_is : (x y : List ℕ) → pointwise nat_eq x y ≡ same_bytes x y
unfolding same_bytes
same_is [] [] = refl
same_is [] (b ∷ y) = refl
same_is (a ∷ x) [] = refl
same_is (a ∷ x) (b ∷ y) = rw (same_is x y)

pub same_turned : (x y : List ℕ) → same_bytes x y ≡ same_bytes y x
unfolding same_bytes
same_turned [] [] = refl
same_turned [] (b ∷ y) = refl
same_turned (a ∷ x) [] = refl
same_turned (a ∷ x) (b ∷ y) = rw (same_turned x y, turned a b)

-- what `==` of two slices answers, as the definitions have it
pub told : {r t : Bool} {z : List ℕ} (x y : List ℕ) → r ≡ pointwise nat_eq x z → z ≡ y → r ≡ t → same_bytes x y ≡ t
told x y e s f = sym (same_is x y) ∙ ap (pointwise nat_eq x) (sym s) ∙ sym e ∙ f

-- the other way round
pub told_back : {r t : Bool} {z : List ℕ} (x y : List ℕ) → r ≡ pointwise nat_eq x z → z ≡ y → r ≡ t → same_bytes y x ≡ t
told_back x y e s f = same_turned y x ∙ told x y e s f

after : (k n : ℕ) → ltb k n ≡ ltb (suc k) (suc n)
after k n = go (ltb k n) refl
  where
    go : (t : Bool) → ltb k n ≡ t → t ≡ ltb (suc k) (suc n)
    go true e = sym (lt-ltb (suc k) (suc n) (omega (arith, ltb-true k n e)))
    go false e = sym (le-ltb (suc k) (suc n) (omega (arith, ltb-false k n e)))

-- a word among others
pub in_is : (w : List ℕ) (ws : List (Bor (List ℕ))) → list_any (λ x. pointwise nat_eq x.now w) ws ≡ is_in (map (λ x. x.now) ws) w
unfolding place_in
in_is w [] = refl
in_is w (x ∷ ws) = by (same_bytes x.now w) (same_is x.now w) (in_is w ws)
  where
    by : (t : Bool) → pointwise nat_eq x.now w ≡ t → list_any (λ y. pointwise nat_eq y.now w) ws ≡ is_in (map (λ y. y.now) ws) w
        → pointwise nat_eq x.now w || list_any (λ y. pointwise nat_eq y.now w) ws ≡ ltb (cond t 0 (suc (place_in (map (λ y. y.now) ws) w))) (suc (length (map (λ y. y.now) ws)))
    by true e h = rw e (sym (lt-ltb 0 (suc (length (map (λ y. y.now) ws))) (omega arith)))
    by false e h = rw (e, h) (after (place_in (map (λ y. y.now) ws) w) (length (map (λ y. y.now) ws)))
