-- A text is cut in one way: after bytes that are all above c, at the first that is not.
-- Assumes nothing.
use mathlib.Core.Path.{◌≡◌, refl, sym, ap₂, ◌∙◌}
use mathlib.Core.Bool.{Bool, true, false, ◌&&◌}
use mathlib.Core.List.{List, [], ◌∷◌, ◌++◌, append_assoc}
use Prim.Native.Nat.{ℕ, ◌≤◌, ◌<◌}
use native.Mathlib.Omega.{arith}
use lib.Dec.{ltb}
use borrow.Author.Tests.{ltb-true, leb-true, lt-ltb}
use Rattle.smtlib.specs.Laws.{above, stops, OneCut}

pub and_left : (a b : Bool) → a && b ≡ true → a ≡ true
and_left true b e = refl
and_left false b e = e

pub and_right : (a b : Bool) → a && b ≡ true → b ≡ true
and_right true b e = e
and_right false b e = absurd (let z : ◌≡◌ {A = ℕ} 0 1 = cc in omega arith)

pub first : (c b : ℕ) (x : List ℕ) → above c (b ∷ x) ≡ true → c < b
unfolding above
first c b x p = ltb-true c b (and_left (ltb c b) (above c x) p)

pub rest : (c b : ℕ) (x : List ℕ) → above c (b ∷ x) ≡ true → above c x ≡ true
unfolding above
rest c b x p = and_right (ltb c b) (above c x) p

pub more : (c b : ℕ) (x : List ℕ) → c < b → above c x ≡ true → above c (b ∷ x) ≡ true
unfolding above
more c b x h p = rw (lt-ltb c b h, p)

pub above-append : (c : ℕ) (x y : List ℕ) → above c x ≡ true → above c y ≡ true → above c (x ++ y) ≡ true
above-append c [] y p q = q
above-append c (b ∷ x) y p q = more c b (x ++ y) (first c b x p) (above-append c x y (rest c b x p) q)

pub above_less : (c d : ℕ) (x : List ℕ) → c ≤ d → above d x ≡ true → above c x ≡ true
unfolding above
above_less c d [] h p = refl
above_less c d (b ∷ x) h p = more c b x (omega (arith, first d b x p)) (above_less c d x h (rest d b x p))

pub head_same : {a b : ℕ} {x y : List ℕ} → a ∷ x ≡ b ∷ y → a ≡ b
head_same e = cc

pub tail_same : {a b : ℕ} {x y : List ℕ} → a ∷ x ≡ b ∷ y → x ≡ y
tail_same e = cc

stopped : (c d : ℕ) (r s : List ℕ) → c < d → r ≡ d ∷ s → stops c r ≡ true → ⊥
unfolding stops
stopped c d [] s h e p = absurd (let z : ◌≡◌ {A = ℕ} 0 1 = cc in omega arith)
stopped c d (b ∷ r) s h e p = absurd (omega (arith, head_same e, leb-true b c p))

-- what is cut off, and what is left
pub cut : (c : ℕ) (x y : List ℕ) {r s : List ℕ} → above c x ≡ true → above c y ≡ true → stops c r ≡ true → stops c s ≡ true → x ++ r ≡ y ++ s → (x ≡ y) × (r ≡ s)
cut c [] [] p q h k same = (refl, same)
cut c [] (b ∷ y) p q h k same = absurd (stopped c b _ _ (first c b y q) same h)
cut c (a ∷ x) [] p q h k same = absurd (stopped c a _ _ (first c a x p) (sym same) k)
cut c (a ∷ x) (b ∷ y) p q h k same =
    let (f, g) = cut c x y (rest c a x p) (rest c b y q) h k (tail_same same) in
    (ap₂ ◌∷◌ (head_same same) f, g)

-- what follows, taken out of the brackets
pub regroup : (x y r x' y' s : List ℕ) → (x ++ y) ++ r ≡ (x' ++ y') ++ s → x ++ (y ++ r) ≡ x' ++ (y' ++ s)
regroup x y r x' y' s e = sym (append_assoc x y r) ∙ e ∙ append_assoc x' y' s

pub one_cut : OneCut
one_cut c x y r s p q h k e = cut c x y p q h k e
