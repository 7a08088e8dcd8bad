-- Lists of names: what is among two lists, and names that are all different.
-- Assumes nothing.
use mathlib.Core.Path.{◌≡◌, refl, sym, ap, ◌∙◌}
use mathlib.Core.Bool.{Bool, true, false, cond, not, ◌&&◌, ◌||◌, or_assoc}
use mathlib.Core.List.{List, [], ◌∷◌, ◌++◌}
use Prim.Native.Nat.{ℕ, suc}
use native.Mathlib.Omega.{arith}
use lib.Dec.{eqb, ltb}
use lib.ListN.{length}
use borrow.Author.Tests.{eqb-true, eqb-false, eq-eqb, ne_eqb, ltb-true, ltb-false, lt-ltb, le-ltb, not-true}
use Rattle.smtlib.specs.Bytes.{same_bytes, place_in, is_in}
use Rattle.smtlib.proofs.Cuts.{and_left, and_right}
use Rattle.parser.specs.Grammar.{Tree, Declared}
use Rattle.parser.specs.Trees.{names_of, distinct, every_tree}
use Rattle.parser.proofs.Accepts.{both}

eqb_sym : (a b : ℕ) → eqb a b ≡ eqb b a
eqb_sym a b = go (eqb a b) refl
  where
    go : (t : Bool) → eqb a b ≡ t → t ≡ eqb b a
    go true e = sym (eq-eqb b a (sym (eqb-true a b e)))
    go false e = sym (ne_eqb b a (λ z. eqb-false a b e (sym z)))

same_sym : (x y : List ℕ) → same_bytes x y ≡ same_bytes y x
unfolding same_bytes
same_sym [] [] = refl
same_sym [] (b ∷ y) = refl
same_sym (a ∷ x) [] = refl
same_sym (a ∷ x) (b ∷ y) = ap (λ (t : Bool). t && same_bytes x y) (eqb_sym a b) ∙ ap (λ (t : Bool). eqb b a && t) (same_sym x y)

ltb-suc : (a b : ℕ) → ltb (suc a) (suc b) ≡ ltb a b
ltb-suc a b = go (ltb a b) refl
  where
    go : (t : Bool) → ltb a b ≡ t → ltb (suc a) (suc b) ≡ t
    go true e = lt-ltb (suc a) (suc b) (omega (arith, ltb-true a b e))
    go false e = le-ltb (suc a) (suc b) (omega (arith, ltb-false a b e))

none_in : (w : List ℕ) → is_in [] w ≡ false
unfolding place_in
none_in w = refl

in_cons : (x : List ℕ) (xs : List (List ℕ)) (w : List ℕ) → is_in (x ∷ xs) w ≡ same_bytes x w || is_in xs w
unfolding place_in
in_cons x xs w = go (same_bytes x w)
  where
    go : (t : Bool) → ltb (cond t 0 (suc (place_in xs w))) (suc (length xs)) ≡ t || is_in xs w
    go true = lt-ltb 0 (suc (length xs)) (omega arith)
    go false = ltb-suc (place_in xs w) (length xs)

in_append : (xs ys : List (List ℕ)) (w : List ℕ) → is_in (xs ++ ys) w ≡ is_in xs w || is_in ys w
in_append [] ys w = sym (ap (λ (t : Bool). t || is_in ys w) (none_in w))
in_append (x ∷ xs) ys w =
    in_cons x (xs ++ ys) w ∙ ap (λ (t : Bool). same_bytes x w || t) (in_append xs ys w) ∙ sym (or_assoc (same_bytes x w) (is_in xs w) (is_in ys w))
    ∙ ap (λ (t : Bool). t || is_in ys w) (sym (in_cons x xs w))

or_left : (a b : Bool) → a || b ≡ false → a ≡ false
or_left true b e = e
or_left false b e = refl

or_right : (a b : Bool) → a || b ≡ false → b ≡ false
or_right true b e = absurd (let z : ◌≡◌ {A = ℕ} 0 1 = ap (λ (t : Bool). cond t 0 1) e in omega arith)
or_right false b e = e

-- one name more, which is none of those before
pub distinct_end : (ws : List (List ℕ)) (w : List ℕ) → distinct ws ≡ true → is_in ws w ≡ false → distinct (ws ++ (w ∷ [])) ≡ true
unfolding distinct
distinct_end [] w d n = rw (none_in w)
distinct_end (x ∷ xs) w d n =
    let f : same_bytes x w || is_in xs w ≡ false = sym (in_cons x xs w) ∙ n in
    let g : is_in (xs ++ (w ∷ [])) x ≡ false =
    in_append xs (w ∷ []) x ∙ rw (not-true (is_in xs x) (and_left (not (is_in xs x)) (distinct xs) d), in_cons w [] x, none_in x, same_sym w x, or_left (same_bytes x w) (is_in xs w) f) in
    rw (g, distinct_end xs w (and_right (not (is_in xs x)) (distinct xs) d) (or_right (same_bytes x w) (is_in xs w) f))

-- and back
pub distinct-here : (ws : List (List ℕ)) (w : List ℕ) (vs : List (List ℕ)) → distinct (ws ++ (w ∷ vs)) ≡ true → is_in ws w ≡ false
unfolding distinct
distinct-here [] w vs d = none_in w
distinct-here (x ∷ xs) w vs d =
    let f = not-true (is_in (xs ++ (w ∷ vs)) x) (and_left (not (is_in (xs ++ (w ∷ vs)) x)) (distinct (xs ++ (w ∷ vs))) d) in
    let g = or_right (is_in xs x) (is_in (w ∷ vs) x) (sym (in_append xs (w ∷ vs) x) ∙ f) in
    let h = or_left (same_bytes w x) (is_in vs x) (sym (in_cons w vs x) ∙ g) in
    in_cons x xs w ∙ rw (same_sym x w, h) (distinct-here xs w vs (and_right (not (is_in (xs ++ (w ∷ vs)) x)) (distinct (xs ++ (w ∷ vs))) d))

pub names-append : (ds es : List Declared) → names_of (ds ++ es) ≡ names_of ds ++ names_of es
names-append [] es = refl
names-append (d ∷ ds) es = ap (λ (ws : List (List ℕ)). d.name ∷ ws) (names-append ds es)

pub names-length : (ds : List Declared) → length ds ≡ length (names_of ds)
names-length [] = refl
names-length (d ∷ ds) = ap suc (names-length ds)

pub every_end : (test : Tree → Bool) (ts : List Tree) (t : Tree) → every_tree test ts ≡ true → test t ≡ true → every_tree test (ts ++ (t ∷ [])) ≡ true
unfolding every_tree
every_end test [] t e f = both f refl
every_end test (x ∷ xs) t e f = both (and_left (test x) (every_tree test xs) e) (every_end test xs t (and_right (test x) (every_tree test xs) e) f)
