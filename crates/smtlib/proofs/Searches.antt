-- Words compared byte by byte, and looked up among others.
-- Assumes nothing.
use mathlib.Core.Path.{◌≡◌, refl, sym, ap, ap₂, ◌∙◌}
use mathlib.Core.Bool.{Bool, true, false, cond, ◌&&◌}
use mathlib.Core.List.{List, [], ◌∷◌}
use Prim.Native.Nat.{ℕ, suc, ◌+◌, ◌-◌, ◌≤◌, ◌<◌}
use native.Mathlib.Numerals.{add-one}
use native.Mathlib.Omega.{arith}
use lib.Dec.{eqb, ltb}
use lib.ListN.{length, take, drop, get_or, drop_of_length-le, length-drop}
use lib.Seq.{drop-cons, take-nil, take_all}
use borrow.Author.Tests.{eqb-true, eq-eqb, ltb-true, ltb-false}
use Rattle.std.specs.Prelude.{nat_eq}
use Rattle.std.specs.Cmp.Lexicographic.{pointwise}
use Rattle.smtlib.specs.Bytes.{part, same_bytes, place_in, cuts}
use Rattle.smtlib.proofs.Cuts.{and_left, and_right}

-- Equal words

pub same_is : (x y : List ℕ) → same_bytes x y ≡ true → x ≡ y
unfolding same_bytes
same_is [] [] e = refl
same_is [] (b ∷ y) e = absurd (let z : ◌≡◌ {A = ℕ} 0 1 = cc in omega arith)
same_is (a ∷ x) [] e = absurd (let z : ◌≡◌ {A = ℕ} 0 1 = cc in omega arith)
same_is (a ∷ x) (b ∷ y) e = ap₂ ◌∷◌ (eqb-true a b (and_left (eqb a b) (same_bytes x y) e)) (same_is x y (and_right (eqb a b) (same_bytes x y) e))

pub is_same : (x : List ℕ) → same_bytes x x ≡ true
unfolding same_bytes
is_same [] = refl
is_same (a ∷ x) = rw (eq-eqb a a refl) (is_same x)

pub unlike_lengths : (x y : List ℕ) → (length x ≡ length y → ⊥) → false ≡ same_bytes x y
unfolding same_bytes
unlike_lengths [] [] h = absurd (h refl)
unlike_lengths [] (b ∷ y) h = refl
unlike_lengths (a ∷ x) [] h = refl
unlike_lengths (a ∷ x) (b ∷ y) h = go (eqb a b) (unlike_lengths x y (λ e. h (ap suc e)))
  where
    go : (t : Bool) → false ≡ same_bytes x y → false ≡ t && same_bytes x y
    go true e = e
    go false e = refl

-- what `==` answers of two slices
pub same_pointwise : (x y : List ℕ) → pointwise nat_eq x y ≡ same_bytes x y
unfolding same_bytes
same_pointwise [] [] = refl
same_pointwise [] (b ∷ y) = refl
same_pointwise (a ∷ x) [] = refl
same_pointwise (a ∷ x) (b ∷ y) = ap (λ (t : Bool). eqb a b && t) (same_pointwise x y)

-- A part of a text, with its places brought into the text

module _ (a b r : ℕ) (is : r ≡ cond (ltb a b) a b) where
  pub not-above : (r ≤ a) × (r ≤ b)
  not-above = go (ltb a b) refl
    where
      go : (t : Bool) → ltb a b ≡ t → (r ≤ a) × (r ≤ b)
      go true e = let f : r ≡ a = rw e at is in (omega arith, omega (arith, ltb-true a b e))
      go false e = let f : r ≡ b = rw e at is in (omega (arith, ltb-false a b e), omega arith)

module _ (text : List ℕ) (from to end start : ℕ) (ends : end ≡ cond (ltb to (length text)) to (length text)) (starts : start ≡ cond (ltb from end) from end) where
  pub within : (start ≤ end) × (end ≤ length text)
  within = ((not-above from end start starts).1, (not-above to (length text) end ends).1)

  none : (k : ℕ) (l : List ℕ) → k ≡ 0 → take k l ≡ []
  none k l e = rw e

  pub part_is : part text start end ≡ part text from to
  part_is = go (ltb to (length text)) (ltb from end) refl refl
    where
      go : (t u : Bool) → ltb to (length text) ≡ t → ltb from end ≡ u → part text start end ≡ part text from to
      go true true e f = let x : end ≡ to = rw e at ends in let y : start ≡ from = rw f at starts in rw (y, x)
      go true false e f =
          let x : end ≡ to = rw e at ends in let y : start ≡ end = rw f at starts in
          none (end - start) (drop start text) (omega arith) ∙ sym (none (to - from) (drop from text) (omega (arith, ltb-false from end f)))
      go false true e f =
          let x : end ≡ length text = rw e at ends in let y : start ≡ from = rw f at starts in
          let z : length (drop from text) ≡ length text - from = length-drop from text in
          rw y (take_all (end - from) (drop from text) (omega arith) ∙ sym (take_all (to - from) (drop from text) (omega (arith, ltb-false to (length text) e))))
      go false false e f =
          let x : end ≡ length text = rw e at ends in let y : start ≡ end = rw f at starts in
          none (end - start) (drop start text) (omega arith) ∙ sym (ap (take (to - from)) (drop_of_length-le text {i = from} (omega (arith, ltb-false from end f))) ∙ take-nil (to - from))

-- Looking a word up: it is none of the first k, which end at from

module _ (all ends word : List ℕ) (from k : ℕ) (so_far : k + place_in (cuts all from (drop k ends)) word ≡ place_in (cuts all 0 ends) word) where
  next : k < length ends → place_in (cuts all from (drop k ends)) word ≡ cond (same_bytes (part all from (get_or ends k 0)) word) 0 (suc (place_in (cuts all (get_or ends k 0) (drop (suc k) ends)) word))
  unfolding place_in cuts
  next b = ap (λ (l : List ℕ). place_in (cuts all from l) word) (drop-cons ends k 0 b)

  pub word-found : k < length ends → same_bytes (part all from (get_or ends k 0)) word ≡ true → k ≡ place_in (cuts all 0 ends) word
  word-found b e = let z = rw e at (next b) in sym (sym so_far ∙ ap (λ (n : ℕ). k + n) z ∙ omega arith)

  pub word-passed : k < length ends → same_bytes (part all from (get_or ends k 0)) word ≡ false → (k + 1) + place_in (cuts all (get_or ends k 0) (drop (k + 1) ends)) word ≡ place_in (cuts all 0 ends) word
  word-passed b e =
      let z = rw e at (next b) in
      let m = place_in (cuts all (get_or ends k 0) (drop (suc k) ends)) word in
      let y : suc k + m ≡ k + suc m = omega arith in
      rw (add-one k) (y ∙ sym (ap (λ (n : ℕ). k + n) z) ∙ so_far)

  pub no-word-found : length ends ≤ k → k ≡ place_in (cuts all 0 ends) word
  unfolding place_in cuts
  no-word-found b = sym (sym so_far ∙ ap (λ (l : List ℕ). k + place_in (cuts all from l) word) (drop_of_length-le ends b) ∙ omega arith)

-- at the place of a word stands the word
pub word_at : (ws : List (List ℕ)) (w : List ℕ) → place_in ws w < length ws → get_or ws (place_in ws w) [] ≡ w
unfolding place_in
word_at [] w h = absurd (omega arith)
word_at (x ∷ xs) w h = go (same_bytes x w) refl (word_at xs w) h
  where
    go : (t : Bool) → same_bytes x w ≡ t → (place_in xs w < length xs → get_or xs (place_in xs w) [] ≡ w) → cond t 0 (suc (place_in xs w)) < suc (length xs) → get_or (x ∷ xs) (cond t 0 (suc (place_in xs w))) [] ≡ w
    go true e f b = same_is x w e
    go false e f b = f (omega arith)
