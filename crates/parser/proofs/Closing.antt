-- The parenthesis that closes, byte by byte.
-- Assumes nothing.
use Rattle.std.proofs.lemmas.List.{take_all}
use Rattle.std.proofs.Math.Nat.{min-eq_left, min-eq_right}
use mathlib.Core.Path.{◌≡◌, refl, sym, ap, ◌∙◌}
use mathlib.Core.Bool.{Bool, true, false, ◌&&◌}
use mathlib.Core.List.{List}
use Prim.Native.Nat.{ℕ, ◌+◌, ◌-◌, ◌<◌, ◌≤◌, min}
use native.Mathlib.Numerals.{add-one}
use native.Mathlib.Omega.{arith}
use lib.Dec.{eqb, leb}
use lib.ListN.{length, take, drop, get_or, drop_of_length-le, length-drop}
use lib.Seq.{drop-cons}
use borrow.Author.Tests.{eqb-false, leb-true, leb-false}
use Rattle.parser.specs.Names.{depth_after, closing}
use Rattle.parser.proofs.Choices.{by_test}

-- so far the search is the rest's; something is open, and at most as much as was read
pub record Closing (text : List ℕ) (at depth i : ℕ) : Type 0 where
  pub so_far : i + closing depth (drop i text) ≡ at + closing 1 (drop at text)
  pub some : 1 ≤ depth
  pub few : depth ≤ i + 1

pub begun : (text : List ℕ) (at : ℕ) → Closing text at 1 at
begun text at = record { so_far = refl; some = omega arith; few = omega arith }

module _ (text : List ℕ) (at depth i : ℕ) (h : Closing text at depth i) where
  pub closes : i < length text → eqb (get_or text i 0) 41 && eqb depth 1 ≡ true → i + 1 ≡ at + closing 1 (drop at text)
  unfolding closing
  closes b e = let l = rw e at (ap (closing depth) (drop-cons text i 0 b)) in omega (arith, l, h.so_far)

  -- what is open after a byte that does not close the last
  still : (b : ℕ) → eqb b 41 && eqb depth 1 ≡ false → (1 ≤ depth_after depth b) × (depth_after depth b ≤ i + 1 + 1)
  still b e =
      let s = h.some in
      let f = h.few in
      by_test (λ (d : ℕ). (1 ≤ d) × (d ≤ i + 1 + 1)) (eqb b 40) (λ o. (omega arith, omega arith))
      (λ o. by_test (λ (d : ℕ). (1 ≤ d) × (d ≤ i + 1 + 1)) (eqb b 41) (λ c. (left c, omega arith)) (λ c. (s, omega arith)))
    where
      left : eqb b 41 ≡ true → 1 ≤ depth - 1
      left c = let n = eqb-false depth 1 (rw c at e) in omega (arith, n, h.some)

  pub goes_on : i < length text → eqb (get_or text i 0) 41 && eqb depth 1 ≡ false → (d : ℕ) → d ≡ depth_after depth (get_or text i 0) → Closing text at d (i + 1)
  unfolding closing
  goes_on b e d f =
      let l = rw e at (ap (closing depth) (drop-cons text i 0 b)) in
      let s = still (get_or text i 0) e in
      rw f record { so_far = rw (add-one i) (omega (arith, l, h.so_far)); some = s.0; few = s.1 }

  pub never : length text ≤ i → i ≡ at + closing 1 (drop at text)
  unfolding closing
  never b = let l = ap (closing depth) (drop_of_length-le text b) in omega (arith, l, h.so_far)

-- the search of what follows a place, as the slice from there
rest_is : (text : List ℕ) (at m : ℕ) → m ≡ min at (length text) → take (length text - m) (drop m text) ≡ drop at text
rest_is text at m e = go (leb at (length text)) refl
  where
    go : (t : Bool) → leb at (length text) ≡ t → take (length text - m) (drop m text) ≡ drop at text
    go true h =
        let same : m ≡ at = e ∙ min-eq_left (leb-true at (length text) h) in
        rw same (take_all (length text - at) (drop at text) (omega (arith, length-drop at text)))
    go false h =
        let last : m ≡ length text = e ∙ min-eq_right (omega (arith, leb-false at (length text) h)) in
        let none : length text - m ≡ 0 = omega arith in
        rw none (sym (drop_of_length-le text (omega (arith, leb-false at (length text) h))))

pub from_rest : (text : List ℕ) (at m : ℕ) → m ≡ min at (length text) → {k : ℕ} → k ≡ 0 + closing 1 (drop 0 (take (length text - m) (drop m text))) → at + k ≡ at + closing 1 (drop at text)
from_rest text at m e f = let g = ap (closing 1) (rest_is text at m e) in omega (arith, f, g)
