-- The names of declarations, one after the other.
-- Assumes nothing.
use Rattle.std.proofs.Math.Nat.{min-eq_left, min-eq_right, min-le_right}
use mathlib.Core.Path.{◌≡◌, refl, sym, ap, ◌∙◌}
use mathlib.Core.Bool.{Bool, true, false, cond}
use mathlib.Core.List.{List, []}
use Prim.Native.Nat.{ℕ, zero, suc, ◌+◌, ◌-◌, ◌<◌, ◌≤◌, min}
use native.Mathlib.Numerals.{sub-one}
use native.Mathlib.Omega.{arith}
use lib.Dec.{ltb}
use lib.ListN.{length, take, drop_of_length-le}
use lib.Seq.{take-nil}
use borrow.Author.Tests.{ltb-true, ltb-false}
use Rattle.smtlib.specs.Bytes.{part, same_bytes}
use Rattle.parser.specs.Words.{inside, past}
use Rattle.parser.specs.Names.{name_from, name_to, declaration_end, index_from, index_of}

module _ (text w : List ℕ) where
  -- past the text's end there are no bytes, whatever the place
  nothing : (a b : ℕ) → length text ≤ a → part text a b ≡ []
  nothing a b h = ap (take (b - a)) (drop_of_length-le text h) ∙ take-nil (b - a)

  past_end : (left at : ℕ) → length text ≤ at → index_from left text at w ≡ index_from left text (length text) w
  unfolding index_from
  past_end zero at h = refl
  past_end (suc left) at h =
      let n = length text in
      rw (nothing (name_from text at) (name_to text at) (omega arith), nothing (name_from text n) (name_to text n) (omega arith), past_end left (declaration_end text at) (omega arith), past_end left (declaration_end text n) (omega arith))

  -- so a place may be brought into the text
  brought : (left e at : ℕ) → at ≡ min e (length text) → index_from left text e w ≡ index_from left text at w
  brought left e at is = go (ltb e (length text)) refl
    where
      go : (t : Bool) → ltb e (length text) ≡ t → index_from left text e w ≡ index_from left text at w
      go true f = ap (λ (a : ℕ). index_from left text a w) (sym (is ∙ min-eq_left (omega (arith, ltb-true e (length text) f))))
      go false f = past_end left e (ltb-false e (length text) f) ∙ ap (λ (a : ℕ). index_from left text a w) (sym (is ∙ min-eq_right (ltb-false e (length text) f)))

  within : (e at : ℕ) → at ≡ min e (length text) → at ≤ length text
  within e at is = rw is (min-le_right e (length text))

  next : (left at : ℕ) → 0 < left → index_from left text at w ≡ cond (same_bytes (part text (name_from text at) (name_to text at)) w) 0 (suc (index_from (left - 1) text (declaration_end text at) w))
  unfolding index_from
  next zero at h = absurd (omega arith)
  next (suc left) at h = rw (sub-one (suc left))

-- so far the search is the rest's
pub record Searching (text : List ℕ) (names : ℕ) (w : List ℕ) (at i : ℕ) : Type 0 where
  pub so_far : i + index_from (names - i) text at w ≡ index_of text names w
  pub inside : at ≤ length text

pub begun : (text : List ℕ) (names : ℕ) (w : List ℕ) → Searching text names w 0 0
begun text names w = let e : names - 0 ≡ names = omega arith in record { so_far = rw e (omega arith); inside = omega arith }

module _ (text : List ℕ) (names : ℕ) (w : List ℕ) (at i : ℕ) (h : Searching text names w at i) where
  module _ (start end : ℕ) (first : start ≡ name_from text at) (last : end ≡ past inside text start) where
    pub found : i < names → same_bytes (part text start end) w ≡ true → i ≡ index_of text names w
    found b e =
        let s : same_bytes (part text (name_from text at) (name_to text at)) w ≡ true = rw (last, first) at e in
        let n = rw s at (next text w (names - i) at (omega arith)) in
        omega (arith, n, h.so_far)

    pub passed : i < names → same_bytes (part text start end) w ≡ false
        → (e : ℕ) → e ≡ declaration_end text at → (to : ℕ) → to ≡ min e (length text) → Searching text names w to (i + 1)
    passed b n e is to brings =
        let f : same_bytes (part text (name_from text at) (name_to text at)) w ≡ false = rw (last, first) at n in
        let k : names - i - 1 ≡ names - (i + 1) = omega arith in
        let g = rw (f, k) at (next text w (names - i) at (omega arith)) in
        let m = brought text w (names - (i + 1)) (declaration_end text at) to (rw is at brings) in
        record { so_far = omega (arith, g, m, h.so_far); inside = within text w e to brings }

  pub none : names ≤ i → i ≤ names → names ≡ index_of text names w
  unfolding index_from
  none b c = let z : names - i ≡ 0 = omega arith in let r = rw z at h.so_far in omega (arith, r, b, c)
