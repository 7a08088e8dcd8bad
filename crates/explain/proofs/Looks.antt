-- What a term blames is marked, one source after the other.
-- Assumes nothing.
use mathlib.Core.Path.{◌≡◌, refl, sym, ap, ◌∙◌}
use mathlib.Core.Bool.{Bool, true, false, cond, not}
use mathlib.Core.List.{List, [], ◌∷◌}
use Prim.Native.Nat.{ℕ, zero, suc, ◌+◌, ◌≤◌, ◌<◌}
use native.Mathlib.Numerals.{add-one}
use native.Mathlib.Omega.{arith}
use lib.Dec.{eqb}
use lib.ListN.{length, get_or, drop}
use lib.Seq.{drop-cons}
use Rattle.std.proofs.Common.{None, Some, slice_get}
use Rattle.std.proofs.lemmas.Option.{slice_get_within, get_or_from_slice_get}
use Rattle.table.specs.declared.words.Term.{Term}
use Rattle.table.specs.Terms.{term_at}
use Rattle.table.specs.Faults.{rank}
use Rattle.judge.specs.Code.Labelled.{truth_in}
use Rattle.explain.specs.declared.answers.Shape.{Shape}
use Rattle.explain.specs.declared.answers.Shape.TheVariants.{Leaf, Unary, Binary, Branches, Cell}
use Rattle.explain.specs.declared.answers.Source.{Source}
use Rattle.explain.specs.declared.answers.Source.TheVariants.{Array}
use Rattle.explain.specs.Sources.{term_of, stacked, branched, goes, next, index, stored, test, here, passing, along_within, shape_of, support_by, support}
use Rattle.explain.specs.Ways.{marked, on_way, blamed, looked_at}
use Rattle.explain.proofs.Rows.{length_marked}

-- There are not more sources than so many

module _ (w values : List ℕ) (j : ℕ) where
  short-here : (a : ℕ) → length (here w values a j) ≤ 2
  short-here a = go (stacked (term_at w a) a) (eqb (get_or values (term_at w a).q 0) j) (branched (term_at w a) a)
    where
      go : (s h b : Bool) → let x = term_at w a in length (cond s (index x a ∷ cond h (stored x a ∷ []) []) (cond b (test x a ∷ []) (Array a ∷ []))) ≤ 2
      go true true b = omega arith
      go true false b = omega arith
      go false h true = omega arith
      go false h false = omega arith

  short-along : (left a : ℕ) → length (along_within left w values a j) ≤ left + 2
  unfolding along_within
  short-along zero a = short-here a
  short-along (suc left) a = go (goes w values a j) (short-along left (next w values a))
    where
      go : (z : Bool) → length (along_within left w values (next w values a) j) ≤ left + 2
          → length (cond z (passing (term_at w a) a ∷ along_within left w values (next w values a) j) (here w values a j)) ≤ suc left + 2
      go true h = omega arith
      go false h = let b = short-here a in omega arith

short-support : (w values : List ℕ) (x : Term) → length (support w values x) ≤ x.p + 4
unfolding support
short-support w values x = go (shape_of (rank x))
  where
    go : (h : Shape) → length (support_by w values x h) ≤ x.p + 4
    go Leaf = omega arith
    go Unary = omega arith
    go Binary = omega arith
    go Branches = omega arith
    go Cell = let b = short-along w values (get_or values x.q 0) (suc x.p) x.p in omega arith

-- past the last there is none
none_left : (l : List Source) (i : ℕ) → None ≡ slice_get l i → drop i l ≡ []
none_left [] zero e = refl
none_left [] (suc i) e = refl
none_left (s ∷ l) zero e = cc
none_left (s ∷ l) (suc i) e = none_left l i e

-- The loop: what is left of term x's sources from number i on makes the whole

pub record Looking (w values truths : List ℕ) (x : Term) (before marks : List ℕ) (i : ℕ) : Type 0 where
  pub left : blamed truths (drop i (support w values x)) marks ≡ blamed truths (support w values x) before
  pub same : length marks ≡ length before

module _ (w values truths : List ℕ) (x : Term) (before : List ℕ) where
  pub looking : Looking w values truths x before before 0
  looking = record { left = refl; same = refl }

  module _ (marks : List ℕ) (i : ℕ) (now : Looking w values truths x before marks i) where
    module _ (s : Source) (is : Some s ≡ slice_get (support w values x) i) where
      pub inside : i < length (support w values x)
      inside = slice_get_within (support w values x) i s (sym is)

      pub few : i < x.p + 4
      few = let b = inside in let c = short-support w values x in omega arith

      pub turned : (marks' : List ℕ) → marks' ≡ marked (not (truth_in truths (term_of s))) (term_of s) marks → Looking w values truths x before marks' (i + 1)
      unfolding blamed
      turned marks' e =
          let l = support w values x in
          record {
            left =
                ap (λ (k : ℕ). blamed truths (drop k l) marks') (add-one i)
                ∙ ap (blamed truths (drop (suc i) l)) e
                ∙ ap (λ (y : Source). blamed truths (y ∷ drop (suc i) l) marks) (sym (get_or_from_slice_get l i s s (sym is)))
                ∙ sym (ap (λ (y : List Source). blamed truths y marks) (drop-cons l i s inside))
                ∙ now.left;
            same = ap length e ∙ length_marked (not (truth_in truths (term_of s))) (term_of s) marks ∙ now.same;
          }

    pub through : None ≡ slice_get (support w values x) i → marks ≡ blamed truths (support w values x) before
    unfolding blamed
    through e = ap (λ (y : List Source). blamed truths y marks) (sym (none_left (support w values x) i e)) ∙ now.left

-- Where the term is not on the way, and where it is

pub unlooked : (w values truths : List ℕ) (k : ℕ) (marks : List ℕ) → on_way marks k ≡ false → marks ≡ looked_at w values truths k marks
unfolding looked_at
unlooked w values truths k marks e = sym (ap (λ (b : Bool). cond b (blamed truths (support w values (term_at w k)) marks) marks) e)

pub looked : (w values truths : List ℕ) (k : ℕ) (marks : List ℕ) (x : Term) → x ≡ term_at w k → on_way marks k ≡ true → blamed truths (support w values x) marks ≡ looked_at w values truths k marks
unfolding looked_at
looked w values truths k marks x is e =
    ap (λ (y : Term). blamed truths (support w values y) marks) is
    ∙ sym (ap (λ (b : Bool). cond b (blamed truths (support w values (term_at w k)) marks) marks) e)

-- The row keeps its length

length-blamed : (truths : List ℕ) (l : List Source) (marks : List ℕ) → length (blamed truths l marks) ≡ length marks
unfolding blamed
length-blamed truths [] marks = refl
length-blamed truths (s ∷ l) marks =
    length-blamed truths l (marked (not (truth_in truths (term_of s))) (term_of s) marks) ∙ length_marked (not (truth_in truths (term_of s))) (term_of s) marks

pub length_looked : (w values truths : List ℕ) (k : ℕ) (marks : List ℕ) → length (looked_at w values truths k marks) ≡ length marks
unfolding looked_at
length_looked w values truths k marks = go (on_way marks k)
  where
    go : (b : Bool) → length (cond b (blamed truths (support w values (term_at w k)) marks) marks) ≡ length marks
    go true = length-blamed truths (support w values (term_at w k)) marks
    go false = refl
