-- The terms that some sources name.
-- Assumes nothing.
use mathlib.Core.Path.{◌≡◌, refl, ap, subst, ◌∙◌}
use mathlib.Core.Bool.{Bool, true, false, ◌||◌}
use mathlib.Core.List.{List, [], ◌∷◌}
use mathlib.Core.Logic.{◌⊎◌, inl, inr, ⊎_elim}
use Prim.Native.Nat.{ℕ}
use lib.Dec.{eqb}
use borrow.Author.Tests.{eqb-true, eq-eqb}
use Rattle.ops.proofs.Booleans.{never, or_parts, or_open}
use Rattle.explain.specs.declared.answers.Source.{Source}
use Rattle.explain.specs.Sources.{term_of, names}

-- each of them is as P says
abbrev pub Each : (ℕ → Type 0) → List Source → Type 0
Each P l = (i : ℕ) → names l i ≡ true → P i

module _ (P : ℕ → Type 0) where
  pub each_none : Each P []
  unfolding names
  each_none i h = never h

  pub each-cons : (s : Source) (l : List Source) → P (term_of s) → Each P l → Each P (s ∷ l)
  unfolding names
  each-cons s l p ps i h = ⊎_elim (λ e. subst P (eqb-true (term_of s) i e) p) (ps i) (or_parts (eqb (term_of s) i) (names l i) h)

  pub each_head : (s : Source) (l : List Source) → Each P (s ∷ l) → P (term_of s)
  unfolding names
  each_head s l ps = ps (term_of s) (ap (λ (b : Bool). b || names l (term_of s)) (eq-eqb (term_of s) (term_of s) refl))

  pub each_tail : (s : Source) (l : List Source) → Each P (s ∷ l) → Each P l
  unfolding names
  each_tail s l ps i h = ps i (ap (λ (b : Bool). eqb (term_of s) i || b) h ∙ or_open (eqb (term_of s) i))

-- all pass a test, or one fails it
pub record Failing (test : ℕ → Bool) (l : List Source) : Type 0 where
  pub term : ℕ
  pub named : names l term ≡ true
  pub fails : test term ≡ false

pub every-or_one : (test : ℕ → Bool) (l : List Source) → Each (λ i. test i ≡ true) l ⊎ Failing test l
unfolding names
every-or_one test [] = inl (each_none (λ i. test i ≡ true))
every-or_one test (s ∷ l) = go (test (term_of s)) refl (every-or_one test l)
  where
    go : (b : Bool) → test (term_of s) ≡ b → Each (λ i. test i ≡ true) l ⊎ Failing test l → Each (λ i. test i ≡ true) (s ∷ l) ⊎ Failing test (s ∷ l)
    go true e (inl ps) = inl (each-cons (λ i. test i ≡ true) s l e ps)
    go true e (inr f) = inr (record { term = f.term; named = ap (λ (b : Bool). eqb (term_of s) f.term || b) f.named ∙ or_open (eqb (term_of s) f.term); fails = f.fails })
    go false e r = inr (record { term = term_of s; named = ap (λ (b : Bool). b || names l (term_of s)) (eq-eqb (term_of s) (term_of s) refl); fails = e })
