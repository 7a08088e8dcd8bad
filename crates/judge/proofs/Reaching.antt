-- Where free tests lead a read, as each way of the code has found it.
-- Assumes nothing.
use mathlib.Core.Path.{◌≡◌, refl, sym, ap, subst, ◌∙◌}
use mathlib.Core.Bool.{Bool, true, false, cond}
use mathlib.Core.List.{List}
use Prim.Native.Nat.{ℕ, suc}
use lib.ListN.{get_or}
use borrow.Author.Tests.{eq-eqb, ne_eqb}
use Rattle.ops.specs.Meaning.{holds}
use Rattle.table.specs.declared.words.Term.{Term}
use Rattle.table.specs.Terms.{term_at}
use Rattle.table.specs.Faults.{is_store, is_choice}
use Rattle.table.proofs.Stacks.{Stacked, by_shape, at_end, at_store, at_choice}
use Rattle.judge.specs.Code.Labelled.{truth_in}
use Rattle.judge.specs.Code.Reach.{passed_by, reach_within, reach_at}

module _ (w front truths : List ℕ) (stacked : Stacked w) (j : ℕ) where
  abbrev over : ℕ → ℕ → ℕ
  over a below = cond (passed_by front truths (term_at w a) j) below a

  abbrev either : ℕ → ℕ → ℕ → ℕ
  either a q r = cond (truth_in truths (term_at w a).p) (cond (holds (get_or front (term_at w a).p 0)) q r) a

  abbrev end : ℕ → ℕ
  end a = a

  reach_law : (left a : ℕ) → reach_within (suc left) w front truths j a
      ≡ by_shape (term_at w a) (over a (reach_within left w front truths j (term_at w a).p)) (either a (reach_within left w front truths j (term_at w a).q) (reach_within left w front truths j (term_at w a).r)) (end a)
  unfolding reach_within
  reach_law left a = refl

  pub reach_store : (a : ℕ) → is_store (term_at w a) ≡ true → reach_at w front truths j a ≡ over a (reach_at w front truths j (term_at w a).p)
  reach_store a s = at_store w stacked (λ f k. reach_within f w front truths j k) over either end reach_law a s

  pub reach_choice : (a : ℕ) → is_choice (term_at w a) ≡ true → reach_at w front truths j a ≡ either a (reach_at w front truths j (term_at w a).q) (reach_at w front truths j (term_at w a).r)
  reach_choice a c = at_choice w stacked (λ f k. reach_within f w front truths j k) over either end reach_law a c

  pub reach_end : (a : ℕ) → is_store (term_at w a) ≡ false → is_choice (term_at w a) ≡ false → reach_at w front truths j a ≡ a
  reach_end a s c = at_end w stacked (λ f k. reach_within f w front truths j k) over either end reach_law a s c

  -- of a term at hand, x
  module _ (a : ℕ) (x : Term) (here : x ≡ term_at w a) where
    pub at_variable : is_store x ≡ false → is_choice x ≡ false → a ≡ reach_at w front truths j a
    at_variable = subst (λ (y : Term). is_store y ≡ false → is_choice y ≡ false → a ≡ reach_at w front truths j a) (sym here) (λ s c. sym (reach_end a s c))

    by_store : is_store x ≡ true → (b : Bool) → passed_by front truths x j ≡ b → cond b (reach_at w front truths j x.p) a ≡ reach_at w front truths j a
    by_store =
        subst (λ (y : Term). is_store y ≡ true → (b : Bool) → passed_by front truths y j ≡ b → cond b (reach_at w front truths j y.p) a ≡ reach_at w front truths j a) (sym here)
        (λ s b e. sym (reach_store a s ∙ ap (λ (z : Bool). cond z (reach_at w front truths j (term_at w a).p) a) e))

    pub past-store : is_store x ≡ true → passed_by front truths x j ≡ true → reach_at w front truths j x.p ≡ reach_at w front truths j a
    past-store s e = by_store s true e

    pub at_store-here : is_store x ≡ true → passed_by front truths x j ≡ false → a ≡ reach_at w front truths j a
    at_store-here s e = by_store s false e

    by_choice : is_choice x ≡ true → (b : Bool) → truth_in truths x.p ≡ b → (d : Bool) → holds (get_or front x.p 0) ≡ d
        → cond b (cond d (reach_at w front truths j x.q) (reach_at w front truths j x.r)) a ≡ reach_at w front truths j a
    by_choice =
        subst (λ (y : Term). is_choice y ≡ true → (b : Bool) → truth_in truths y.p ≡ b → (d : Bool) → holds (get_or front y.p 0) ≡ d
        → cond b (cond d (reach_at w front truths j y.q) (reach_at w front truths j y.r)) a ≡ reach_at w front truths j a) (sym here)
        (λ c b e d g. sym (reach_choice a c ∙ (λ i. cond (e i) (cond (g i) (reach_at w front truths j (term_at w a).q) (reach_at w front truths j (term_at w a).r)) a)))

    pub at_choice-here : is_choice x ≡ true → truth_in truths x.p ≡ false → a ≡ reach_at w front truths j a
    at_choice-here c e = by_choice c false e (holds (get_or front x.p 0)) refl

    pub into_first : is_choice x ≡ true → truth_in truths x.p ≡ true → get_or front x.p 0 ≡ 1 → reach_at w front truths j x.q ≡ reach_at w front truths j a
    into_first c e h = by_choice c true e true (eq-eqb (get_or front x.p 0) 1 h)

    pub into_second : is_choice x ≡ true → truth_in truths x.p ≡ true → (get_or front x.p 0 ≡ 1 → ⊥) → reach_at w front truths j x.r ≡ reach_at w front truths j a
    into_second c e h = by_choice c true e false (ne_eqb (get_or front x.p 0) 1 h)
