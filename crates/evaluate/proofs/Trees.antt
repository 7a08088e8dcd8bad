-- A read along its array, as each way of the code has found it.
-- Assumes nothing.
use mathlib.Core.Path.{◌≡◌, refl, sym, ap, subst, ◌∙◌}
use mathlib.Core.Bool.{Bool, true, false, cond}
use mathlib.Core.List.{List}
use Prim.Native.Nat.{ℕ, suc, ◌<◌}
use lib.Dec.{eqb}
use lib.ListN.{get_or}
use borrow.Author.Tests.{eq-eqb, ne_eqb}
use Rattle.ops.specs.Meaning.{holds}
use Rattle.table.specs.declared.words.Term.{Term}
use Rattle.table.specs.Terms.{term_at}
use Rattle.table.specs.Faults.{is_store, is_choice}
use Rattle.table.proofs.Stacks.{Stacked, by_shape, at_end, at_store, at_choice}
use Rattle.evaluate.specs.declared.reads.Found.{Found}
use Rattle.evaluate.specs.Code.Reads.{holder_within, holder_at, found_in, found_at, read_at}

module _ (w : List ℕ) (stacked : Stacked w) (front : List ℕ) (j : ℕ) where
  abbrev over : ℕ → ℕ → ℕ
  over a below = cond (eqb (get_or front (term_at w a).q 0) j) a below

  abbrev either : ℕ → ℕ → ℕ → ℕ
  either a q r = cond (holds (get_or front (term_at w a).p 0)) q r

  abbrev end : ℕ → ℕ
  end a = a

  holder_law : (left a : ℕ) → holder_within (suc left) w front a j
      ≡ by_shape (term_at w a) (over a (holder_within left w front (term_at w a).p j)) (either a (holder_within left w front (term_at w a).q j) (holder_within left w front (term_at w a).r j)) (end a)
  unfolding holder_within
  holder_law left a = refl

  holder_store : (a : ℕ) → is_store (term_at w a) ≡ true → holder_at w front a j ≡ over a (holder_at w front (term_at w a).p j)
  holder_store a s = at_store w stacked (λ f k. holder_within f w front k j) over either end holder_law a s

  holder_choice : (a : ℕ) → is_choice (term_at w a) ≡ true → holder_at w front a j ≡ either a (holder_at w front (term_at w a).q j) (holder_at w front (term_at w a).r j)
  holder_choice a c = at_choice w stacked (λ f k. holder_within f w front k j) over either end holder_law a c

  holder_variable : (a : ℕ) → is_store (term_at w a) ≡ false → is_choice (term_at w a) ≡ false → holder_at w front a j ≡ a
  holder_variable a s c = at_end w stacked (λ f k. holder_within f w front k j) over either end holder_law a s c

  -- what is found there
  found-store : (a : ℕ) → is_store (term_at w a) ≡ true
      → found_at w front a j ≡ cond (eqb (get_or front (term_at w a).q 0) j) (record { stored = true; number = get_or front (term_at w a).r 0 }) (found_at w front (term_at w a).p j)
  found-store a s = ap (λ (k : ℕ). found_in front (term_at w k)) (holder_store a s) ∙ by (eqb (get_or front (term_at w a).q 0) j)
    where
      by : (b : Bool) → found_in front (term_at w (cond b a (holder_at w front (term_at w a).p j))) ≡ cond b (record { stored = true; number = get_or front (term_at w a).r 0 }) (found_at w front (term_at w a).p j)
      by true = ap (λ (b : Bool). record { stored = b; number = cond b (get_or front (term_at w a).r 0) (term_at w a).p }) s
      by false = refl

  found-choice : (a : ℕ) → is_choice (term_at w a) ≡ true → found_at w front a j ≡ cond (holds (get_or front (term_at w a).p 0)) (found_at w front (term_at w a).q j) (found_at w front (term_at w a).r j)
  found-choice a c = ap (λ (k : ℕ). found_in front (term_at w k)) (holder_choice a c) ∙ by (holds (get_or front (term_at w a).p 0))
    where
      by : (b : Bool) → found_in front (term_at w (cond b (holder_at w front (term_at w a).q j) (holder_at w front (term_at w a).r j))) ≡ cond b (found_at w front (term_at w a).q j) (found_at w front (term_at w a).r j)
      by true = refl
      by false = refl

  found_variable : (a : ℕ) → is_store (term_at w a) ≡ false → is_choice (term_at w a) ≡ false → found_at w front a j ≡ record { stored = false; number = (term_at w a).p }
  found_variable a s c =
      ap (λ (k : ℕ). found_in front (term_at w k)) (holder_variable a s c) ∙ ap (λ (b : Bool). record { stored = b; number = cond b (get_or front (term_at w a).r 0) (term_at w a).p }) s

  -- the value at j
  module _ (cell : ℕ → ℕ) where
    abbrev value_of : Found → ℕ
    value_of f = cond f.stored f.number (cell f.number)

    pub read_variable : (a : ℕ) → is_store (term_at w a) ≡ false → is_choice (term_at w a) ≡ false → read_at w front a j cell ≡ cell (term_at w a).p
    read_variable a s c = ap value_of (found_variable a s c)

    pub read-store : (a : ℕ) → is_store (term_at w a) ≡ true → read_at w front a j cell ≡ cond (eqb (get_or front (term_at w a).q 0) j) (get_or front (term_at w a).r 0) (read_at w front (term_at w a).p j cell)
    read-store a s = ap value_of (found-store a s) ∙ by (eqb (get_or front (term_at w a).q 0) j) (get_or front (term_at w a).r 0) (found_at w front (term_at w a).p j)
      where
        by : (b : Bool) (v : ℕ) (below : Found) → value_of (cond b (record { stored = true; number = v }) below) ≡ cond b v (value_of below)
        by true v below = refl
        by false v below = refl

    pub read-choice : (a : ℕ) → is_choice (term_at w a) ≡ true → read_at w front a j cell ≡ cond (holds (get_or front (term_at w a).p 0)) (read_at w front (term_at w a).q j cell) (read_at w front (term_at w a).r j cell)
    read-choice a c = ap value_of (found-choice a c) ∙ by (holds (get_or front (term_at w a).p 0)) (found_at w front (term_at w a).q j) (found_at w front (term_at w a).r j)
      where
        by : (b : Bool) (q r : Found) → value_of (cond b q r) ≡ cond b (value_of q) (value_of r)
        by true q r = refl
        by false q r = refl

  -- of a term at hand, x
  module _ (a : ℕ) (x : Term) (here : x ≡ term_at w a) where
    pub beneath : is_store x ≡ true → x.p < a
    beneath = subst (λ (y : Term). is_store y ≡ true → y.p < a) (sym here) (stacked.stored a)

    pub first_below : is_choice x ≡ true → x.q < a
    first_below = subst (λ (y : Term). is_choice y ≡ true → y.q < a) (sym here) (stacked.first a)

    pub second_below : is_choice x ≡ true → x.r < a
    second_below = subst (λ (y : Term). is_choice y ≡ true → y.r < a) (sym here) (stacked.second a)

    pub holder_end : is_store x ≡ false → is_choice x ≡ false → a ≡ holder_at w front a j
    holder_end = subst (λ (y : Term). is_store y ≡ false → is_choice y ≡ false → a ≡ holder_at w front a j) (sym here) (λ s c. sym (holder_variable a s c))

    by_index : is_store x ≡ true → (b : Bool) → eqb (get_or front x.q 0) j ≡ b → cond b a (holder_at w front x.p j) ≡ holder_at w front a j
    by_index =
        subst (λ (y : Term). is_store y ≡ true → (b : Bool) → eqb (get_or front y.q 0) j ≡ b → cond b a (holder_at w front y.p j) ≡ holder_at w front a j) (sym here)
        (λ s b e. sym (holder_store a s ∙ ap (λ (z : Bool). cond z a (holder_at w front (term_at w a).p j)) e))

    pub holder_hit : is_store x ≡ true → get_or front x.q 0 ≡ j → a ≡ holder_at w front a j
    holder_hit s h = by_index s true (eq-eqb (get_or front x.q 0) j h)

    pub holder_miss : is_store x ≡ true → (get_or front x.q 0 ≡ j → ⊥) → holder_at w front x.p j ≡ holder_at w front a j
    holder_miss s h = by_index s false (ne_eqb (get_or front x.q 0) j h)

    -- of a choice the branch that is picked
    pub picked-below : is_choice x ≡ true → (b : Bool) → cond b x.q x.r < a
    picked-below c true = first_below c
    picked-below c false = second_below c

    pub holder_picked : is_choice x ≡ true → holder_at w front (cond (holds (get_or front x.p 0)) x.q x.r) j ≡ holder_at w front a j
    holder_picked =
        subst (λ (y : Term). is_choice y ≡ true → holder_at w front (cond (holds (get_or front y.p 0)) y.q y.r) j ≡ holder_at w front a j) (sym here)
        (λ c. by (holds (get_or front (term_at w a).p 0)) ∙ sym (holder_choice a c))
      where
        by : (b : Bool) → holder_at w front (cond b (term_at w a).q (term_at w a).r) j ≡ cond b (holder_at w front (term_at w a).q j) (holder_at w front (term_at w a).r j)
        by true = refl
        by false = refl
