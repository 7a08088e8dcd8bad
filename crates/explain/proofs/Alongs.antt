-- What a read comes from along its array, and one of it, as each way of the code has found it.
-- Assumes nothing.
use mathlib.Core.Path.{◌≡◌, refl, sym, ap, ◌∙◌}
use mathlib.Core.Bool.{Bool, true, false, cond, not, ◌&&◌, ◌||◌}
use mathlib.Core.Logic.{⊎_elim}
use mathlib.Core.List.{List, [], ◌∷◌}
use Prim.Native.Nat.{ℕ, zero, suc, ◌-◌, ◌≤◌, ◌<◌}
use native.Mathlib.Omega.{arith}
use lib.Dec.{eqb, ltb}
use lib.ListN.{get_or}
use borrow.Author.Tests.{ltb-true}
use Rattle.std.proofs.Common.{Some, slice_get}
use Rattle.ops.specs.Meaning.{holds}
use Rattle.ops.proofs.Booleans.{never, and_parts, or_parts, or_open}
use Rattle.table.specs.declared.words.Term.{Term}
use Rattle.table.specs.Terms.{term_at}
use Rattle.table.specs.Faults.{is_store, is_choice}
use Rattle.table.proofs.Stacks.{choice_no-store}
use Rattle.explain.specs.declared.answers.Source.{Source}
use Rattle.explain.specs.declared.answers.Source.TheVariants.{Array}
use Rattle.explain.specs.Sources.{stacked, branched, past, picked, goes, next, index, stored, test, here, passing, along_within, along}
use Rattle.explain.proofs.Walks.{walk_stopped, walk_on}

-- Number i of a list, from 1 on
pub nth_rest : {A : Type 0} (x : A) (l : List A) (i : ℕ) → 0 < i → slice_get l (i - 1) ≡ slice_get (x ∷ l) i
nth_rest x l zero b = absurd (omega arith)
nth_rest x l (suc i) b = let same : suc i - 1 ≡ i = omega arith in ap (slice_get l) same

-- Of the branch that is picked holds what holds of both, and what is made of both is made of it
pub of-picked : (P : ℕ → Type 0) (z : Bool) {q r : ℕ} → P q → P r → P (cond z q r)
of-picked P true hq hr = hq
of-picked P false hq hr = hr

pub picked_as : {A : Type 0} (f : ℕ → A) (z : Bool) (q r : ℕ) → cond z (f q) (f r) ≡ f (cond z q r)
picked_as f true q r = refl
picked_as f false q r = refl

-- A store stands on an earlier term; a choice between arrays is no store, and stands on two
pub stacked_parts : (x : Term) (a : ℕ) → stacked x a ≡ true → (is_store x ≡ true) × (x.p < a)
stacked_parts x a e = let parts = and_parts (is_store x) (ltb x.p a) e in (parts.0, ltb-true x.p a parts.1)

pub branched_parts : (x : Term) (a : ℕ) → branched x a ≡ true → (is_store x ≡ false) × (x.q < a) × (x.r < a)
branched_parts x a e =
    let parts = and_parts (is_choice x && ltb x.q a) (ltb x.r a) e in
    let more = and_parts (is_choice x) (ltb x.q a) parts.0 in
    (choice_no-store x more.0, ltb-true x.q a more.1, ltb-true x.r a parts.1)

pub store_unbranched : (x : Term) (a : ℕ) → is_store x ≡ true → branched x a ≡ false
store_unbranched x a e = go (is_choice x) refl
  where
    go : (c : Bool) → is_choice x ≡ c → (c && ltb x.q a && ltb x.r a) ≡ false
    go true h = never (sym (choice_no-store x h) ∙ e)
    go false h = refl

-- Along the array
module _ (w values : List ℕ) (j : ℕ) where
  -- where to, at a store and at a choice
  pub next-store : (a : ℕ) → is_store (term_at w a) ≡ true → next w values a ≡ (term_at w a).p
  next-store a e = rw e

  pub next-choice : (a : ℕ) → is_store (term_at w a) ≡ false → next w values a ≡ picked values (term_at w a)
  next-choice a e = rw e

  -- an earlier term
  pub store_earlier : (a : ℕ) → stacked (term_at w a) a ≡ true → next w values a < a
  store_earlier a e = let s = stacked_parts (term_at w a) a e in let n = next-store a s.0 in let b = s.1 in omega arith

  pub choice_earlier : (a : ℕ) → branched (term_at w a) a ≡ true → next w values a < a
  choice_earlier a e =
      let s = branched_parts (term_at w a) a e in
      let n = next-choice a s.0 in
      let b = of-picked (λ i. i < a) (holds (get_or values (term_at w a).p 0)) s.1 s.2 in
      omega arith

  past-stacked : (a : ℕ) → past w values a j ≡ true → stacked (term_at w a) a ≡ true
  past-stacked a e = (and_parts (stacked (term_at w a) a) (not (eqb (get_or values (term_at w a).q 0) j)) e).0

  goes-below : (a : ℕ) → goes w values a j ≡ true → next w values a < a
  goes-below a e = ⊎_elim (λ p. store_earlier a (past-stacked a p)) (choice_earlier a) (or_parts (past w values a j) (branched (term_at w a) a) e)

  within : (left a : ℕ) → along_within (suc left) w values a j ≡ cond (goes w values a j) (passing (term_at w a) a ∷ along_within left w values (next w values a) j) (here w values a j)
  unfolding along_within
  within left a = refl

  along_stopped : (a : ℕ) → goes w values a j ≡ false → here w values a j ≡ along w values a j
  along_stopped =
      walk_stopped (λ a. goes w values a j) (next w values) goes-below (λ left a. along_within left w values a j) (λ a l. passing (term_at w a) a ∷ l) (λ a. here w values a j) within

  along_on : (a : ℕ) → goes w values a j ≡ true → passing (term_at w a) a ∷ along w values (next w values a) j ≡ along w values a j
  along_on = walk_on (λ a. goes w values a j) (next w values) goes-below (λ left a. along_within left w values a j) (λ a l. passing (term_at w a) a ∷ l) (λ a. here w values a j) within

  -- at a variable; at a store, whose index is the read's or another; at a choice
  module _ (a : ℕ) where
    abbrev x : Term
    x = term_at w a

    pub along_end : is_store x ≡ false → is_choice x ≡ false → along w values a j ≡ Array a ∷ []
    along_end e g = sym (along_stopped a (rw (e, g))) ∙ rw (e, g)

    pub along_hit : stacked x a ≡ true → eqb (get_or values x.q 0) j ≡ true → along w values a j ≡ index x a ∷ stored x a ∷ []
    along_hit e h = sym (along_stopped a (rw (e, h, store_unbranched x a (stacked_parts x a e).0))) ∙ rw (e, h)

    pub along_miss : stacked x a ≡ true → eqb (get_or values x.q 0) j ≡ false → along w values a j ≡ index x a ∷ along w values x.p j
    along_miss e h =
        let s = (stacked_parts x a e).0 in
        sym (along_on a (rw (e, h))) ∙ rw s

    pub along-branch : branched x a ≡ true → along w values a j ≡ test x a ∷ along w values (picked values x) j
    along-branch e =
        let s = (branched_parts x a e).0 in
        sym (along_on a (ap (λ (b : Bool). past w values a j || b) e ∙ or_open (past w values a j))) ∙ rw s

  -- number left of it, as the walk goes on and where it stops
  pub onward : (a left : ℕ) → 0 < left → goes w values a j ≡ true → slice_get (along w values (next w values a) j) (left - 1) ≡ slice_get (along w values a j) left
  onward a left some e = nth_rest (passing (term_at w a) a) (along w values (next w values a) j) left some ∙ ap (λ (l : List Source). slice_get l left) (along_on a e)

  pub stopped : (a left : ℕ) → goes w values a j ≡ false → slice_get (here w values a j) left ≡ slice_get (along w values a j) left
  stopped a left e = ap (λ (l : List Source). slice_get l left) (along_stopped a e)

  pub first_along : (a left : ℕ) → left ≤ 0 → slice_get (here w values a j) left ≡ slice_get (along w values a j) left
  first_along a (suc left) b = absurd (omega arith)
  first_along a zero b = go (goes w values a j) refl
    where
      -- where it goes on, what it comes from here begins with that which it passes
      first : goes w values a j ≡ true → slice_get (here w values a j) 0 ≡ Some (passing (term_at w a) a)
      first e =
          ⊎_elim
          (λ p. let s = past-stacked a p in rw (s, (stacked_parts (term_at w a) a s).0))
          (λ b. rw ((branched_parts (term_at w a) a b).0, b))
          (or_parts (past w values a j) (branched (term_at w a) a) e)

      go : (p : Bool) → goes w values a j ≡ p → slice_get (here w values a j) 0 ≡ slice_get (along w values a j) 0
      go false e = stopped a 0 e
      go true e = first e ∙ ap (λ (l : List Source). slice_get l 0) (along_on a e)
