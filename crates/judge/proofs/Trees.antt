-- A read along its array, value and truth, as each way of the code has found it.
-- Assumes nothing.
use mathlib.Core.Path.{◌≡◌, refl, sym, ap, ap₂, subst, ◌∙◌}
use mathlib.Core.Bool.{Bool, true, false, not, cond, ◌&&◌}
use mathlib.Core.List.{List}
use Prim.Native.Nat.{ℕ, suc, ◌+◌, ◌≤◌}
use native.Mathlib.Decide.{ℕ_discrete}
use native.Mathlib.Omega.{arith}
use lib.Dec.{eqb}
use lib.ListN.{length, get_or}
use borrow.Author.Tests.{eq-eqb, ne_eqb}
use Rattle.ops.specs.Meaning.{holds}
use Rattle.ops.specs.Condition.{chosen}
use Rattle.ops.proofs.Booleans.{and_parts}
use Rattle.table.specs.declared.words.Term.{Term}
use Rattle.table.specs.Terms.{term_at}
use Rattle.table.specs.Faults.{is_store, is_choice}
use Rattle.table.proofs.Stacks.{Stacked, by_shape, at_end, at_store, at_choice}
use Rattle.judge.specs.declared.reads.Labelled.{Labelled}
use Rattle.judge.specs.Code.Leaves.{leaves_at}
use Rattle.judge.specs.Code.Labelled.{truth_in, overlaid, picked_by, stored_by, either_of, labelled_within, labelled_at}
use Rattle.judge.specs.Code.Reach.{passed_by}
use Rattle.judge.proofs.LeafLaws.{leaves_store, leaves_both}

-- below a store that is picked nothing counts, and of a choice whose test is free the branch that it picks counts alone

chosen-first : (d e same : Bool) → chosen true true d e same ≡ d
chosen-first true true true = refl
chosen-first true true false = refl
chosen-first true false same = refl
chosen-first false e same = refl

chosen-second : (d e same : Bool) → chosen true false d e same ≡ e
chosen-second true true same = refl
chosen-second true false same = refl
chosen-second false true same = refl
chosen-second false false same = refl

overlaid-picked : (front truths : List ℕ) (x : Term) (j : ℕ) (cj : Bool) (below : Labelled) → picked_by front truths x j cj ≡ true → stored_by front truths x ≡ overlaid front truths x j cj below
overlaid-picked front truths x j cj below h =
    let parts = and_parts (truth_in truths x.q && cj) (eqb (get_or front x.q 0) j) h in
    let vs : get_or front x.r 0 ≡ cond (eqb (get_or front x.q 0) j) (get_or front x.r 0) below.value = sym (ap (λ (b : Bool). cond b (get_or front x.r 0) below.value) parts.1) in
    let fs : truth_in truths x.r ≡ chosen (truth_in truths x.q && cj) (eqb (get_or front x.q 0) j) (truth_in truths x.r) below.free (eqb (get_or front x.r 0) below.value) =
    sym (ap₂ (λ (a b : Bool). chosen a b (truth_in truths x.r) below.free (eqb (get_or front x.r 0) below.value)) parts.0 parts.1 ∙ chosen-first (truth_in truths x.r) below.free (eqb (get_or front x.r 0) below.value)) in
    λ i. record { value = vs i; free = fs i }

-- a free test passes over a store
pub overlaid-passed : (front truths : List ℕ) (x : Term) (j : ℕ) (below : Labelled) → passed_by front truths x j ≡ true → below ≡ overlaid front truths x j true below
overlaid-passed front truths x j below h =
    let parts = and_parts (truth_in truths x.q) (not (eqb (get_or front x.q 0) j)) h in
    let other : eqb (get_or front x.q 0) j ≡ false = flipped (eqb (get_or front x.q 0) j) parts.1 in
    let vs : below.value ≡ cond (eqb (get_or front x.q 0) j) (get_or front x.r 0) below.value = sym (ap (λ (b : Bool). cond b (get_or front x.r 0) below.value) other) in
    let fs : below.free ≡ chosen (truth_in truths x.q && true) (eqb (get_or front x.q 0) j) (truth_in truths x.r) below.free (eqb (get_or front x.r 0) below.value) =
    sym (ap₂ (λ (a b : Bool). chosen (a && true) b (truth_in truths x.r) below.free (eqb (get_or front x.r 0) below.value)) parts.0 other ∙ chosen-second (truth_in truths x.r) below.free (eqb (get_or front x.r 0) below.value)) in
    λ i. record { value = vs i; free = fs i }
  where
    flipped : (b : Bool) → not b ≡ true → b ≡ false
    flipped true e = sym e
    flipped false e = refl

module _ (front truths : List ℕ) (x : Term) (q r : Labelled) (open-test : truth_in truths x.p ≡ true) where
  either_by : (b : Bool) → holds (get_or front x.p 0) ≡ b → record { value = cond b q.value r.value; free = chosen true b q.free r.free (eqb q.value r.value) } ≡ either_of front truths x q r
  either_by b e =
      sym (ap₂ (λ (c d : Bool). record { value = cond d q.value r.value; free = chosen c d q.free r.free (eqb q.value r.value) }) open-test e)

  pub either_first : get_or front x.p 0 ≡ 1 → q ≡ either_of front truths x q r
  either_first h = ap (λ (f : Bool). record { value = q.value; free = f }) (sym (chosen-first q.free r.free (eqb q.value r.value))) ∙ either_by true (eq-eqb (get_or front x.p 0) 1 h)

  pub either_second : (get_or front x.p 0 ≡ 1 → ⊥) → r ≡ either_of front truths x q r
  either_second h = ap (λ (f : Bool). record { value = r.value; free = f }) (sym (chosen-second q.free r.free (eqb q.value r.value))) ∙ either_by false (ne_eqb (get_or front x.p 0) 1 h)

module _ (w front truths cells : List ℕ) (stacked : Stacked w) (j : ℕ) (cj : Bool) where
  abbrev read : ℕ → ℕ → Labelled
  read a first = labelled_at w front truths cells j cj a first

  abbrev over : ℕ → (ℕ → Labelled) → ℕ → Labelled
  over a below first = overlaid front truths (term_at w a) j cj (below first)

  abbrev fork : ℕ → (ℕ → Labelled) → (ℕ → Labelled) → ℕ → Labelled
  fork a q r first = either_of front truths (term_at w a) (q first) (r (first + length (leaves_at w (term_at w a).q)))

  abbrev last : ℕ → ℕ → Labelled
  last a first = record { value = get_or cells first 0; free = truth_in truths a && cj }

  by_first : {A : Type 0} (s c : Bool) (x y z : ℕ → A) (first : ℕ) → cond s (x first) (cond c (y first) (z first)) ≡ cond s x (cond c y z) first
  by_first true c x y z first = refl
  by_first false true x y z first = refl
  by_first false false x y z first = refl

  labelled_law : (left a : ℕ) → (λ (first : ℕ). labelled_within (suc left) w front truths cells j cj a first)
      ≡ by_shape (term_at w a) (over a (λ first. labelled_within left w front truths cells j cj (term_at w a).p first))
      (fork a (λ first. labelled_within left w front truths cells j cj (term_at w a).q first) (λ first. labelled_within left w front truths cells j cj (term_at w a).r first)) (last a)
  unfolding labelled_within
  labelled_law left a =
      λ i first. by_first (is_store (term_at w a)) (is_choice (term_at w a)) (over a (λ first. labelled_within left w front truths cells j cj (term_at w a).p first))
      (fork a (λ first. labelled_within left w front truths cells j cj (term_at w a).q first) (λ first. labelled_within left w front truths cells j cj (term_at w a).r first)) (last a) first i

  -- a variable; a store over what is beneath it; a choice between its branches
  pub labelled_variable : (a : ℕ) → is_store (term_at w a) ≡ false → is_choice (term_at w a) ≡ false → (first : ℕ) → read a first ≡ last a first
  labelled_variable a s c first = ap (λ (f : ℕ → Labelled). f first) (at_end w stacked (λ f k first. labelled_within f w front truths cells j cj k first) over fork last labelled_law a s c)

  pub labelled_store : (a : ℕ) → is_store (term_at w a) ≡ true → (first : ℕ) → read a first ≡ overlaid front truths (term_at w a) j cj (read (term_at w a).p first)
  labelled_store a s first = ap (λ (f : ℕ → Labelled). f first) (at_store w stacked (λ f k first. labelled_within f w front truths cells j cj k first) over fork last labelled_law a s)

  pub labelled_choice : (a : ℕ) → is_choice (term_at w a) ≡ true → (first : ℕ)
      → read a first ≡ either_of front truths (term_at w a) (read (term_at w a).q first) (read (term_at w a).r (first + length (leaves_at w (term_at w a).q)))
  labelled_choice a c first = ap (λ (f : ℕ → Labelled). f first) (at_choice w stacked (λ f k first. labelled_within f w front truths cells j cj k first) over fork last labelled_law a c)

  -- of a term at hand, x
  module _ (a : ℕ) (x : Term) (here : x ≡ term_at w a) (first : ℕ) where
    pub read_end : is_store x ≡ false → is_choice x ≡ false → last a first ≡ read a first
    read_end = subst (λ (y : Term). is_store y ≡ false → is_choice y ≡ false → last a first ≡ read a first) (sym here) (λ s c. sym (labelled_variable a s c first))

    pub read_over : is_store x ≡ true → overlaid front truths x j cj (read x.p first) ≡ read a first
    read_over = subst (λ (y : Term). is_store y ≡ true → overlaid front truths y j cj (read y.p first) ≡ read a first) (sym here) (λ s. sym (labelled_store a s first))

    pub read-picked : is_store x ≡ true → picked_by front truths x j cj ≡ true → stored_by front truths x ≡ read a first
    read-picked s h = overlaid-picked front truths x j cj (read x.p first) h ∙ read_over s

    pub read-either : is_choice x ≡ true → either_of front truths x (read x.q first) (read x.r (first + length (leaves_at w x.q))) ≡ read a first
    read-either =
        subst (λ (y : Term). is_choice y ≡ true → either_of front truths y (read y.q first) (read y.r (first + length (leaves_at w y.q))) ≡ read a first) (sym here)
        (λ c. sym (labelled_choice a c first))

    -- where its test is free, that of the branch that is picked
    abbrev pub taken : Bool → ℕ
    taken b = cond b x.q x.r

    abbrev pub from : Bool → ℕ
    from b = cond b first (first + length (leaves_at w x.q))

    pub read_taken : is_choice x ≡ true → truth_in truths x.p ≡ true → read (taken (holds (get_or front x.p 0))) (from (holds (get_or front x.p 0))) ≡ read a first
    read_taken c o = by (ℕ_discrete (get_or front x.p 0) 1) ∙ read-either c
      where
        either-taken : Labelled
        either-taken = either_of front truths x (read x.q first) (read x.r (first + length (leaves_at w x.q)))

        by : Dec (get_or front x.p 0 ≡ 1) → read (taken (holds (get_or front x.p 0))) (from (holds (get_or front x.p 0))) ≡ either-taken
        by (yes h) = ap (λ (b : Bool). read (taken b) (from b)) (eq-eqb (get_or front x.p 0) 1 h) ∙ either_first front truths x (read x.q first) (read x.r (first + length (leaves_at w x.q))) o h
        by (no h) = ap (λ (b : Bool). read (taken b) (from b)) (ne_eqb (get_or front x.p 0) 1 h) ∙ either_second front truths x (read x.q first) (read x.r (first + length (leaves_at w x.q))) o h

    -- the cells of its parts are among its own
    pub store-within : is_store x ≡ true → first + length (leaves_at w a) ≤ 17 → first + length (leaves_at w x.p) ≤ 17
    store-within =
        subst (λ (y : Term). is_store y ≡ true → first + length (leaves_at w a) ≤ 17 → first + length (leaves_at w y.p) ≤ 17) (sym here)
        (λ s b. omega (arith, b, ap length (leaves_store w stacked a s)))

    both_within : is_choice x ≡ true → length (leaves_at w a) ≡ length (leaves_at w x.q) + length (leaves_at w x.r)
    both_within = subst (λ (y : Term). is_choice y ≡ true → length (leaves_at w a) ≡ length (leaves_at w y.q) + length (leaves_at w y.r)) (sym here) (leaves_both w stacked a)

    pub first-within : is_choice x ≡ true → first + length (leaves_at w a) ≤ 17 → first + length (leaves_at w x.q) ≤ 17
    first-within c b = omega (arith, b, both_within c)

    pub second-within : is_choice x ≡ true → first + length (leaves_at w a) ≤ 17 → first + length (leaves_at w x.q) + length (leaves_at w x.r) ≤ 17
    second-within c b = omega (arith, b, both_within c)

    pub taken-within : is_choice x ≡ true → first + length (leaves_at w a) ≤ 17 → (b : Bool) → from b + length (leaves_at w (taken b)) ≤ 17
    taken-within c b true = first-within c b
    taken-within c b false = second-within c b
