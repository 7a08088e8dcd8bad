-- Where a walk along an array stops, and what is found in it, as each way of the code has found it.
-- Assumes nothing.
use mathlib.Core.Path.{◌≡◌, refl, sym, ap, ap₂, ◌∙◌}
use mathlib.Core.Bool.{Bool, true, false, cond, not, ◌&&◌}
use mathlib.Core.Logic.{⊎_elim}
use mathlib.Core.List.{List}
use Prim.Native.Nat.{ℕ, zero, suc, ◌<◌}
use native.Mathlib.Nat.{not-suc-le-zero}
use native.Mathlib.Omega.{arith}
use lib.Dec.{eqb}
use lib.ListN.{get_or}
use Rattle.ops.proofs.Booleans.{and_parts, or_parts}
use Rattle.table.specs.declared.words.Term.{Term}
use Rattle.table.specs.Terms.{term_at}
use Rattle.table.specs.Faults.{rank}
use Rattle.judge.specs.Code.Labelled.{truth_in}
use Rattle.explain.specs.declared.answers.Settled.{Settled}
use Rattle.explain.specs.declared.answers.Settled.TheVariants.{AtIndex, EqualBeneath, EqualBranches, Unmarked}
use Rattle.explain.specs.declared.answers.Source.{Source}
use Rattle.explain.specs.Sources.{stacked, branched, past, next, shape_of}
use Rattle.std.proofs.Common.{Option, None, Some, is_some}
use Rattle.std.specs.Option.{option_or}
use Rattle.explain.specs.Settlers.{unfree_here, unfree_within, unfree_along, some_unfree}
use Rattle.explain.specs.Settlers.{freely_past, freely_picked, freely, stop_within, stop_at, settled_here, settled_by, settler_of}
use Rattle.explain.proofs.Alongs.{stacked_parts, branched_parts, store_earlier, choice_earlier}
use Rattle.explain.proofs.Walks.{walk_stopped, walk_on}

module _ (w values truths : List ℕ) (j : ℕ) where
  pub freely-below : (a : ℕ) → freely w values truths j a ≡ true → next w values a < a
  freely-below a e =
      let x = term_at w a in
      ⊎_elim
      (λ p.
      let parts = and_parts (past w values a j) (truth_in truths x.q) p in
      store_earlier w values j a (and_parts (stacked x a) (not (eqb (get_or values x.q 0) j)) parts.0).0)
      (λ p. choice_earlier w values j a (and_parts (branched x a) (truth_in truths x.p) p).0)
      (or_parts (freely_past w values truths j a) (freely_picked w truths a) e)

  within : (left a : ℕ) → stop_within (suc left) w values truths j a ≡ cond (freely w values truths j a) (stop_within left w values truths j (next w values a)) a
  unfolding stop_within
  within left a = refl

  pub stop_here : (a : ℕ) → freely w values truths j a ≡ false → a ≡ stop_at w values truths j a
  stop_here = walk_stopped (freely w values truths j) (next w values) freely-below (λ left a. stop_within left w values truths j a) (λ a i. i) (λ a. a) within

  pub stop_on : (a : ℕ) → freely w values truths j a ≡ true → stop_at w values truths j (next w values a) ≡ stop_at w values truths j a
  stop_on = walk_on (freely w values truths j) (next w values) freely-below (λ left a. stop_within left w values truths j a) (λ a i. i) (λ a. a) within

-- What settles a read where it stops, by three tests
module _ (w truths : List ℕ) (a : ℕ) where
  abbrev x : Term
  x = term_at w a

  abbrev found : Bool → Bool → Bool → Settled
  found b s f = cond b (EqualBranches a) (cond s (cond f (AtIndex (record { store = a; term = x.r })) (EqualBeneath (record { store = a; term = x.r }))) (Unmarked a))

  pub settled_as : (b s f : Bool) → branched x a ≡ b → stacked x a ≡ s → truth_in truths x.q ≡ f → found b s f ≡ settled_here w truths a
  settled_as b s f e g h = sym (λ i. found (e i) (g i) (h i))

-- The first of two that is there
pub or_first : {A : Type 0} (o r : Option A) → is_some o ≡ true → o ≡ option_or o r
or_first None r e = cc
or_first (Some y) r e = refl

pub or_rest : {A : Type 0} (o r : Option A) → is_some o ≡ false → r ≡ option_or o r
or_rest None r e = refl
or_rest (Some y) r e = cc

-- The first that is not free in a whole array, from those of its parts
module _ (w truths : List ℕ) where
  abbrev made : ℕ → Option Source → Option Source → Option Source → Option Source
  made a p q r = let x = term_at w a in option_or (unfree_here truths x a) (cond (stacked x a) p (cond (branched x a) (option_or q r) None))

  within_made : (left a : ℕ) → let x = term_at w a in
      unfree_within (suc left) w truths a ≡ made a (unfree_within left w truths x.p) (unfree_within left w truths x.q) (unfree_within left w truths x.r)
  unfolding unfree_within
  within_made left a = refl

  by : (s b : Bool) (p p' t t' n : Option Source) → (s ≡ true → p ≡ p') → (b ≡ true → t ≡ t') → cond s p (cond b t n) ≡ cond s p' (cond b t' n)
  by true b p p' t t' n e g = e refl
  by false true p p' t t' n e g = g refl
  by false false p p' t t' n e g = refl

  made_same : (a : ℕ) (p p' q q' r r' : Option Source) → let x = term_at w a in
      (stacked x a ≡ true → p ≡ p') → (branched x a ≡ true → (q ≡ q') × (r ≡ r')) → made a p q r ≡ made a p' q' r'
  made_same a p p' q q' r r' e g =
      let x = term_at w a in
      ap (option_or (unfree_here truths x a)) (by (stacked x a) (branched x a) p p' (option_or q r) (option_or q' r') None e (λ b. ap₂ option_or (g b).0 (g b).1))

  enough : (f g a : ℕ) → a < f → a < g → unfree_within f w truths a ≡ unfree_within g w truths a
  enough zero g a b c = absurd (not-suc-le-zero b)
  enough (suc f) zero a b c = absurd (not-suc-le-zero c)
  enough (suc f) (suc g) a b c =
      let x = term_at w a in
      within_made f a
      ∙ made_same a _ _ _ _ _ _ (λ s. let d = (stacked_parts x a s).1 in enough f g x.p (omega arith) (omega arith))
      (λ s.
      let d = branched_parts x a s in
      let q = d.1 in
      let r = d.2 in
      (enough f g x.q (omega arith) (omega arith), enough f g x.r (omega arith) (omega arith)))
      ∙ sym (within_made g a)

  pub along_made : (a : ℕ) → let x = term_at w a in unfree_along w truths a ≡ made a (unfree_along w truths x.p) (unfree_along w truths x.q) (unfree_along w truths x.r)
  along_made a =
      let x = term_at w a in
      within_made a a
      ∙ made_same a _ _ _ _ _ _ (λ s. let d = (stacked_parts x a s).1 in enough a (suc x.p) x.p d (omega arith))
      (λ s.
      let d = branched_parts x a s in
      let q = d.1 in
      let r = d.2 in
      (enough a (suc x.q) x.q q (omega arith), enough a (suc x.r) x.r r (omega arith)))

  -- as the code finds it: own is what is not free at term a, x, else the rest tells
  module _ (a : ℕ) (x : Term) (is : x ≡ term_at w a) (own : Option Source) (its : own ≡ unfree_here truths x a) where
    abbrev pub A : ℕ → Option Source
    A i = unfree_along w truths i

    abbrev pub rest : Term → Option Source
    rest y = cond (stacked y a) (A y.p) (cond (branched y a) (option_or (A y.q) (A y.r)) None)

    whole : option_or own (rest x) ≡ A a
    whole = ap (λ (z : Option Source). option_or z (rest x)) its ∙ ap (λ (y : Term). option_or (unfree_here truths y a) (rest y)) is ∙ sym (along_made a)

    pub own-told : is_some own ≡ true → own ≡ A a
    own-told e = or_first own (rest x) e ∙ whole

    pub rest_told : is_some own ≡ false → rest x ≡ A a
    rest_told e = or_rest own (rest x) e ∙ whole

-- The settler, where there is something to tell
pub told_as : (w values truths : List ℕ) (k : ℕ) → (truth_in truths k && some_unfree w truths (term_at w k)) ≡ true → settled_by w values truths (term_at w k) (shape_of (rank (term_at w k))) ≡ settler_of w values truths k
unfolding settler_of
told_as w values truths k e = sym (ap (λ (b : Bool). cond b (settled_by w values truths (term_at w k) (shape_of (rank (term_at w k)))) None) e)
