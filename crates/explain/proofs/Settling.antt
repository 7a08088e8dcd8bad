-- What the settler says is so, and it says something of each free term with an operand that is not free.
-- Assumes nothing.
use mathlib.Core.Path.{◌≡◌, refl, sym, ap, ap₂, subst, ◌∙◌}
use mathlib.Core.Bool.{Bool, true, false, cond, not, ◌&&◌, ◌||◌}
use mathlib.Core.List.{List}
use mathlib.Core.Logic.{◌⊎◌, inl, inr, ⊎_elim}
use Prim.Native.Nat.{ℕ, zero, suc, ◌<◌}
use Prim.{tt}
use native.Mathlib.Nat.{not-suc-le-zero}
use native.Mathlib.Omega.{arith}
use lib.Dec.{eqb, ltb}
use lib.ListN.{get_or}
use borrow.Author.Tests.{eqb-true, not-true}
use Rattle.ops.specs.declared.Function.{Function}
use Rattle.ops.specs.declared.Op.{Op}
use Rattle.ops.specs.declared.Op.TheVariants.{Constant, Variable, Apply, Ite, Select, Store}
use Rattle.ops.specs.Numbers.{op_of}
use Rattle.ops.specs.Meaning.{Operation, holds, operation, apply}
use Rattle.ops.specs.Meaning.Operation.{unary, strict, absorbing, shift, fixed}
use Rattle.ops.specs.Ranks.{Arity, FunctionRank, arity, function_rank}
use Rattle.ops.specs.Ranks.Arity.{one as one_operand, two as two_operands}
use Rattle.ops.specs.Ranks.FunctionRank.{bool_unary, bool_binary, equality, bv_unary, bv_binary, bv_compare}
use Rattle.ops.specs.Condition.{absorbed, shifted, fixed_by, chosen, condition_by as operation_condition, settles}
use Rattle.ops.proofs.Booleans.{never, and_parts, or_parts, and_shut, or_open}
use Rattle.table.specs.declared.words.Term.{Term}
use Rattle.table.specs.Terms.{terms, term_at, sort_at, array}
use Rattle.table.specs.Ranks.{applied, rank_of, slotted, writes}
use Rattle.table.specs.Faults.{rank, is_store}
use Rattle.table.specs.WellFormed.{WellFormed}
use Rattle.table.proofs.OperandSorts.{placing_as, rank_below}
use Rattle.setting.specs.Interpretation.{Value, Interpretation}
use Rattle.evaluate.specs.Values.{value_by, value_in, values, value_at, numbers}
use Rattle.evaluate.proofs.Folds.{value-below, number_in}
use Rattle.evaluate.proofs.Meaning.{cell-store, cell-choice}
use Rattle.judge.specs.Conditions.{Condition, condition_by, condition_in, conditions, condition_at, truths}
use Rattle.judge.specs.Code.Labelled.{truth_in}
use Rattle.judge.proofs.Alike.{condition_below}
use Rattle.explain.specs.declared.answers.Settled.{Settled}
use Rattle.explain.specs.declared.answers.Settled.TheVariants.{Alone, Picked, Equal, AtIndex, EqualBeneath, EqualBranches, Unmarked}
use Rattle.explain.specs.declared.answers.Shape.{Shape}
use Rattle.explain.specs.declared.answers.Shape.TheVariants.{Binary, Branches, Cell}
use Rattle.explain.specs.declared.answers.Source.TheVariants.{Operand}
use Rattle.std.proofs.Common.{Option, None, Some, is_some}
use Rattle.explain.specs.Sources.{stacked, branched, picked, shape_of}
use Rattle.explain.specs.Settlers.{unfree_by, unfree_at, some_unfree, settles_alone, freely_past, freely_picked, freely, stop_at, settled_here, settled_by, settler_of}
use Rattle.explain.specs.SettlerLaws.{Reaches, arrived, onward, inward, SaysAtIndex, SaysEqualBeneath, SaysEqualBranches, SaysUnmarked, Says, SettlerTrue, SettlerTold}
use Rattle.explain.proofs.Alongs.{of-picked, picked_as, store_unbranched, next-store, next-choice}
use Rattle.explain.proofs.Supports.{and_open, num_of, StoreAt, ChoiceAt, array_at, variable_plain, choice_is, Lower}
use Rattle.explain.proofs.Supports.{Made, literal, input, function, choice, read, store, fork, made, free_of, variable_read, store-read, choice-read, condition_as, fork_unfree}
use Rattle.explain.proofs.Causes.{truth_at}
use Rattle.explain.proofs.Stops.{stop_here, stop_on, settled_as, told_as}

-- Choices

-- a free test picks a free branch
chosen-branch : (test d e same : Bool) → chosen true test d e same ≡ true → cond test d e ≡ true
chosen-branch test d e same h =
    ⊎_elim (λ k. k) (λ k. let both = and_parts d e (and_parts (d && e) same k).0 in pick test both.0 both.1) (or_parts (cond test d e) ((d && e) && same) h)
  where
    pick : (b : Bool) → d ≡ true → e ≡ true → cond b d e ≡ true
    pick true p q = p
    pick false p q = q

-- without one both are free and equal
chosen-equal : (test d e same : Bool) → chosen false test d e same ≡ true → (d ≡ true) × (e ≡ true) × (same ≡ true)
chosen-equal test d e same h =
    let parts = and_parts (d && e) same h in
    let both = and_parts d e parts.0 in
    (both.0, both.1, parts.1)

-- the number of the value that is picked
picked_num : (z : Bool) (u v : Value) → (cond z u v).num ≡ cond z u.num v.num
picked_num true u v = refl
picked_num false u v = refl

-- of two that are equal either is the first
either : (b : Bool) (y z : ℕ) → y ≡ z → cond b y z ≡ y
either true y z e = refl
either false y z e = sym e

chosen_shut : (c test d e same : Bool) → e ≡ false → chosen (c && false) test d e same ≡ false
chosen_shut c test d e same h = rw (h, and_shut c, and_shut d)

both_shut : (c test d e same : Bool) → d ≡ false → e ≡ false → chosen c test d e same ≡ false
both_shut c test d e same hd he = (λ i. chosen c test (hd i) (he i) same) ∙ go c test
  where
    go : (c test : Bool) → chosen c test false false same ≡ false
    go true true = refl
    go true false = refl
    go false test = refl

-- an operation that is free though not both operands are: one that is free settles it
alone_by : (o : Operation) (n x y : ℕ) (c d : Bool) → operation_condition o n x y c d ≡ true → (c && d) ≡ false
    → ((c && operation_condition o n x x true false) ≡ true) ⊎ ((d && operation_condition o n y y false true) ≡ true)
alone_by (unary g) n x y c d h e = inl (ap (λ (z : Bool). z && true) h)
alone_by (strict g) n x y c d h e = never (sym e ∙ h)
alone_by (absorbing g a b) n x y c d h e =
    ⊎_elim
    (λ u.
    ⊎_elim (λ v. let parts = and_parts c (a n x) v in inl (ap₂ (λ (z r : Bool). z && absorbed true r false (b n x)) parts.0 parts.1))
    (λ v. let parts = and_parts d (b n y) v in inr (ap₂ (λ (z r : Bool). z && absorbed false (a n y) true r) parts.0 parts.1))
    (or_parts (c && a n x) (d && b n y) u))
    (λ u. never (sym e ∙ u))
    (or_parts ((c && a n x) || (d && b n y)) (c && d) h)
alone_by (shift g b) n x y c d h e =
    ⊎_elim (λ v. let parts = and_parts d (b n y) v in inr (ap₂ (λ (z r : Bool). z && shifted false true r) parts.0 parts.1)) (λ u. never (sym e ∙ u)) (or_parts (d && b n y) (c && d) h)
alone_by (fixed g a b) n x y c d h e =
    ⊎_elim
    (λ u.
    ⊎_elim (λ v. let parts = and_parts c (a n x) v in inl (ap₂ (λ (z r : Bool). z && fixed_by true false r (b n x)) parts.0 parts.1))
    (λ v. let parts = and_parts c (b n x) v in inl (ap₂ (λ (z r : Bool). z && fixed_by true false (a n x) r) parts.0 parts.1 ∙ ap (λ (z : Bool). z || false) (or_open (a n x))))
    (or_parts (c && a n x) (c && b n x) u))
    (λ u. never (sym e ∙ u))
    (or_parts ((c && a n x) || (c && b n x)) (c && d) h)

module _ (limit : ℕ) (w : List ℕ) (marked : Term → Bool) (I : Interpretation) (f : WellFormed limit w) where
  abbrev vs : List ℕ
  vs = numbers w I (terms w)

  abbrev ts : List ℕ
  ts = truths w marked I (terms w)

  abbrev K : ℕ → Condition
  K i = condition_at w marked I i

  abbrev W : ℕ → Value
  W i = value_at w I i

  free_at : (i : ℕ) → i < terms w → truth_in ts i ≡ (K i).free
  free_at = truth_at limit w marked I f

  number_at : (i : ℕ) → i < terms w → get_or vs i 0 ≡ (W i).num
  number_at i b = number_in w I (terms w) i ∙ ap (λ (v : Value). v.num) (value-below w I (terms w) i b)

  -- A read at index j

  module _ (j : ℕ) where
    -- at an index that is not free no read is free
    read_shut : (m a : ℕ) → a < m → a < terms w → array (sort_at w a) ≡ true → (K a).read_free j false ≡ false
    read_shut zero a n c r = absurd (not-suc-le-zero n)
    read_shut (suc m) a n c r =
        array_at limit w I f a c r
        (λ e. variable_read limit w I f marked a c j false e ∙ and_shut (K a).free)
        (λ s.
        let pb = s.pb in
        store-read limit w I f marked a c j false s
        ∙ chosen_shut (K (term_at w a).q).free (eqb (get_or vs (term_at w a).q 0) j) (K (term_at w a).r).free ((K (term_at w a).p).read_free j false) _ (read_shut m (term_at w a).p (omega arith) (omega arith) s.ps))
        (λ s.
        let x = term_at w a in
        let qb = s.qb in
        let rb = s.rb in
        choice-read limit w I f marked a c j false s
        ∙ both_shut (K x.p).free (holds (get_or vs x.p 0)) ((K x.q).read_free j false) ((K x.r).read_free j false) _ (read_shut m x.q (omega arith) (omega arith) s.qs) (read_shut m x.r (omega arith) (omega arith) s.rs))

    -- what is said of a read of array term a, which gives number
    abbrev ReadSays : ℕ → ℕ → Settled → Type 0
    ReadSays a number (Alone i) = ⊥
    ReadSays a number (Picked i c) = ⊥
    ReadSays a number (Equal i c) = ⊥
    ReadSays a number (AtIndex held) = SaysAtIndex w marked I j a number held
    ReadSays a number (EqualBeneath held) = SaysEqualBeneath w marked I j a number held
    ReadSays a number (EqualBranches b) = SaysEqualBranches w marked I j a number b
    ReadSays a number (Unmarked b) = SaysUnmarked w marked I j a number b

    -- past a store, into a branch, and by another name of the number, nothing changes
    moved : (a a' number number' : ℕ) → ((b : ℕ) → Reaches w vs ts j a b → Reaches w vs ts j a' b) → number' ≡ number → (x : Settled) → ReadSays a number x → ReadSays a' number' x
    moved a a' number number' on e (Alone i) h = h
    moved a a' number number' on e (Picked i c) h = h
    moved a a' number number' on e (Equal i c) h = h
    moved a a' number number' on e (AtIndex held) h =
        record { reached = on held.store h.reached; store = h.store; its = h.its; index-free = h.index-free; index = h.index; is_free = h.is_free; same = e ∙ h.same }
    moved a a' number number' on e (EqualBeneath held) h =
        record { reached = on held.store h.reached; store = h.store; its = h.its; index-unfree = h.index-unfree; is_free = h.is_free; beneath_free = h.beneath_free; equal = h.equal; same = e ∙ h.same }
    moved a a' number number' on e (EqualBranches b) h =
        record { reached = on b h.reached; choice = h.choice; test-unfree = h.test-unfree; first-free = h.first-free; second-free = h.second-free; equal = h.equal; same = e ∙ h.same }
    moved a a' number number' on e (Unmarked b) h = record { reached = on b h.reached; input = h.input; unmarked = h.unmarked; same = e ∙ h.same }

    module _ (a : ℕ) (b : a < terms w) (r : array (sort_at w a) ≡ true) where
      abbrev x : Term
      x = term_at w a

      abbrev stop : ℕ → Settled
      stop i = settled_here w ts (stop_at w vs ts j i)

      -- whether the read goes on from term a, by four tests
      freely_as : (s h b c d : Bool) → stacked x a ≡ s → eqb (get_or vs x.q 0) j ≡ h → truth_in ts x.q ≡ c → branched x a ≡ b → truth_in ts x.p ≡ d → freely w vs ts j a ≡ (((s && not h) && c) || (b && d))
      freely_as s h b c d es eh ec eb ed = λ i. ((es i && not (eh i)) && ec i) || (eb i && ed i)

      -- where it does not, this settles it
      abbrev found : Bool → Bool → Bool → Settled
      found b s c = cond b (EqualBranches a) (cond s (cond c (AtIndex (record { store = a; term = x.r })) (EqualBeneath (record { store = a; term = x.r }))) (Unmarked a))

      stops : (s h b c d : Bool) → stacked x a ≡ s → eqb (get_or vs x.q 0) j ≡ h → truth_in ts x.q ≡ c → branched x a ≡ b → truth_in ts x.p ≡ d → (((s && not h) && c) || (b && d)) ≡ false → found b s c ≡ stop a
      stops s h b c d es eh ec eb ed e = settled_as w ts a b s c eb es ec ∙ ap (settled_here w ts) (stop_here w vs ts j a (freely_as s h b c d es eh ec eb ed ∙ e))

      at_variable : op_of x.op ≡ Variable → (K a).read_free j true ≡ true → ReadSays a ((W a).cell j) (stop a)
      unfolding condition_by
      at_variable e h =
          let no = variable_plain limit w I f a e in
          let flat : stacked x a ≡ false = ap (λ (s : Bool). s && ltb x.p a) no.0 in
          let plain : branched x a ≡ false = ap (λ (s : Bool). s && ltb x.q a && ltb x.r a) no.1 in
          let is_free : (K a).free ≡ true = sym (and_open (K a).free) ∙ sym (variable_read limit w I f marked a b j true e) ∙ h in
          let unmarked : not (marked x) ≡ true = sym (condition_as limit w I f marked a b Variable e) ∙ is_free in
          subst (ReadSays a ((W a).cell j)) (stops false (eqb (get_or vs x.q 0) j) false (truth_in ts x.q) (truth_in ts x.p) flat refl refl plain refl refl)
          (record { reached = arrived; input = ap (λ (o : Op). slotted o) e; unmarked = not-true (marked x) unmarked; same = refl })

      module _ (s : StoreAt limit w I f a) where
        alone-store : branched x a ≡ false
        alone-store = store_unbranched x a (ap (λ (o : Op). writes o) s.is)

        its-cell : (W a).cell j ≡ cond (eqb (get_or vs x.q 0) j) (get_or vs x.r 0) ((W x.p).cell j)
        its-cell = cell-store limit w I f (terms w) a b b r s.is j

        by_store : (K a).read_free j true ≡ chosen (truth_in ts x.q) (eqb (get_or vs x.q 0) j) (truth_in ts x.r) ((K x.p).read_free j true) (eqb (get_or vs x.r 0) ((W x.p).cell j))
        by_store =
            let qb = s.qb in
            let rb = s.rb in
            let nr = num_of limit w I f a x.r b s.rb in
            let vp = value-below w I a x.p s.pb in
            let fq = and_open (K x.q).free ∙ sym (free_at x.q (omega arith)) in
            let fr = sym (free_at x.r (omega arith)) in
            store-read limit w I f marked a b j true s
            ∙ (λ i. chosen (fq i) (eqb (get_or vs x.q 0) j) (fr i) ((K x.p).read_free j true) (eqb (nr i) ((vp i).cell j)))

        at_store : (c h : Bool) → truth_in ts x.q ≡ c → eqb (get_or vs x.q 0) j ≡ h
            → chosen c h (truth_in ts x.r) ((K x.p).read_free j true) (eqb (get_or vs x.r 0) ((W x.p).cell j)) ≡ true
            → ((K x.p).read_free j true ≡ true → ReadSays x.p ((W x.p).cell j) (stop x.p))
            → ReadSays a ((W a).cell j) (stop a)
        at_store true true ec eh e rest =
            subst (ReadSays a ((W a).cell j)) (stops true true false true (truth_in ts x.p) s.stacks eh ec alone-store refl refl)
            (record {
              reached = arrived;
              store = ap (λ (o : Op). writes o) s.is;
              its = refl;
              index-free = ec;
              index = eqb-true (get_or vs x.q 0) j eh;
              is_free = chosen-branch true (truth_in ts x.r) ((K x.p).read_free j true) _ e;
              same = its-cell ∙ ap (λ (z : Bool). cond z (get_or vs x.r 0) ((W x.p).cell j)) eh;
            })
        at_store true false ec eh e rest =
            let g : freely_past w vs ts j a ≡ true = λ i. (s.stacks i && not (eh i)) && ec i in
            let on = freely_as true false false true (truth_in ts x.p) s.stacks eh ec alone-store refl in
            subst (λ (i : ℕ). ReadSays a ((W a).cell j) (settled_here w ts i)) (ap (stop_at w vs ts j) (sym (next-store w vs j a (ap (λ (o : Op). writes o) s.is))) ∙ stop_on w vs ts j a on)
            (moved x.p a ((W x.p).cell j) ((W a).cell j) (λ i r. onward g r) (its-cell ∙ ap (λ (z : Bool). cond z (get_or vs x.r 0) ((W x.p).cell j)) eh) (stop x.p)
            (rest (chosen-branch false (truth_in ts x.r) ((K x.p).read_free j true) _ e)))
        at_store false h ec eh e rest =
            let parts = chosen-equal h (truth_in ts x.r) ((K x.p).read_free j true) (eqb (get_or vs x.r 0) ((W x.p).cell j)) e in
            let same : get_or vs x.r 0 ≡ (W x.p).cell j = eqb-true (get_or vs x.r 0) ((W x.p).cell j) parts.2 in
            subst (ReadSays a ((W a).cell j)) (stops true h false false (truth_in ts x.p) s.stacks eh ec alone-store refl (ap (λ (z : Bool). z || false) (and_shut (not h))))
            (record {
              reached = arrived;
              store = ap (λ (o : Op). writes o) s.is;
              its = refl;
              index-unfree = ec;
              is_free = parts.0;
              beneath_free = parts.1;
              equal = sym same;
              same = its-cell ∙ either (eqb (get_or vs x.q 0) j) (get_or vs x.r 0) ((W x.p).cell j) same;
            })

      module _ (s : ChoiceAt limit w I f a) where
        abbrev tested : Bool
        tested = holds (get_or vs x.p 0)

        no_store : is_store x ≡ false
        no_store = ap (λ (o : Op). writes o) s.is

        alone-choice : stacked x a ≡ false
        alone-choice = ap (λ (z : Bool). z && ltb x.p a) no_store

        picked-cell : (W a).cell j ≡ cond tested ((W x.q).cell j) ((W x.r).cell j)
        picked-cell = cell-choice limit w I f (terms w) a b b r s.is j

        by_choice : (K a).read_free j true ≡ chosen (truth_in ts x.p) tested ((K x.q).read_free j true) ((K x.r).read_free j true) (eqb ((W x.q).cell j) ((W x.r).cell j))
        by_choice =
            let pb = s.pb in
            let fp = sym (free_at x.p (omega arith)) in
            let vq = value-below w I a x.q s.qb in
            let vr = value-below w I a x.r s.rb in
            choice-read limit w I f marked a b j true s
            ∙ (λ i. chosen (fp i) tested ((K x.q).read_free j true) ((K x.r).read_free j true) (eqb ((vq i).cell j) ((vr i).cell j)))

        at_choice : (c : Bool) → truth_in ts x.p ≡ c
            → chosen c tested ((K x.q).read_free j true) ((K x.r).read_free j true) (eqb ((W x.q).cell j) ((W x.r).cell j)) ≡ true
            → ((K (picked vs x)).read_free j true ≡ true → ReadSays (picked vs x) ((W (picked vs x)).cell j) (stop (picked vs x)))
            → ReadSays a ((W a).cell j) (stop a)
        at_choice true ec e rest =
            let y = picked vs x in
            let g : freely_picked w ts a ≡ true = λ i. s.branches i && ec i in
            let on = freely_as false (eqb (get_or vs x.q 0) j) true (truth_in ts x.q) true alone-choice refl refl s.branches ec in
            subst (λ (i : ℕ). ReadSays a ((W a).cell j) (settled_here w ts i)) (ap (stop_at w vs ts j) (sym (next-choice w vs j a no_store)) ∙ stop_on w vs ts j a on)
            (moved y a ((W y).cell j) ((W a).cell j) (λ i r. inward g r) (picked-cell ∙ picked_as (λ i. (W i).cell j) tested x.q x.r) (stop y)
            (rest (sym (picked_as (λ i. (K i).read_free j true) tested x.q x.r) ∙ chosen-branch tested ((K x.q).read_free j true) ((K x.r).read_free j true) _ e)))
        at_choice false ec e rest =
            let parts = chosen-equal tested ((K x.q).read_free j true) ((K x.r).read_free j true) (eqb ((W x.q).cell j) ((W x.r).cell j)) e in
            let same : (W x.q).cell j ≡ (W x.r).cell j = eqb-true ((W x.q).cell j) ((W x.r).cell j) parts.2 in
            subst (ReadSays a ((W a).cell j)) (stops false (eqb (get_or vs x.q 0) j) true (truth_in ts x.q) false alone-choice refl refl s.branches ec refl)
            (record {
              reached = arrived;
              choice = choice_is limit w I f a s;
              test-unfree = ec;
              first-free = parts.0;
              second-free = parts.1;
              equal = same;
              same = picked-cell ∙ either tested ((W x.q).cell j) ((W x.r).cell j) same;
            })

    read-says : (m a : ℕ) → a < m → a < terms w → array (sort_at w a) ≡ true → (K a).read_free j true ≡ true → ReadSays a ((W a).cell j) (settled_here w ts (stop_at w vs ts j a))
    read-says zero a n b r h = absurd (not-suc-le-zero n)
    read-says (suc m) a n b r h =
        array_at limit w I f a b r
        (λ e. at_variable a b r e h)
        (λ s.
        let pb = s.pb in
        at_store a b r s (truth_in ts (term_at w a).q) (eqb (get_or vs (term_at w a).q 0) j) refl refl (sym (by_store a b r s) ∙ h) (read-says m (term_at w a).p (omega arith) (omega arith) s.ps))
        (λ s.
        let x = term_at w a in
        let qb = s.qb in
        let rb = s.rb in
        at_choice a b r s (truth_in ts x.p) refl (sym (by_choice a b r s) ∙ h)
        (of-picked (λ i. (K i).read_free j true ≡ true → ReadSays i ((W i).cell j) (settled_here w ts (stop_at w vs ts j i))) (holds (get_or vs x.p 0))
        (read-says m x.q (omega arith) (omega arith) s.qs) (read-says m x.r (omega arith) (omega arith) s.rs)))

  -- One term

  module _ (k : ℕ) (b : k < terms w) where
    abbrev t : Term
    t = term_at w k

    abbrev vk : ℕ → Value
    vk = value_in (values w I k)

    abbrev ck : ℕ → Condition
    ck = condition_in (conditions w marked I k)

    abbrev by : Shape → Option Settled
    by h = settled_by w vs ts t h

    taken : (i : ℕ) → i < k → (ck i).free ≡ truth_in ts i
    taken i c = free_of limit w I f marked k i c ∙ sym (free_at i (omega arith))

    abbrev Claim : Option Settled → Type 0
    Claim = Says w marked I k

    shape_as : (op : Op) → op_of t.op ≡ op → shape_of (rank_of op) ≡ shape_of (rank t)
    shape_as op e = sym (ap (λ (o : Op). shape_of (rank_of o)) e)

    -- a function of two operands
    alone : (y z : Bool) → settles_alone w vs ts t false ≡ y → settles_alone w vs ts t true ≡ z → Claim (cond y (Some (Alone t.p)) (cond z (Some (Alone t.q)) None))
    alone true z e g =
        let parts = and_parts (truth_in ts t.p) _ e in
        record { second = false; its = refl; is_free = parts.0; settles = parts.1 }
    alone false true e g =
        let parts = and_parts (truth_in ts t.q) _ g in
        record { second = true; its = refl; is_free = parts.0; settles = parts.1 }
    alone false false e g = tt

    function_says : {n : Arity} (r : FunctionRank n) → Claim (by (shape_of (applied r)))
    function_says bool_unary = tt
    function_says bool_binary = alone (settles_alone w vs ts t false) (settles_alone w vs ts t true) refl refl
    function_says equality = alone (settles_alone w vs ts t false) (settles_alone w vs ts t true) refl refl
    function_says bv_unary = tt
    function_says bv_binary = alone (settles_alone w vs ts t false) (settles_alone w vs ts t true) refl refl
    function_says bv_compare = alone (settles_alone w vs ts t false) (settles_alone w vs ts t true) refl refl

    -- a choice
    choice-says : op_of t.op ≡ Ite → array (sort_at w k) ≡ false → Lower limit w I f k t.p → Lower limit w I f k t.q → Lower limit w I f k t.r → (K k).free ≡ true → Claim (by Branches)
    unfolding condition_by settles value_by apply
    choice-says e flat p q r h =
        let tp = taken t.p p.below in
        let tq = taken t.q q.below in
        let tr = taken t.r r.below in
        let np = num_of limit w I f k t.p b p.below in
        let nq = num_of limit w I f k t.q b q.below in
        let nr = num_of limit w I f k t.r b r.below in
        go (truth_in ts t.p) refl
        (sym (λ i. not (flat i) && chosen (tp i) (holds (np i)) (tq i) (tr i) (eqb (nq i) (nr i))) ∙ sym (condition_as limit w I f marked k b Ite e) ∙ h)
        (number_at k b ∙ ap (λ (o : Op). (value_by I vk (sort_at w t.p).n t o).num) e ∙ picked_num (holds (vk t.p).num) (vk t.q) (vk t.r) ∙ (λ i. cond (holds (np i)) (nq i) (nr i)))
      where
        branch : (z : Bool) → cond z (get_or vs t.q 0) (get_or vs t.r 0) ≡ get_or vs (cond z t.q t.r) 0
        branch true = refl
        branch false = refl

        free-branch : (z : Bool) → cond z (truth_in ts t.q) (truth_in ts t.r) ≡ true → truth_in ts (cond z t.q t.r) ≡ true
        free-branch true g = g
        free-branch false g = g

        go : (c : Bool) → truth_in ts t.p ≡ c → chosen (truth_in ts t.p) (holds (get_or vs t.p 0)) (truth_in ts t.q) (truth_in ts t.r) (eqb (get_or vs t.q 0) (get_or vs t.r 0)) ≡ true
            → get_or vs k 0 ≡ cond (holds (get_or vs t.p 0)) (get_or vs t.q 0) (get_or vs t.r 0)
            → Claim (Some (cond (truth_in ts t.p) (Picked t.p (picked vs t)) (Equal t.q t.r)))
        go true ec g n =
            subst (λ (z : Bool). Claim (Some (cond z (Picked t.p (picked vs t)) (Equal t.q t.r)))) (sym ec)
            (record {
              test = refl;
              branch = refl;
              test-free = ec;
              branch-free = free-branch (holds (get_or vs t.p 0)) (chosen-branch (holds (get_or vs t.p 0)) (truth_in ts t.q) (truth_in ts t.r) _ (sym (ap (λ (z : Bool). chosen z (holds (get_or vs t.p 0)) (truth_in ts t.q) (truth_in ts t.r) (eqb (get_or vs t.q 0) (get_or vs t.r 0))) ec) ∙ g));
              same = n ∙ branch (holds (get_or vs t.p 0));
            })
        go false ec g n =
            let parts = chosen-equal (holds (get_or vs t.p 0)) (truth_in ts t.q) (truth_in ts t.r) (eqb (get_or vs t.q 0) (get_or vs t.r 0)) (sym (ap (λ (z : Bool). chosen z (holds (get_or vs t.p 0)) (truth_in ts t.q) (truth_in ts t.r) (eqb (get_or vs t.q 0) (get_or vs t.r 0))) ec) ∙ g) in
            let equal : get_or vs t.q 0 ≡ get_or vs t.r 0 = eqb-true (get_or vs t.q 0) (get_or vs t.r 0) parts.2 in
            subst (λ (z : Bool). Claim (Some (cond z (Picked t.p (picked vs t)) (Equal t.q t.r)))) (sym ec)
            (record {
              branches = (refl, refl);
              first-free = parts.0;
              second-free = parts.1;
              equal = equal;
              same = n ∙ either (holds (get_or vs t.p 0)) (get_or vs t.q 0) (get_or vs t.r 0) equal;
            })

    -- a read
    of-read : (x : Settled) → ReadSays (get_or vs t.q 0) t.p (get_or vs k 0) x → Claim (Some x)
    of-read (Alone i) h = absurd h
    of-read (Picked i c) h = absurd h
    of-read (Equal i c) h = absurd h
    of-read (AtIndex held) h = h
    of-read (EqualBeneath held) h = h
    of-read (EqualBranches c) h = h
    of-read (Unmarked c) h = h

    cell-says : op_of t.op ≡ Select → t.p < k → array (sort_at w t.p) ≡ true → Lower limit w I f k t.q → (K k).free ≡ true → Claim (by Cell)
    unfolding condition_by value_by
    cell-says e pb ps q h =
        let nq = num_of limit w I f k t.q b q.below in
        let tq = taken t.q q.below in
        let cp = condition_below w marked I k t.p pb in
        let vp = value-below w I k t.p pb in
        let g : (K t.p).read_free (get_or vs t.q 0) (truth_in ts t.q) ≡ true = sym (λ i. (cp i).read_free (nq i) (tq i)) ∙ sym (condition_as limit w I f marked k b Select e) ∙ h in
        let stop = settled_here w ts (stop_at w vs ts (get_or vs t.q 0) t.p) in
        of-read stop
        (moved (get_or vs t.q 0) t.p t.p ((W t.p).cell (get_or vs t.q 0)) (get_or vs k 0) (λ i r. r)
        (number_at k b ∙ ap (λ (o : Op). (value_by I vk (sort_at w t.p).n t o).num) e ∙ (λ i. (vp i).cell (nq i))) stop
        (read-says (get_or vs t.q 0) (suc t.p) t.p (omega arith) (omega arith) ps (opened (truth_in ts t.q) g)))
      where
        opened : (c : Bool) → (K t.p).read_free (get_or vs t.q 0) c ≡ true → (K t.p).read_free (get_or vs t.q 0) true ≡ true
        opened true g = g
        opened false g = never (sym (read_shut (get_or vs t.q 0) (suc t.p) t.p (omega arith) (omega (arith, pb)) ps) ∙ g)

    says_by : Made limit w I f k b → (K k).free ≡ true → Claim (by (shape_of (rank t)))
    says_by (literal e) h = subst (λ (z : Shape). Claim (by z)) (shape_as Constant e) tt
    says_by (input e) h = subst (λ (z : Shape). Claim (by z)) (shape_as Variable e) tt
    says_by (function g e o) h = subst (λ (z : Shape). Claim (by z)) (shape_as (Apply g) e) (function_says (function_rank g))
    says_by (choice e flat l p q r) h = subst (λ (z : Shape). Claim (by z)) (shape_as Ite e) (choice-says e flat p q r h)
    says_by (read e l pb ps q) h = subst (λ (z : Shape). Claim (by z)) (shape_as Select e) (cell-says e pb ps q h)
    says_by (store s) h = subst (λ (z : Shape). Claim (by z)) (shape_as Store s.is) tt
    says_by (fork c) h = never (sym (fork_unfree limit w I f marked k b c) ∙ h)

    settler_says : (z : Bool) → (truth_in ts k && some_unfree w ts t) ≡ z → Claim (cond z (by (shape_of (rank t))) None)
    settler_says true e = says_by (made limit w I f k b) (sym (free_at k b) ∙ (and_parts (truth_in ts k) (some_unfree w ts t) e).0)
    settler_says false e = tt

    -- Something is told

    -- some operand is not free, by the shape
    abbrev some : Shape → Bool
    some h = is_some (get_or (unfree_by w ts t h) 0 None) || is_some (get_or (unfree_by w ts t h) 1 None) || is_some (get_or (unfree_by w ts t h) 2 None)

    some_as : some_unfree w ts t ≡ some (shape_of (rank t))
    unfolding unfree_at
    some_as = refl

    abbrev lone : Bool → Bool → Option Settled
    lone y z = cond y (Some (Alone t.p)) (cond z (Some (Alone t.q)) None)

    lone_told : (y z : Bool) → (y ≡ true) ⊎ (z ≡ true) → is_some (lone y z) ≡ true
    lone_told true z h = refl
    lone_told false true h = refl
    lone_told false false (inl h) = never h
    lone_told false false (inr h) = never h

    -- of a function: its condition from its operands' truths
    module _ (g : Function) (e : op_of t.op ≡ Apply g) (h : (K k).free ≡ true) where
      abbrev n : ℕ
      n = (sort_at w t.p).n

      abbrev c : Bool
      c = truth_in ts t.p

      abbrev d : Bool
      d = truth_in ts t.q

      by_operands : (t.p < k) × (t.q < k) × (t.r < k) → operation_condition (operation g) n (get_or vs t.p 0) (get_or vs t.q 0) c d ≡ true
      unfolding condition_by settles
      by_operands places =
          let np = num_of limit w I f k t.p b places.0 in
          let nq = num_of limit w I f k t.q b places.1 in
          let tp = taken t.p places.0 in
          let tq = taken t.q places.1 in
          sym (λ i. operation_condition (operation g) n (np i) (nq i) (tp i) (tq i)) ∙ sym (condition_as limit w I f marked k b (Apply g) e) ∙ h

      alone_as : (second : Bool) → settles_alone w vs ts t second ≡ (truth_in ts (cond second t.q t.p) && operation_condition (operation g) n (get_or vs (cond second t.q t.p) 0) (get_or vs (cond second t.q t.p) 0) (not second) second)
      unfolding settles
      alone_as second =
          let i = cond second t.q t.p in
          ap (λ (o : Op). truth_in ts i && settles o n (get_or vs i 0) (get_or vs i 0) (get_or vs i 0) (not second) second false) e

      binary-told : (t.p < k) × (t.q < k) × (t.r < k) → (c && d) ≡ false → is_some (by Binary) ≡ true
      binary-told places shut =
          lone_told (settles_alone w vs ts t false) (settles_alone w vs ts t true)
          (⊎_elim (λ a. inl (alone_as false ∙ a)) (λ a. inr (alone_as true ∙ a))
          (alone_by (operation g) n (get_or vs t.p 0) (get_or vs t.q 0) c d (by_operands places) shut))

      not_both : (y z : Bool) → (is_some (cond y None (Some (Operand t.p))) || is_some (cond z None (Some (Operand t.q))) || false) ≡ true → (y && z) ≡ false
      not_both true true u = never u
      not_both true false u = refl
      not_both false z u = refl

      not_one : (y : Bool) → (is_some (cond y None (Some (Operand t.p))) || false || false) ≡ true → y ≡ true → ⊥
      not_one true u v = never u
      not_one false u v = never v

      two_told : (r : FunctionRank two_operands) → (t.p < k) × (t.q < k) × (t.r < k) → some (shape_of (applied r)) ≡ true → is_some (by (shape_of (applied r))) ≡ true
      two_told bool_binary places u = binary-told places (not_both c d u)
      two_told equality places u = binary-told places (not_both c d u)
      two_told bv_binary places u = binary-told places (not_both c d u)
      two_told bv_compare places u = binary-told places (not_both c d u)

      one_told : (r : FunctionRank one_operand) → c ≡ true → some (shape_of (applied r)) ≡ true → is_some (by (shape_of (applied r))) ≡ true
      one_told bool_unary v u = absurd (not_one c u v)
      one_told bv_unary v u = absurd (not_one c u v)

      function_told : (o : Operation) (r : FunctionRank (arity o)) → operation_condition o n (get_or vs t.p 0) (get_or vs t.q 0) c d ≡ true → (t.p < k) × (t.q < k) × (t.r < k)
          → some (shape_of (applied r)) ≡ true → is_some (by (shape_of (applied r))) ≡ true
      function_told (unary o) r v places u = one_told r v u
      function_told (strict o) r v places u = two_told r places u
      function_told (absorbing o x y) r v places u = two_told r places u
      function_told (shift o y) r v places u = two_told r places u
      function_told (fixed o x y) r v places u = two_told r places u

    abbrev Tells : Shape → Type 0
    Tells z = some z ≡ true → is_some (by z) ≡ true

    tells_by : Made limit w I f k b → (K k).free ≡ true → Tells (shape_of (rank t))
    tells_by (literal e) h = subst Tells (shape_as Constant e) (λ u. never u)
    tells_by (input e) h = subst Tells (shape_as Variable e) (λ u. never u)
    tells_by (function g e o) h =
        let places = rank_below (function_rank g) k t (placing_as w k (f.sound k b) (Apply g) e) in
        subst Tells (shape_as (Apply g) e) (function_told g e h (operation g) (function_rank g) (by_operands g e h places) places)
    tells_by (choice e flat l p q r) h = subst Tells (shape_as Ite e) (λ u. refl)
    tells_by (read e l pb ps q) h = subst Tells (shape_as Select e) (λ u. refl)
    tells_by (store s) h = subst Tells (shape_as Store s.is) (λ u. never u)
    tells_by (fork c) h = never (sym (fork_unfree limit w I f marked k b c) ∙ h)

pub settler_true : SettlerTrue
unfolding settler_of
settler_true limit w marked I f k b = settler_says limit w marked I f k b (truth_in (ts limit w marked I f) k && some_unfree w (ts limit w marked I f) (term_at w k)) refl

pub settler_told : SettlerTold
settler_told limit w marked I f k b h u =
    ap is_some (sym (told_as w (vs limit w marked I f) (ts limit w marked I f) k (ap₂ ◌&&◌ h u)))
    ∙ tells_by limit w marked I f k b (made limit w I f k b) (sym (free_at limit w marked I f k b) ∙ h) (sym (some_as limit w marked I f k b) ∙ u)
