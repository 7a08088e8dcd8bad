-- Of a well-formed table: what a term's value comes from is beneath it, and where all of it is free the term is.
-- Assumes nothing.
use mathlib.Core.Path.{◌≡◌, refl, sym, ap, ap₂, subst, ◌∙◌}
use mathlib.Core.Bool.{Bool, true, false, cond, not, ◌&&◌, ◌||◌}
use mathlib.Core.List.{List, [], ◌∷◌}
use mathlib.Core.Logic.{⊎_elim}
use Prim.Native.Nat.{ℕ, zero, suc, ◌<◌}
use native.Mathlib.Nat.{not-suc-le-zero}
use native.Mathlib.Omega.{arith}
use lib.ListN.{get_or}
use lib.Dec.{eqb, ltb}
use borrow.Author.Tests.{lt-ltb, ltb-false, eqb-true, eq-eqb}
use Rattle.ops.specs.declared.Function.{Function}
use Rattle.ops.specs.declared.Op.{Op}
use Rattle.ops.specs.declared.Op.TheVariants.{Constant, Variable, Apply, Ite, Select, Store, Unknown}
use Rattle.ops.specs.Numbers.{op_of}
use Rattle.ops.specs.Meaning.{Operation, holds, operation}
use Rattle.ops.specs.Meaning.Operation.{unary, strict, absorbing, shift, fixed}
use Rattle.ops.specs.Ranks.{Arity, FunctionRank, arity, function_rank}
use Rattle.ops.specs.Ranks.Arity.{one as one_operand, two as two_operands}
use Rattle.ops.specs.Ranks.FunctionRank.{bool_unary, bool_binary, equality, bv_unary, bv_binary, bv_compare}
use Rattle.ops.specs.Condition.{absorbed, shifted, chosen, condition_by as operation_condition, settles}
use Rattle.ops.proofs.Booleans.{never, and_shut, or_open}
use Rattle.table.specs.declared.words.Term.{Term}
use Rattle.table.specs.Terms.{terms, term_at, sort_at, boolean, scalar, array, vector_of, same_sort}
use Rattle.table.specs.declared.words.Sort.{Sort}
use Rattle.table.specs.Ranks.{applied, rank_of, slotted, picks, writes}
use Rattle.table.specs.Faults.{is_variable, is_store, is_choice, typed_as}
use Rattle.table.specs.WellFormed.{WellFormed}
use Rattle.table.proofs.OperandSorts.{is_known, boolean-scalar, same-scalar, vector_of-scalar, three, four, unary_scalar, binary_scalars, array_op, no_store, op_at, typing, typing_as, placing_as, two_placed, three_placed, rank_below}
use Rattle.setting.specs.Interpretation.{Value, Interpretation}
use Rattle.evaluate.specs.Values.{value_in, values, numbers}
use Rattle.evaluate.proofs.Folds.{value-below, number_in}
use Rattle.evaluate.proofs.Meaning.{same-array}
use Rattle.judge.specs.Conditions.{Condition, condition_by, condition_in, conditions, condition_at}
use Rattle.judge.proofs.Alike.{condition_below}
use Rattle.explain.specs.declared.answers.Source.{Source}
use Rattle.explain.specs.declared.answers.Source.TheVariants.{Operand, Array}
use Rattle.explain.specs.Sources.{stacked, branched, picked, index, stored, test, along, shape_of, support_by, support}
use Rattle.explain.specs.Laws.{SupportSuffices}
use Rattle.explain.proofs.Alongs.{of-picked, picked_as, along_end, along_hit, along_miss, along-branch}
use Rattle.explain.proofs.Names.{Each, each_none, each-cons, each_head, each_tail}

-- with both operands free an operator is free
absorbed-free : (a b : Bool) → absorbed true a true b ≡ true
absorbed-free true b = refl
absorbed-free false true = refl
absorbed-free false false = refl

shifted-free : (b : Bool) → shifted true true b ≡ true
shifted-free true = refl
shifted-free false = refl

pub and_open : (b : Bool) → (b && true) ≡ b
and_open true = refl
and_open false = refl

-- a sort is a scalar's or an array's
pub scalar-flat : (s : Sort) → scalar s ≡ true → array s ≡ false
scalar-flat s h = ap (λ (m : ℕ). ltb 0 m) (eqb-true s.m 0 h)

flat-scalar : (s : Sort) → array s ≡ false → scalar s ≡ true
flat-scalar s h = let b = ltb-false 0 s.m h in eq-eqb s.m 0 (omega arith)

module _ (limit : ℕ) (w : List ℕ) (I : Interpretation) (f : WellFormed limit w) where
  abbrev pub vs : List ℕ
  vs = numbers w I (terms w)

  pub num_of : (k i : ℕ) → k < terms w → i < k → (value_in (values w I k) i).num ≡ get_or vs i 0
  num_of k i b c =
      let d : i < terms w = omega arith in
      ap (λ (v : Value). v.num) (value-below w I k i c) ∙ sym (number_in w I (terms w) i ∙ ap (λ (v : Value). v.num) (value-below w I (terms w) i d))

  pub plain_at : (i : ℕ) → i < terms w → scalar (sort_at w i) ≡ true → is_store (term_at w i) ≡ false
  plain_at i b s = let t = term_at w i in no_store (op_of t.op) (sort_at w i) (sort_at w t.p) (sort_at w t.q) (sort_at w t.r) (typing w i (f.sound i b)) s

  pub unpicked_at : (i : ℕ) → array (sort_at w i) ≡ false → is_choice (term_at w i) ≡ false
  unpicked_at i h = ap (λ (b : Bool). picks (op_of (term_at w i).op) && b) h ∙ and_shut (picks (op_of (term_at w i).op))

  -- An array term: a variable, a store over an array, or a choice between two, whose operands are below it

  pub record StoreAt (a : ℕ) : Type 0 where
    pub is : op_of (term_at w a).op ≡ Store
    pub pb : (term_at w a).p < a
    pub qb : (term_at w a).q < a
    pub rb : (term_at w a).r < a
    pub ps : array (sort_at w (term_at w a).p) ≡ true
    pub qs : scalar (sort_at w (term_at w a).q) ≡ true
    pub rs : scalar (sort_at w (term_at w a).r) ≡ true
    pub stacks : stacked (term_at w a) a ≡ true

  pub record ChoiceAt (a : ℕ) : Type 0 where
    pub is : op_of (term_at w a).op ≡ Ite
    pub pb : (term_at w a).p < a
    pub qb : (term_at w a).q < a
    pub rb : (term_at w a).r < a
    pub ps : scalar (sort_at w (term_at w a).p) ≡ true
    pub its : array (sort_at w a) ≡ true
    pub qs : array (sort_at w (term_at w a).q) ≡ true
    pub rs : array (sort_at w (term_at w a).r) ≡ true
    pub branches : branched (term_at w a) a ≡ true

  module _ (a : ℕ) (b : a < terms w) (r : array (sort_at w a) ≡ true) where
    abbrev y : Term
    y = term_at w a

    store_at : op_of y.op ≡ Store → StoreAt a
    store_at e =
        let s = f.sound a b in
        let place = three_placed a y (placing_as w a s Store e) in
        let sorts = four (array (sort_at w a)) (same_sort (sort_at w y.p) (sort_at w a)) (vector_of (sort_at w a).m (sort_at w y.q)) (vector_of (sort_at w a).n (sort_at w y.r)) (typing_as w a s Store e) in
        record {
          is = e;
          pb = place.0;
          qb = place.1;
          rb = place.2;
          ps = same-array (sort_at w y.p) (sort_at w a) sorts.1 r;
          qs = vector_of-scalar (sort_at w a).m (sort_at w y.q) sorts.2;
          rs = vector_of-scalar (sort_at w a).n (sort_at w y.r) sorts.3;
          stacks = ap₂ ◌&&◌ (ap (λ (o : Op). writes o) e) (lt-ltb y.p a place.0);
        }

    choice_at : op_of y.op ≡ Ite → ChoiceAt a
    choice_at e =
        let s = f.sound a b in
        let place = three_placed a y (placing_as w a s Ite e) in
        let sorts = three (boolean (sort_at w y.p)) (same_sort (sort_at w y.q) (sort_at w a)) (same_sort (sort_at w y.r) (sort_at w a)) (typing_as w a s Ite e) in
        record {
          is = e;
          pb = place.0;
          qb = place.1;
          rb = place.2;
          ps = boolean-scalar (sort_at w y.p) sorts.0;
          its = r;
          qs = same-array (sort_at w y.q) (sort_at w a) sorts.1 r;
          rs = same-array (sort_at w y.r) (sort_at w a) sorts.2 r;
          branches = λ i. (picks (e i) && r i) && lt-ltb y.q a place.1 i && lt-ltb y.r a place.2 i;
        }

    -- it is one of the three
    pub array_at : {A : Type 0} → (op_of y.op ≡ Variable → A) → (StoreAt a → A) → (ChoiceAt a → A) → A
    array_at variable store choice =
        ⊎_elim variable (⊎_elim (λ e. store (store_at e)) (λ e. choice (choice_at e)))
        (array_op (op_of y.op) (sort_at w a) (sort_at w y.p) (sort_at w y.q) (sort_at w y.r) (op_at w a (f.sound a b)) (typing w a (f.sound a b)) r)

  -- a variable is neither
  pub variable_plain : (a : ℕ) → op_of (term_at w a).op ≡ Variable → (is_store (term_at w a) ≡ false) × (is_choice (term_at w a) ≡ false)
  variable_plain a e = (ap (λ (o : Op). writes o) e, ap (λ (o : Op). picks o && array (sort_at w a)) e)

  pub choice_is : (a : ℕ) → ChoiceAt a → is_choice (term_at w a) ≡ true
  choice_is a c = λ i. picks (c.is i) && c.its i

  -- by the operator of a term
  support_is : (t : Term) (op : Op) → op_of t.op ≡ op → support w vs t ≡ support_by w vs t (shape_of (rank_of op))
  unfolding support
  support_is t op e = ap (λ (o : Op). support_by w vs t (shape_of (rank_of o))) e

  one_source : (t : Term) (r : FunctionRank one_operand) → support_by w vs t (shape_of (applied r)) ≡ Operand t.p ∷ []
  one_source t bool_unary = refl
  one_source t bv_unary = refl

  two_sources : (t : Term) (r : FunctionRank two_operands) → support_by w vs t (shape_of (applied r)) ≡ Operand t.p ∷ Operand t.q ∷ []
  two_sources t bool_binary = refl
  two_sources t equality = refl
  two_sources t bv_binary = refl
  two_sources t bv_compare = refl

  -- What a value comes from is beneath it

  -- an earlier term, no store and no choice between arrays
  pub record Lower (k i : ℕ) : Type 0 where
    pub below : i < k
    pub no_store : is_store (term_at w i) ≡ false
    pub no-choice : is_choice (term_at w i) ≡ false

  module _ (k : ℕ) (b : k < terms w) where
    lower : (i : ℕ) → i < k → scalar (sort_at w i) ≡ true → Lower k i
    lower i c s = record { below = c; no_store = plain_at i (omega arith) s; no-choice = unpicked_at i (scalar-flat (sort_at w i) s) }

    lower-along : (j m a : ℕ) → a < m → a < k → array (sort_at w a) ≡ true → Each (Lower k) (along w vs a j)
    lower-along j zero a n c r = absurd (not-suc-le-zero n)
    lower-along j (suc m) a n c r =
        array_at a (omega arith) r
        (λ e.
        let no = variable_plain a e in
        subst (Each (Lower k)) (sym (along_end w vs j a no.0 no.1)) (each-cons (Lower k) (Array a) [] (record { below = c; no_store = no.0; no-choice = no.1 }) (each_none (Lower k))))
        (λ s. store s (eqb (get_or vs (term_at w a).q 0) j) refl (let pb = s.pb in lower-along j m (term_at w a).p (omega arith) (omega arith) s.ps))
        (λ s.
        let x = term_at w a in
        let pb = s.pb in
        let qb = s.qb in
        let rb = s.rb in
        subst (Each (Lower k)) (sym (along-branch w vs j a s.branches))
        (each-cons (Lower k) (test x a) _ (lower x.p (omega arith) s.ps)
        (of-picked (λ i. Each (Lower k) (along w vs i j)) (holds (get_or vs x.p 0)) (lower-along j m x.q (omega arith) (omega arith) s.qs) (lower-along j m x.r (omega arith) (omega arith) s.rs))))
      where
        store : StoreAt a → (h : Bool) → eqb (get_or vs (term_at w a).q 0) j ≡ h → Each (Lower k) (along w vs (term_at w a).p j) → Each (Lower k) (along w vs a j)
        store s h e rest = go h e
          where
            at_index : Lower k (term_at w a).q
            at_index = let qb = s.qb in lower (term_at w a).q (omega arith) s.qs

            at_value : Lower k (term_at w a).r
            at_value = let rb = s.rb in lower (term_at w a).r (omega arith) s.rs

            go : (z : Bool) → eqb (get_or vs (term_at w a).q 0) j ≡ z → Each (Lower k) (along w vs a j)
            go true g =
                subst (Each (Lower k)) (sym (along_hit w vs j a s.stacks g))
                (each-cons (Lower k) (index (term_at w a) a) _ at_index (each-cons (Lower k) (stored (term_at w a) a) [] at_value (each_none (Lower k))))
            go false g = subst (Each (Lower k)) (sym (along_miss w vs j a s.stacks g)) (each-cons (Lower k) (index (term_at w a) a) _ at_index rest)

    -- The term by its operator

    abbrev this : Term
    this = term_at w k

    -- a function whose sources are l: one operand or two, and free where these are
    pub data Operands (o : Operation) (l : List Source) : Type 0 where
      only : l ≡ Operand this.p ∷ [] → Lower k this.p → ((n x y : ℕ) (d : Bool) → operation_condition o n x y true d ≡ true) → Operands o l
      both : l ≡ Operand this.p ∷ Operand this.q ∷ [] → Lower k this.p → Lower k this.q → ((n x y : ℕ) → operation_condition o n x y true true ≡ true) → Operands o l

    abbrev Typed : {a : Arity} → FunctionRank a → Type 0
    Typed r = typed_as (applied r) (sort_at w k) (sort_at w this.p) (sort_at w this.q) (sort_at w this.r) ≡ true

    abbrev Placed : Type 0
    Placed = (this.p < k) × (this.q < k) × (this.r < k)

    both_by : (o : Operation) (r : FunctionRank two_operands) → Typed r → Placed → ((n x y : ℕ) → operation_condition o n x y true true ≡ true) → Operands o (support_by w vs this (shape_of (applied r)))
    both_by o r h places free =
        let scalars = binary_scalars r (sort_at w k) (sort_at w this.p) (sort_at w this.q) (sort_at w this.r) h in
        both (two_sources this r) (lower this.p places.0 scalars.0) (lower this.q places.1 scalars.1) free

    operands_by_lem : (o : Operation) (r : FunctionRank (arity o)) → Typed r → Placed → Operands o (support_by w vs this (shape_of (applied r)))
    operands_by_lem (unary g) r h places =
        only (one_source this r) (lower this.p places.0 (unary_scalar r (sort_at w k) (sort_at w this.p) (sort_at w this.q) (sort_at w this.r) h)) (λ n x y d. refl)
    operands_by_lem (strict g) r h places = both_by (strict g) r h places (λ n x y. refl)
    operands_by_lem (absorbing g a z) r h places = both_by (absorbing g a z) r h places (λ n x y. absorbed-free (a n x) (z n y))
    operands_by_lem (shift g z) r h places = both_by (shift g z) r h places (λ n x y. shifted-free (z n y))
    operands_by_lem (fixed g a z) r h places = both_by (fixed g a z) r h places (λ n x y. or_open (a n x || z n x))

    pub data Made : Type 0 where
      literal : op_of this.op ≡ Constant → Made
      input : op_of this.op ≡ Variable → Made
      function : (g : Function) → op_of this.op ≡ Apply g → Operands (operation g) (support w vs this) → Made
      choice : op_of this.op ≡ Ite → array (sort_at w k) ≡ false → support w vs this ≡ Operand this.p ∷ Operand (picked vs this) ∷ [] → Lower k this.p → Lower k this.q → Lower k this.r → Made
      read : op_of this.op ≡ Select → support w vs this ≡ Operand this.q ∷ along w vs this.p (get_or vs this.q 0) → this.p < k → array (sort_at w this.p) ≡ true → Lower k this.q → Made
      store : StoreAt k → Made
      fork : ChoiceAt k → Made

    made_by : (op : Op) → op_of this.op ≡ op → Made
    unfolding is_known
    made_by Constant e = literal e
    made_by Variable e = input e
    made_by (Apply g) e =
        let r = function_rank g in
        let s = f.sound k b in
        function g e (subst (Operands (operation g)) (sym (support_is this (Apply g) e)) (operands_by_lem (operation g) r (typing_as w k s (Apply g) e) (rank_below r k this (placing_as w k s (Apply g) e))))
    made_by Ite e = picking (array (sort_at w k)) refl
      where
        picking : (z : Bool) → array (sort_at w k) ≡ z → Made
        picking true r = fork (choice_at k b r e)
        picking false r =
            let s = f.sound k b in
            let places = three_placed k this (placing_as w k s Ite e) in
            let sorts = three (boolean (sort_at w this.p)) (same_sort (sort_at w this.q) (sort_at w k)) (same_sort (sort_at w this.r) (sort_at w k)) (typing_as w k s Ite e) in
            let flat = flat-scalar (sort_at w k) r in
            choice e r (support_is this Ite e)
            (lower this.p places.0 (boolean-scalar (sort_at w this.p) sorts.0))
            (lower this.q places.1 (same-scalar (sort_at w this.q) (sort_at w k) sorts.1 flat))
            (lower this.r places.2 (same-scalar (sort_at w this.r) (sort_at w k) sorts.2 flat))
    made_by Select e =
        let s = f.sound k b in
        let places = two_placed k this (placing_as w k s Select e) in
        let sorts = three (array (sort_at w this.p)) (vector_of (sort_at w this.p).m (sort_at w this.q)) (vector_of (sort_at w this.p).n (sort_at w k)) (typing_as w k s Select e) in
        read e (support_is this Select e) places.0 sorts.0 (lower this.q places.1 (vector_of-scalar (sort_at w this.p).m (sort_at w this.q) sorts.1))
    made_by Store e =
        let sorts = four (array (sort_at w k)) (same_sort (sort_at w this.p) (sort_at w k)) (vector_of (sort_at w k).m (sort_at w this.q)) (vector_of (sort_at w k).n (sort_at w this.r)) (typing_as w k (f.sound k b) Store e) in
        store (store_at k b sorts.0 e)
    made_by Unknown e = never (sym (ap is_known e) ∙ op_at w k (f.sound k b))

    pub made : Made
    made = made_by (op_of this.op) refl

    one_lower : (i : ℕ) → Lower k i → Each (Lower k) (Operand i ∷ [])
    one_lower i p = each-cons (Lower k) (Operand i) [] p (each_none (Lower k))

    two_lower : (i j : ℕ) → Lower k i → Lower k j → Each (Lower k) (Operand i ∷ Operand j ∷ [])
    two_lower i j p q = each-cons (Lower k) (Operand i) _ p (one_lower j q)

    leaf : support w vs this ≡ [] → Each (Lower k) (support w vs this)
    leaf e = subst (Each (Lower k)) (sym e) (each_none (Lower k))

    lower_function : (o : Operation) (l : List Source) → Operands o l → Each (Lower k) l
    lower_function o l (only e p free) = subst (Each (Lower k)) (sym e) (one_lower this.p p)
    lower_function o l (both e p q free) = subst (Each (Lower k)) (sym e) (two_lower this.p this.q p q)

    lower_made : Made → is_choice this ≡ false → Each (Lower k) (support w vs this)
    lower_made (literal e) n = leaf (support_is this Constant e)
    lower_made (input e) n = leaf (support_is this Variable e)
    lower_made (function g e o) n = lower_function (operation g) (support w vs this) o
    lower_made (choice e flat l p q r) n = subst (Each (Lower k)) (sym l) (two_lower this.p (picked vs this) p (of-picked (Lower k) (holds (get_or vs this.p 0)) q r))
    lower_made (read e l pb ps q) n =
        subst (Each (Lower k)) (sym l) (each-cons (Lower k) (Operand this.q) _ q (lower-along (get_or vs this.q 0) (suc this.p) this.p (omega arith) pb ps))
    lower_made (store s) n = leaf (support_is this Store s.is)
    lower_made (fork c) n = never (sym n ∙ choice_is k c)

    pub lower-support : is_choice this ≡ false → Each (Lower k) (support w vs this)
    lower-support = lower_made made

  -- Where all of it is free the term is

  module _ (marked : Term → Bool) where
    abbrev pub K : ℕ → Condition
    K i = condition_at w marked I i

    abbrev pub Free : ℕ → Type 0
    Free i = (K i).free ≡ true

    -- what term k takes from an earlier term
    pub free_of : (k i : ℕ) → i < k → (condition_in (conditions w marked I k) i).free ≡ (K i).free
    free_of k i c = ap (λ (d : Condition). d.free) (condition_below w marked I k i c)

    -- a read of array term a
    module _ (a : ℕ) (b : a < terms w) (j : ℕ) where
      abbrev x : Term
      x = term_at w a

      abbrev pub v : ℕ → Value
      v = value_in (values w I a)

      abbrev co : ℕ → Condition
      co = condition_in (conditions w marked I a)

      pub variable_read : (cj : Bool) → op_of x.op ≡ Variable → (K a).read_free j cj ≡ ((K a).free && cj)
      unfolding condition_by
      variable_read cj e =
          ap (λ (o : Op). (condition_by marked v co (sort_at w x.p).n x o).read_free j cj) e
          ∙ sym (ap (λ (o : Op). (condition_by marked v co (sort_at w x.p).n x o).free && cj) e)

      pub store-read : (cj : Bool) (s : StoreAt a) → (K a).read_free j cj ≡ chosen ((K x.q).free && cj) (eqb (get_or vs x.q 0) j) (K x.r).free ((K x.p).read_free j cj) (eqb (v x.r).num ((v x.p).cell j))
      unfolding condition_by
      store-read cj s =
          let tq = free_of a x.q s.qb in
          let tr = free_of a x.r s.rb in
          let nq = num_of a x.q b s.qb in
          let cp = condition_below w marked I a x.p s.pb in
          ap (λ (o : Op). (condition_by marked v co (sort_at w x.p).n x o).read_free j cj) s.is
          ∙ (λ i. chosen (tq i && cj) (eqb (nq i) j) (tr i) ((cp i).read_free j cj) (eqb (v x.r).num ((v x.p).cell j)))

      pub choice-read : (cj : Bool) (s : ChoiceAt a) → (K a).read_free j cj ≡ chosen (K x.p).free (holds (get_or vs x.p 0)) ((K x.q).read_free j cj) ((K x.r).read_free j cj) (eqb ((v x.q).cell j) ((v x.r).cell j))
      unfolding condition_by
      choice-read cj s =
          let tp = free_of a x.p s.pb in
          let np = num_of a x.p b s.pb in
          let cq = condition_below w marked I a x.q s.qb in
          let cr = condition_below w marked I a x.r s.rb in
          ap (λ (o : Op). (condition_by marked v co (sort_at w x.p).n x o).read_free j cj) s.is
          ∙ (λ i. chosen (tp i) (holds (np i)) ((cq i).read_free j cj) ((cr i).read_free j cj) (eqb ((v x.q).cell j) ((v x.r).cell j)))

    choice-free : (c test d e same : Bool) → c ≡ true → cond test d e ≡ true → chosen c test d e same ≡ true
    choice-free true test d e same hc h = ap (λ (z : Bool). z || ((d && e) && same)) h
    choice-free false test d e same hc h = never hc

    chosen_hit : (c d e same : Bool) → c ≡ true → d ≡ true → chosen (c && true) true d e same ≡ true
    chosen_hit true true e same hc hd = refl
    chosen_hit true false e same hc hd = never hd
    chosen_hit false d e same hc hd = never hc

    chosen_miss : (c d e same : Bool) → c ≡ true → e ≡ true → chosen (c && true) false d e same ≡ true
    chosen_miss true d true same hc he = refl
    chosen_miss true d false same hc he = never he
    chosen_miss false d e same hc he = never hc

    free-along : (j m a : ℕ) → a < m → a < terms w → array (sort_at w a) ≡ true → Each Free (along w vs a j) → (K a).read_free j true ≡ true
    free-along j zero a n c r all = absurd (not-suc-le-zero n)
    free-along j (suc m) a n c r all =
        array_at a c r
        (λ e.
        let no = variable_plain a e in
        variable_read a c j true e ∙ and_open (K a).free ∙ each_head Free (Array a) [] (subst (Each Free) (along_end w vs j a no.0 no.1) all))
        (λ s. store-read a c j true s ∙ by s (eqb (get_or vs (term_at w a).q 0) j) refl (λ rest. let pb = s.pb in free-along j m (term_at w a).p (omega arith) (omega arith) s.ps rest))
        (λ s.
        let x = term_at w a in
        let qb = s.qb in
        let rb = s.rb in
        let l = subst (Each Free) (along-branch w vs j a s.branches) all in
        choice-read a c j true s
        ∙ choice-free (K x.p).free (holds (get_or vs x.p 0)) ((K x.q).read_free j true) ((K x.r).read_free j true) (eqb ((v a c j x.q).cell j) ((v a c j x.r).cell j))
        (each_head Free (test x a) _ l)
        (picked_as (λ i. (K i).read_free j true) (holds (get_or vs x.p 0)) x.q x.r
        ∙ of-picked (λ i. Each Free (along w vs i j) → (K i).read_free j true ≡ true) (holds (get_or vs x.p 0)) (free-along j m x.q (omega arith) (omega arith) s.qs) (free-along j m x.r (omega arith) (omega arith) s.rs)
        (each_tail Free (test x a) _ l)))
      where
        by : (s : StoreAt a) (h : Bool) → eqb (get_or vs (term_at w a).q 0) j ≡ h → (Each Free (along w vs (term_at w a).p j) → (K (term_at w a).p).read_free j true ≡ true)
            → chosen ((K (term_at w a).q).free && true) (eqb (get_or vs (term_at w a).q 0) j) (K (term_at w a).r).free ((K (term_at w a).p).read_free j true) (eqb (v a c j (term_at w a).r).num ((v a c j (term_at w a).p).cell j)) ≡ true
        by s true e rest =
            let l = subst (Each Free) (along_hit w vs j a s.stacks e) all in
            let first = index (term_at w a) a in
            let held = stored (term_at w a) a in
            ap (λ (h : Bool). chosen ((K (term_at w a).q).free && true) h (K (term_at w a).r).free ((K (term_at w a).p).read_free j true) (eqb (v a c j (term_at w a).r).num ((v a c j (term_at w a).p).cell j))) e
            ∙ chosen_hit (K (term_at w a).q).free (K (term_at w a).r).free ((K (term_at w a).p).read_free j true) (eqb (v a c j (term_at w a).r).num ((v a c j (term_at w a).p).cell j)) (each_head Free first _ l) (each_head Free held [] (each_tail Free first _ l))
        by s false e rest =
            let l = subst (Each Free) (along_miss w vs j a s.stacks e) all in
            let first = index (term_at w a) a in
            ap (λ (h : Bool). chosen ((K (term_at w a).q).free && true) h (K (term_at w a).r).free ((K (term_at w a).p).read_free j true) (eqb (v a c j (term_at w a).r).num ((v a c j (term_at w a).p).cell j))) e
            ∙ chosen_miss (K (term_at w a).q).free (K (term_at w a).r).free ((K (term_at w a).p).read_free j true) (eqb (v a c j (term_at w a).r).num ((v a c j (term_at w a).p).cell j)) (each_head Free first _ l) (rest (each_tail Free first _ l))

    module _ (k : ℕ) (b : k < terms w) where
      abbrev t : Term
      t = term_at w k

      abbrev vk : ℕ → Value
      vk = value_in (values w I k)

      abbrev ck : ℕ → Condition
      ck = condition_in (conditions w marked I k)

      -- its condition by its operator
      pub condition_as : (op : Op) → op_of t.op ≡ op → (K k).free ≡ (condition_by marked vk ck (sort_at w t.p).n t op).free
      condition_as op e = ap (λ (o : Op). (condition_by marked vk ck (sort_at w t.p).n t o).free) e

      pub input-free : op_of t.op ≡ Variable → (K k).free ≡ not (marked t)
      unfolding condition_by
      input-free e = condition_as Variable e

      taken : (i : ℕ) → Lower k i → Free i → (ck i).free ≡ true
      taken i l h = free_of k i l.below ∙ h

      function_free : (o : Operation) (n x y : ℕ) (l : List Source) → Operands k b o l → Each Free l → operation_condition o n x y (ck t.p).free (ck t.q).free ≡ true
      function_free o n x y l (only e p free) all =
          let h = subst (Each Free) e all in
          ap (λ (c : Bool). operation_condition o n x y c (ck t.q).free) (taken t.p p (each_head Free (Operand t.p) [] h)) ∙ free n x y (ck t.q).free
      function_free o n x y l (both e p q free) all =
          let h = subst (Each Free) e all in
          ap₂ (operation_condition o n x y) (taken t.p p (each_head Free (Operand t.p) _ h)) (taken t.q q (each_head Free (Operand t.q) [] (each_tail Free (Operand t.p) _ h)))
          ∙ free n x y

      -- a choice between arrays has no condition
      pub fork_unfree : ChoiceAt k → (K k).free ≡ false
      unfolding condition_by
      fork_unfree c = condition_as Ite c.is ∙ rw c.its

      free_by : Made k b → is_store t ≡ false → is_choice t ≡ false → (is_variable t ≡ true → marked t ≡ false) → Each Free (support w vs t) → (K k).free ≡ true
      unfolding condition_by settles
      free_by (literal e) ns nc unmarked all = condition_as Constant e
      free_by (input e) ns nc unmarked all = input-free e ∙ ap not (unmarked (ap (λ (o : Op). slotted o) e))
      free_by (function g e o) ns nc unmarked all = condition_as (Apply g) e ∙ function_free (operation g) (sort_at w t.p).n (vk t.p).num (vk t.q).num (support w vs t) o all
      free_by (choice e flat l p q r) ns nc unmarked all =
          let h = subst (Each Free) l all in
          let test = holds (get_or vs t.p 0) in
          condition_as Ite e
          ∙ ap (λ (z : Bool). not z && chosen (ck t.p).free (holds (vk t.p).num) (ck t.q).free (ck t.r).free (eqb (vk t.q).num (vk t.r).num)) flat
          ∙ ap (λ (n : ℕ). chosen (ck t.p).free (holds n) (ck t.q).free (ck t.r).free (eqb (vk t.q).num (vk t.r).num)) (num_of k t.p b p.below)
          ∙ choice-free (ck t.p).free test (ck t.q).free (ck t.r).free (eqb (vk t.q).num (vk t.r).num) (taken t.p p (each_head Free (Operand t.p) _ h))
          (picked_as (λ i. (ck i).free) test t.q t.r
          ∙ of-picked (λ i. Free i → (ck i).free ≡ true) test (taken t.q q) (taken t.r r) (each_head Free (Operand (picked vs t)) [] (each_tail Free (Operand t.p) _ h)))
      free_by (read e l pb ps q) ns nc unmarked all =
          let h = subst (Each Free) l all in
          let cp = condition_below w marked I k t.p pb in
          let cq = taken t.q q (each_head Free (Operand t.q) _ h) in
          let nq = num_of k t.q b q.below in
          condition_as Select e
          ∙ (λ i. (cp i).read_free (nq i) (cq i))
          ∙ free-along (get_or vs t.q 0) (suc t.p) t.p (omega arith) (omega arith) ps (each_tail Free (Operand t.q) _ h)
      free_by (store s) ns nc unmarked all = never (sym ns ∙ ap (λ (o : Op). writes o) s.is)
      free_by (fork c) ns nc unmarked all = never (sym nc ∙ choice_is k c)

pub support_suffices : SupportSuffices
support_suffices limit w marked I f k b ns nc unmarked all = free_by limit w I f marked k b (made limit w I f k b) ns nc unmarked all
