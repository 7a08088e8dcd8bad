-- The terms that finishing adds have the conditions' values.
-- Assumes nothing.
use mathlib.Core.Path.{◌≡◌, refl, sym, ap, ap₂, subst, ◌∙◌}
use mathlib.Core.Bool.{Bool, true, false, cond, not, ◌&&◌, ◌||◌}
use mathlib.Core.List.{List, ◌++◌}
use Prim.Native.Nat.{ℕ, zero, suc, pred, ◌+◌, ◌≤◌, ◌<◌}
use native.Mathlib.Nat.{not-suc-le-zero}
use native.Mathlib.Decide.{dec_lt}
use native.Mathlib.Omega.{arith}
use lib.Dec.{eqb, ltb}
use lib.ListN.{length, length-append}
use borrow.Author.Tests.{eqb-true}
use Rattle.ops.specs.declared.Op.{Op}
use Rattle.ops.specs.declared.Op.TheVariants.{Constant, Variable, Apply, Ite, Select, Store, Unknown}
use Rattle.ops.specs.Numbers.{op_of}
use Rattle.ops.specs.Meaning.{Operation, bit, holds, ones, operation, apply}
use Rattle.ops.specs.Signed.{greatest, least}
use Rattle.ops.specs.Condition.{condition_by as operation_condition, settles}
use Rattle.ops.specs.Ranks.{FunctionRank, arity, function_rank}
use Rattle.ops.specs.Ranks.Arity.{two}
use Rattle.ops.proofs.Booleans.{never, and_shut}
use Rattle.table.specs.declared.ranks.Rank.TheVariants.{Choice, BvBinary}
use Rattle.table.specs.declared.words.Sort.{Sort}
use Rattle.table.specs.declared.words.Term.{Term}
use Rattle.table.specs.Terms.{terms, term_at, sort_at, boolean, vector, scalar, array, vector_of, same_sort}
use Rattle.table.specs.Ranks.{applied, rank_of, fields_of, picks, writes}
use Rattle.table.specs.Faults.{fields, is_store, is_choice, placed_as, typed_as}
use Rattle.table.specs.WellFormed.{WellFormed}
use Rattle.table.proofs.FoldLaws.{fold-below}
use Rattle.table.proofs.SoundTerms.{past_end}
use Rattle.setting.specs.Interpretation.{Value, Interpretation}
use Rattle.evaluate.specs.Values.{scalar_value, array_value, operated, value_by, value_in, value_from, values, value_at}
use Rattle.evaluate.proofs.Folds.{value-below}
use Rattle.evaluate.proofs.Meaning.{same-array}
use Rattle.table.proofs.OperandSorts.{is_known, not-array, same_sort_lem, boolean-scalar, same-scalar, vector_of-scalar, three, four, unary_scalar, binary_scalars, no_store, op_at, typing, two_placed, three_placed, rank_below}
use Rattle.judge.specs.Conditions.{Condition, plain, settled, store_free, choice_free, condition_by, condition_in, conditions, condition_at}
use Rattle.sheets.specs.Marks.{own_marks}
use Rattle.judge.proofs.Alike.{condition_below}
use Rattle.groups.specs.FunctionGroups.{FunctionGroup, function_group, group_kind, kind_of}
use Rattle.groups.specs.FunctionGroups.FunctionGroup.{unary, strict, conjunction, disjunction, implication, by_zero, by_ones, by_bounds, by_signed, by_fixed, shift}
use Rattle.groups.specs.Plans.{Plan, last_of, taken, store_read, choice_read, plan_by, plan_in, plan_of, next, plans, plan_at}
use Rattle.groups.specs.Groups.{variable_group, store_group, array_choice_group}
use Rattle.groups.proofs.GroupSizes.{choice_plan}
use Rattle.finish.specs.Finished.{condition_number}
use Rattle.finish.proofs.Layouts.{Has, has_left, has_right, Layout, true_at, false_at, group_has, last_at}
use Rattle.judge.proofs.Meaning.{holds-bit}
use Rattle.finish.proofs.GroupValues.{Known, and_num, constant_num, strict_group_lem, and_group_lem, or_group_lem, implies_group_lem, absorbing_group_lem, bounds_group_lem, fixed_group, shift_group_lem, choice_group_lem, store_group_lem, array-choice_group}
use Rattle.finish.proofs.Admitted.{no-array}

-- The value of a term depends on the terms below alone

module _ (I : Interpretation) (v v' : ℕ → Value) (n n' k : ℕ) (t : Term) (same : (i : ℕ) → i < k → v i ≡ v' i) (width : t.p < k → n ≡ n') where
  same-operated : (op : Op) → (t.p < k) × (t.q < k) × (t.r < k) → operated I v n t op ≡ operated I v' n' t op
  same-operated op place =
      let wide = width place.0 in
      let p = same t.p place.0 in
      let q = same t.q place.1 in
      let r = same t.r place.2 in
      λ i. scalar_value (apply op (wide i) (p i).num (q i).num (r i).num)

  -- from two lists of values, the same below k
  same-value : (op : Op) → placed_as (fields_of (rank_of op)) k t ≡ true → value_by I v n t op ≡ value_by I v' n' t op
  unfolding value_by
  same-value Constant h = refl
  same-value Variable h = refl
  same-value (Apply f) h = same-operated (Apply f) (rank_below (function_rank f) k t h)
  same-value Ite h =
      let place = three_placed k t h in
      let p = same t.p place.0 in
      let q = same t.q place.1 in
      let r = same t.r place.2 in
      λ i. cond (holds (p i).num) (q i) (r i)
  same-value Select h =
      let place = two_placed k t h in
      let p = same t.p place.0 in
      let q = same t.q place.1 in
      λ i. scalar_value ((p i).cell (q i).num)
  same-value Store h =
      let place = three_placed k t h in
      let p = same t.p place.0 in
      let q = same t.q place.1 in
      let r = same t.r place.2 in
      λ i. array_value (λ j. cond (eqb (q i).num j) (r i).num ((p i).cell j))
  same-value Unknown h = refl

-- past a table's end stand constants
placed_at : (limit : ℕ) (f : List ℕ) → WellFormed limit f → (k : ℕ) → placed_as (fields (term_at f k)) k (term_at f k) ≡ true
placed_at limit f ff k = go (dec_lt k (terms f))
  where
    go : Dec (k < terms f) → placed_as (fields (term_at f k)) k (term_at f k) ≡ true
    go (yes b) = (ff.sound k b).is_placed
    go (no b) = let e : terms f ≤ k = omega arith in rw (past_end limit f ff k 0 e, past_end limit f ff k 4 e, past_end limit f ff k 5 e)

-- a term's value is what its operator makes of its operands' values
value_law : (limit : ℕ) (f : List ℕ) (I : Interpretation) → WellFormed limit f → (k : ℕ) → value_at f I k ≡ value_from f I (value_at f I) (term_at f k)
value_law limit f I ff k =
    let t = term_at f k in
    same-value I (value_in (values f I k)) (value_at f I) (sort_at f t.p).n (sort_at f t.p).n k t (value-below f I k) (λ _. refl) (op_of t.op) (placed_at limit f ff k)

-- The terms of the table keep their values

module _ (w f : List ℕ) (I : Interpretation) (wf : WellFormed 512 w) (l : Layout w f) where
  keeps_within : (n k : ℕ) → k < n → k < terms w → value_at f I k ≡ value_at w I k
  keeps_within zero k b c = absurd (not-suc-le-zero b)
  keeps_within (suc n) k b c =
      let t = term_at w k in
      ap (λ (x : Term). value_from f I (value_in (values f I k)) x) (l.old k c)
      ∙ same-value I (value_in (values f I k)) (value_in (values w I k)) (sort_at f t.p).n (sort_at w t.p).n k t
      (λ i m. value-below f I k i m ∙ keeps_within n i (omega arith) (omega arith) ∙ sym (value-below w I k i m))
      (λ m. ap (λ (x : Term). x.sort.n) (l.old t.p (omega arith)))
      (op_of t.op) (wf.sound k c).is_placed

  pub keeps_values : (k : ℕ) → k < terms w → value_at f I k ≡ value_at w I k
  keeps_values k b = keeps_within (suc k) k (omega arith) b

-- Plan and condition of one term

-- At a plan's number stands the condition, of all but arrays that stand on others; the last term of a read's group is the condition
-- of that read.
record Agree (f : List ℕ) (val : ℕ → Value) (builds : Bool) (sort : Sort) (plan : Plan) (c : Condition) : Type 0 where
  own : builds ≡ false → (val plan.condition).num ≡ bit c.free
  read : array sort ≡ true → (s : ℕ) {j cj x : ℕ} {d : Bool} → Known val j cj x d → Has f s (plan.read_group s j cj) → (val (last_of s (plan.read_group s j cj))).num ≡ bit (c.read_free x d)

module _ (f : List ℕ) (I : Interpretation) (val : ℕ → Value) (law : (k : ℕ) → val k ≡ value_from f I val (term_at f k)) where
  -- a read asks for its condition and the index's
  plain_agrees : {builds : Bool} {sort : Sort} {group : List Term} {n : ℕ} {x : Bool} → (val n).num ≡ bit x
      → Agree f val builds sort (record { group = group; condition = n; read_group = λ s j cj. variable_group n cj }) (plain x)
  plain_agrees {n = n} {x = x} e =
      let itself : Known val n n (val n).num x = record { value = refl; free = e } in
      record { own = λ _. e; read = λ _ s index h. strict_group_lem f I val law s itself index h }

  -- t, of number k, with its operands' values v, conditions c, plans and sorts; yes and no are the numbers of T and F
  module _ (yes no : ℕ) (yes_is : (val yes).num ≡ 1) (no-is : (val no).num ≡ 0)
      (v : ℕ → Value) (c : ℕ → Condition) (plan : ℕ → Plan) (builds : ℕ → Bool) (sorts : ℕ → Sort) (k b : ℕ) (t : Term)
      (same : (i : ℕ) → i < k → val i ≡ v i)
      (before : (i : ℕ) → i < k → Agree f val (builds i) (sorts i) (plan i) (c i))
      (scalars : (i : ℕ) → i < k → scalar (sorts i) ≡ true → builds i ≡ false) where
    -- what is known of an operand that is no array
    abbrev Operand : ℕ → Type 0
    Operand i = Known val i (plan i).condition (v i).num (c i).free

    operand : (i : ℕ) → i < k → scalar (sorts i) ≡ true → Operand i
    operand i l s = record { value = ap (λ (x : Value). x.num) (same i l); free = (before i l).own (scalars i l s) }

    -- C of a variable, by its mark
    mark_is : (m : Bool) → (val (cond m no yes)).num ≡ bit (not m)
    mark_is true = no-is
    mark_is false = yes_is

    -- a read of a store: after the group of the array beneath, its own
    store-read : t.p < k → array (sorts t.p) ≡ true → Operand t.q → Operand t.r
        → (s : ℕ) {j cj x : ℕ} {d : Bool} → Known val j cj x d → Has f s (store_read own_marks yes no plan b (sorts t.p).n t s j cj)
        → (val (last_of s (store_read own_marks yes no plan b (sorts t.p).n t s j cj))).num ≡ bit (store_free own_marks v c (sorts t.p).n t x d)
    store-read l over at stored s {j} {cj} {x} {d} index h =
        let under = (plan t.p).read_group s j cj in
        let own = store_group (s + length under) t.sort.n t.p t.q t.r j (plan t.q).condition (plan t.r).condition cj (last_of s under) in
        let count : length (under ++ own) ≡ length under + 9 = length-append under own in
        let last : last_of s (under ++ own) ≡ s + length under + 8 = ap (λ (n : ℕ). s + pred n) count ∙ omega arith in
        ap (λ (n : ℕ). (val n).num) last
        ∙ store_group_lem f I val law (s + length under) t.sort.n ((c t.p).read_free x d) (same t.p l) at stored index
        ((before t.p l).read over s index (has_left f s under own h)) (has_right f s under own h)

    -- a read of a choice between arrays: after the groups of both, its own
    choice-read : t.q < k → t.r < k → array (sorts t.q) ≡ true → array (sorts t.r) ≡ true → Operand t.p
        → (s : ℕ) {j cj x : ℕ} {d : Bool} → Known val j cj x d → Has f s (choice_read own_marks yes no plan b (sorts t.p).n t s j cj)
        → (val (last_of s (choice_read own_marks yes no plan b (sorts t.p).n t s j cj))).num ≡ bit (choice_free own_marks v c (sorts t.p).n t x d)
    choice-read l m over-q over-r test s {j} {cj} {x} {d} index h =
        let q = (plan t.q).read_group s j cj in
        let r = (plan t.r).read_group (s + length q) j cj in
        let own = array_choice_group (s + length q + length r) t.sort.n t.p t.q t.r j (plan t.p).condition (last_of s q) (last_of (s + length q) r) in
        let rest : Has f (s + length q) (r ++ own) = has_right f s q (r ++ own) h in
        let count : length (q ++ (r ++ own)) ≡ length q + (length r + 8) = length-append q (r ++ own) ∙ ap (λ (n : ℕ). length q + n) (length-append r own) in
        let last : last_of s (q ++ (r ++ own)) ≡ s + length q + length r + 7 = ap (λ (n : ℕ). s + pred n) count ∙ omega arith in
        ap (λ (n : ℕ). (val n).num) last
        ∙ array-choice_group f I val law (s + length q + length r) t.sort.n ((c t.q).read_free x d) ((c t.r).read_free x d) test (same t.q l) (same t.r m) index
        ((before t.q l).read over-q s index (has_left f s q (r ++ own) h)) ((before t.r m).read over-r (s + length q) index (has_left f (s + length q) r own rest))
        (has_right f (s + length q) r own rest)

    choice_sorts : typed_as Choice t.sort (sorts t.p) (sorts t.q) (sorts t.r) ≡ true
        → (boolean (sorts t.p) ≡ true) × (same_sort (sorts t.q) t.sort ≡ true) × (same_sort (sorts t.r) t.sort ≡ true)
    choice_sorts h = three (boolean (sorts t.p)) (same_sort (sorts t.q) t.sort) (same_sort (sorts t.r) t.sort) h

    -- two operands
    both : (r : FunctionRank two) → typed_as (applied r) t.sort (sorts t.p) (sorts t.q) (sorts t.r) ≡ true → (t.p < k) × (t.q < k) × (t.r < k) → Operand t.p × Operand t.q
    both r h place =
        let s = binary_scalars r t.sort (sorts t.p) (sorts t.q) (sorts t.r) h in
        (operand t.p place.0 s.0, operand t.q place.1 s.1)

    vector-width : typed_as BvBinary t.sort (sorts t.p) (sorts t.q) (sorts t.r) ≡ true → t.sort.n ≡ (sorts t.p).n
    vector-width h = sym (same_sort_lem (sorts t.p) t.sort (three (vector t.sort) (same_sort (sorts t.p) t.sort) (same_sort (sorts t.q) t.sort) h).1).n

    -- a function, by its kind of group
    agree_function : (o : Operation) (r : FunctionRank (arity o)) (g : FunctionGroup o r) → typed_as (applied r) t.sort (sorts t.p) (sorts t.q) (sorts t.r) ≡ true
        → (t.p < k) × (t.q < k) × (t.r < k) → Has f b (plan_by own_marks yes no plan b (sorts t.p).n t (group_kind g)).group
        → Agree f val false t.sort (plan_by own_marks yes no plan b (sorts t.p).n t (group_kind g)) (plain (operation_condition o (sorts t.p).n (v t.p).num (v t.q).num (c t.p).free (c t.q).free))
    unfolding plan_by
    agree_function o r unary h place has = plain_agrees (operand t.p place.0 (unary_scalar r t.sort (sorts t.p) (sorts t.q) (sorts t.r) h)).free
    agree_function o r strict h place has = let e = both r h place in plain_agrees (strict_group_lem f I val law b e.0 e.1 has)
    agree_function o r conjunction h place has = let e = both r h place in plain_agrees (and_group_lem f I val law b e.0 e.1 has)
    agree_function o r disjunction h place has = let e = both r h place in plain_agrees (or_group_lem f I val law b e.0 e.1 has)
    agree_function o r implication h place has = let e = both r h place in plain_agrees (implies_group_lem f I val law b e.0 e.1 has)
    agree_function o r by_zero h place has = let e = both r h place in plain_agrees (absorbing_group_lem f I val law b e.0 e.1 t.sort.n 0 0 refl has)
    agree_function o r by_ones h place has =
        let e = both r h place in
        plain_agrees (absorbing_group_lem f I val law b e.0 e.1 t.sort.n (ones t.sort.n) (ones (sorts t.p).n) (ap ones (vector-width h)) has)
    agree_function o r by_bounds h place has = let e = both r h place in plain_agrees (bounds_group_lem f I val law b e.0 e.1 (sorts t.p).n (ones (sorts t.p).n) 0 has)
    agree_function o r by_signed h place has = let e = both r h place in plain_agrees (bounds_group_lem f I val law b e.0 e.1 (sorts t.p).n (greatest (sorts t.p).n) (least (sorts t.p).n) has)
    agree_function o r by_fixed h place has =
        let e = both r h place in
        plain_agrees (fixed_group f I val law b e.0 e.1 t.sort.n (ones t.sort.n) (ones (sorts t.p).n) (ap ones (vector-width h)) has)
    agree_function o r shift h place has = let e = both r h place in plain_agrees (shift_group_lem f I val law b e.0 e.1 t.sort.n (sorts t.p).n (vector-width h) has)

    -- a choice, between arrays or not
    agree_choice : typed_as Choice t.sort (sorts t.p) (sorts t.q) (sorts t.r) ≡ true → (t.p < k) × (t.q < k) × (t.r < k) → (z : Bool) → array t.sort ≡ z
        → Has f b (choice_plan own_marks yes no plan b (sorts t.p).n t z).group
        → Agree f val z t.sort (choice_plan own_marks yes no plan b (sorts t.p).n t z)
        (record { free = not z && settled own_marks v c (sorts t.p).n t Ite; read_free = choice_free own_marks v c (sorts t.p).n t })
    unfolding settles
    agree_choice h l true a has =
        let s = choice_sorts h in
        record {
          own = λ z. never (sym z);
          read = λ _. choice-read l.1 l.2 (same-array (sorts t.q) t.sort s.1 a) (same-array (sorts t.r) t.sort s.2 a) (operand t.p l.0 (boolean-scalar (sorts t.p) s.0));
        }
    agree_choice h l false a has =
        let s = choice_sorts h in
        let z = no-array t.sort a in
        record {
          own = λ _. choice_group_lem f I val law b (operand t.p l.0 (boolean-scalar (sorts t.p) s.0)) (operand t.q l.1 (same-scalar (sorts t.q) t.sort s.1 z))
              (operand t.r l.2 (same-scalar (sorts t.r) t.sort s.2 z)) has;
          read = λ r. absurd (not-array t.sort z r);
        }

    -- the term, by its operator
    agree_by : (op : Op) → is_known op ≡ true → typed_as (rank_of op) t.sort (sorts t.p) (sorts t.q) (sorts t.r) ≡ true → placed_as (fields_of (rank_of op)) k t ≡ true
        → Has f b (plan_by own_marks yes no plan b (sorts t.p).n t (kind_of op)).group
        → Agree f val (writes op || (picks op && array t.sort)) t.sort (plan_by own_marks yes no plan b (sorts t.p).n t (kind_of op)) (condition_by own_marks v c (sorts t.p).n t op)
    unfolding plan_by condition_by settles is_known
    agree_by Constant known h place has = plain_agrees yes_is
    agree_by Variable known h place has = plain_agrees (mark_is (own_marks t))
    agree_by (Apply f') known h place has = agree_function (operation f') (function_rank f') (function_group f') h (rank_below (function_rank f') k t place) has
    agree_by Ite known h place has = agree_choice h (three_placed k t place) (array t.sort) refl has
    agree_by Select known h place has =
        let l = two_placed k t place in
        let s = three (array (sorts t.p)) (vector_of (sorts t.p).m (sorts t.q)) (vector_of (sorts t.p).n t.sort) h in
        plain_agrees ((before t.p l.0).read s.0 b (operand t.q l.1 (vector_of-scalar (sorts t.p).m (sorts t.q) s.1)) has)
    agree_by Store known h place has =
        let l = three_placed k t place in
        let s = four (array t.sort) (same_sort (sorts t.p) t.sort) (vector_of t.sort.m (sorts t.q)) (vector_of t.sort.n (sorts t.r)) h in
        record {
          own = λ z. never (sym z);
          read = λ a. store-read l.0 (same-array (sorts t.p) t.sort s.1 a) (operand t.q l.1 (vector_of-scalar t.sort.m (sorts t.q) s.2)) (operand t.r l.2 (vector_of-scalar t.sort.n (sorts t.r) s.3));
        }
    agree_by Unknown known h place has = never known

-- The table, term by term

both_false : {a b : Bool} → (a ≡ false) × (b ≡ false) → a || b ≡ false
both_false (a, b) = ap₂ ◌||◌ a b

module _ (w f : List ℕ) (I : Interpretation) (wf : WellFormed 512 w) (l : Layout w f) (ff : WellFormed 80000 f) where
  -- an array that stands on others: a store, or a choice
  abbrev builds : ℕ → Bool
  builds k = is_store (term_at w k) || is_choice (term_at w k)

  abbrev AgreeAt : ℕ → Type 0
  AgreeAt k = Agree f (value_at f I) (builds k) (sort_at w k) (plan_at w own_marks k) (condition_at w own_marks I k)

  -- what the lists of the first k terms say of term i
  abbrev AgreeIn : ℕ → ℕ → Type 0
  AgreeIn k i = Agree f (value_at f I) (builds i) (sort_at w i) (plan_in (plans w own_marks k) i) (condition_in (conditions w own_marks I k) i)

  agree_in : (k i : ℕ) → i < k → AgreeAt i → AgreeIn k i
  agree_in k i b h =
      subst (λ (p : Plan). Agree f (value_at f I) (builds i) (sort_at w i) p (condition_in (conditions w own_marks I k) i)) (sym (fold-below (λ ps j. plan_of w own_marks ps (term_at w j)) (taken 0) k i b))
      (subst (λ (c : Condition). Agree f (value_at f I) (builds i) (sort_at w i) (plan_at w own_marks i) c) (sym (condition_below w own_marks I k i b)) h)

  -- a scalar is neither
  pub scalar_neither : (k : ℕ) → k < terms w → scalar (sort_at w k) ≡ true → (is_store (term_at w k) ≡ false) × (is_choice (term_at w k) ≡ false)
  scalar_neither k b z =
      let t = term_at w k in
      let m_is : (sort_at w k).m ≡ 0 = eqb-true (sort_at w k).m 0 z in (
        no_store (op_of t.op) t.sort (sort_at w t.p) (sort_at w t.q) (sort_at w t.r) (typing w k (wf.sound k b)) z,
        ap (λ (m : ℕ). picks (op_of t.op) && ltb 0 m) m_is ∙ and_shut (picks (op_of t.op)),
      )

  -- one term, those before it being known to agree
  agree_step : (k : ℕ) → k < terms w → ((i : ℕ) → i < k → AgreeAt i) → AgreeAt k
  agree_step k b before =
      let s = wf.sound k b in
      let law = value_law 80000 f I ff in
      agree_by f I (value_at f I) law (terms w) (terms w + 1) (constant_num f I (value_at f I) law (true_at w f l)) (constant_num f I (value_at f I) law (false_at w f l))
      (value_in (values w I k)) (condition_in (conditions w own_marks I k)) (plan_in (plans w own_marks k)) builds (sort_at w) k (next w (plans w own_marks k)) (term_at w k)
      (λ i m. keeps_values w f I wf l i (omega arith) ∙ sym (value-below w I k i m))
      (λ i m. agree_in k i m (before i m))
      (λ i m z. both_false (scalar_neither i (omega arith) z))
      (op_of (term_at w k).op) (op_at w k s) (typing w k s) s.is_placed (group_has w f l k b)

  -- every term, by induction
  agree_within : (n k : ℕ) → k < n → k < terms w → AgreeAt k
  agree_within zero k b c = absurd (not-suc-le-zero b)
  agree_within (suc n) k b c = agree_step k c (λ i m. agree_within n i (omega arith) (omega arith))

  -- of every term that has a condition, the value at the condition's number is the condition
  pub conditions_agree : (k : ℕ) → k < terms w → is_store (term_at w k) ≡ false → is_choice (term_at w k) ≡ false → (value_at f I (condition_number w k)).num ≡ bit (condition_at w own_marks I k).free
  conditions_agree k b s c = (agree_within (suc k) k (omega arith) b).own (both_false (s, c))

  -- the last value is the conjunction of rule and condition
  pub last_agrees : (value_at f I (next w (plans w own_marks (terms w)))).num ≡ bit (holds (value_at w I (pred (terms w))).num && (condition_at w own_marks I (pred (terms w))).free)
  last_agrees =
      let some : 0 < terms w = wf.some in
      let rule = pred (terms w) in
      let b : rule < terms w = omega arith in
      let none = scalar_neither rule b (boolean-scalar (sort_at w rule) wf.rule) in
      let condition = conditions_agree rule b none.0 none.1 in
      and_num f I (value_at f I) (value_law 80000 f I ff) (last_at w f l)
      ∙ ap₂ (λ (x : Value) (y : Bool). bit (holds x.num && y)) (keeps_values w f I wf l rule b) (ap holds condition ∙ holds-bit (condition_at w own_marks I rule).free)
