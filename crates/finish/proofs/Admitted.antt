-- A finished table is one that evaluate admits: every term of the table stays sound, and every added one is.
-- Assumes nothing.
use mathlib.Core.Path.{◌≡◌, refl, sym, ap, ap₂, subst, ◌∙◌}
use mathlib.Core.Bool.{Bool, true, false, cond, ◌&&◌}
use mathlib.Core.List.{List, ◌++◌}
use Prim.Native.Nat.{ℕ, zero, suc, pred, ◌+◌, ◌-◌, ◌^◌, ◌≤◌, ◌<◌}
use native.Mathlib.Decide.{dec_lt, ℕ_discrete}
use native.Mathlib.Nat.{not-suc-le-zero, add-zero}
use native.Mathlib.Omega.{arith}
use lib.Dec.{eqb, ltb}
use lib.ListN.{length, get_or}
use lib.Pow.{pow_pos, ones_lt, pow-lt}
use borrow.Author.Tests.{eqb-true, ltb-true, ltb-false, lt-ltb, le-leb, eq-eqb, ne_eqb}
use Rattle.ops.specs.declared.Op.{Op}
use Rattle.ops.specs.declared.Op.TheVariants.{Constant, Variable, Apply, Ite, Select, Store, Unknown}
use Rattle.ops.specs.Numbers.{op_of}
use Rattle.ops.specs.Meaning.{Operation, ones, operation}
use Rattle.ops.specs.Signed.{greatest, least}
use Rattle.ops.specs.Ranks.{FunctionRank, arity, function_rank}
use Rattle.ops.specs.Fits.{fits}
use Rattle.ops.proofs.Booleans.{never, and_parts}
use Rattle.ops.proofs.Widths.{fits_below}
use Rattle.table.specs.declared.ranks.Rank.{Rank}
use Rattle.table.specs.declared.ranks.Rank.TheVariants.{Literal, Input, BoolUnary, BoolBinary, Equality, Choice, BvUnary, BvBinary, BvCompare, Read, Write, Other}
use Rattle.table.specs.declared.words.Sort.{Sort}
use Rattle.table.specs.declared.words.Term.{Term}
use Rattle.table.specs.Terms.{terms, term_at, sort_at, boolean, vector, scalar, array, vector_of, same_sort}
use Rattle.table.specs.Folds.{fold, any_below}
use Rattle.table.specs.Ranks.{applied, rank_of, fields_of}
use Rattle.table.specs.Faults.{rank, fields, is_variable, is_store, is_choice, known, sorted, placed_as, typed_as, typed, valued_as, conflicts, clash, size_within}
use Rattle.table.specs.WellFormed.{Sound, WellFormed}
use Rattle.table.proofs.FoldLaws.{fold-below}
use Rattle.table.proofs.SoundTerms.{widths, n_most_at, stacked}
use Rattle.table.proofs.Sizes.{size_end, size-store, size-choice, size_none}
use Rattle.table.proofs.OperandSorts.{is_known, op_at, not-array, SameSort, same_sort_lem, vector-scalar, three, four, unary_scalar, binary_scalars, two_placed, three_placed, one_below, rank_below}
use Rattle.evaluate.proofs.Meaning.{same-array}
use Rattle.sheets.specs.Marks.{own_marks}
use Rattle.groups.specs.Added.{and_t, constant_t}
use Rattle.groups.specs.Groups.{absorbing_group, bounds_group, shift_group, choice_group, store_group, array_choice_group}
use Rattle.groups.specs.FunctionGroups.{FunctionGroup, function_group, group_kind, kind_of}
use Rattle.groups.specs.FunctionGroups.FunctionGroup.{unary, strict, conjunction, disjunction, implication, by_zero, by_ones, by_bounds, by_signed, by_fixed, shift}
use Rattle.groups.specs.Plans.{Plan, last_of, taken, built, grown, store_read, choice_read, plan_by, plan_in, groups, next, plan_of, plans, plan_at}
use Rattle.groups.proofs.GroupSizes.{choice_plan, next_more}
use Rattle.finish.specs.Finished.{condition_number}
use Rattle.finish.proofs.Layouts.{Has, has_left, has_right, Layout, true_at, false_at, group_has, count_is, last_at}
use Rattle.finish.proofs.Good.{Below, later, Good, good_sound, and_good, constant_good, AllGood, GoodGroup, append_good, strict_good, conjunction_good, disjunction_good, implication_good, absorbing_good, bounds_good, shift_good, choosing_good, store_good, array-choice_good}

-- The table's own terms

-- the tests of sorts look at operands only, which stand below
module _ (k : ℕ) (x : Term) (s t : ℕ → Sort) (e : (i : ℕ) → i < k → s i ≡ t i) where
  two_same : (r : Rank) (c : Sort) → (x.p < k) × (x.q < k) → typed_as r x.sort (s x.p) (s x.q) c ≡ typed_as r x.sort (t x.p) (t x.q) c
  two_same r c place = λ i. typed_as r x.sort (e x.p place.0 i) (e x.q place.1 i) c

  three_same : (r : Rank) → (x.p < k) × (x.q < k) × (x.r < k) → typed_as r x.sort (s x.p) (s x.q) (s x.r) ≡ typed_as r x.sort (t x.p) (t x.q) (t x.r)
  three_same r place = λ i. typed_as r x.sort (e x.p place.0 i) (e x.q place.1 i) (e x.r place.2 i)

  typed-same : (r : Rank) → placed_as (fields_of r) k x ≡ true → typed_as r x.sort (s x.p) (s x.q) (s x.r) ≡ typed_as r x.sort (t x.p) (t x.q) (t x.r)
  typed-same Literal place = refl
  typed-same Input place = refl
  typed-same BoolUnary place = ap (λ (a : Sort). typed_as BoolUnary x.sort a a a) (e x.p (one_below k x place).0)
  typed-same BoolBinary place = two_same BoolBinary (s x.r) (two_placed k x place)
  typed-same Equality place = two_same Equality (s x.r) (two_placed k x place)
  typed-same Choice place = three_same Choice (three_placed k x place)
  typed-same BvUnary place = ap (λ (a : Sort). typed_as BvUnary x.sort a a a) (e x.p (one_below k x place).0)
  typed-same BvBinary place = two_same BvBinary (s x.r) (two_placed k x place)
  typed-same BvCompare place = two_same BvCompare (s x.r) (two_placed k x place)
  typed-same Read place = two_same Read (s x.r) (two_placed k x place)
  typed-same Write place = three_same Write (three_placed k x place)
  typed-same Other place = refl

any_same : (n : ℕ) (g h : ℕ → Bool) → ((k : ℕ) → k < n → g k ≡ h k) → any_below n g ≡ any_below n h
unfolding any_below
any_same zero g h e = refl
any_same (suc n) g h e = rw (any_same n g h (λ k b. e k (omega arith)), e n (omega arith))

module _ (limit : ℕ) (w f : List ℕ) (F : WellFormed limit w) (l : Layout w f) where
  -- terms below terms w are those of w
  sort_same : (i : ℕ) → i < terms w → sort_at f i ≡ sort_at w i
  sort_same i b = ap (λ (x : Term). x.sort) (l.old i b)

  typed_in : (k : ℕ) → k < terms w → typed f (term_at w k) ≡ true
  unfolding typed
  typed_in k b =
      typed-same k (term_at w k) (sort_at f) (sort_at w) (λ i c. sort_same i (omega arith)) (rank (term_at w k)) (F.sound k b).is_placed
      ∙ (F.sound k b).is_typed

  clash-same : (k : ℕ) → k < terms w → clash f k ≡ clash w k
  unfolding clash
  clash-same k b =
      ap (λ (x : Term). is_variable x && any_below k (λ i. is_variable (term_at f i) && conflicts (term_at f i) x)) (l.old k b)
      ∙ ap (λ (z : Bool). is_variable (term_at w k) && z)
      (any_same k (λ i. is_variable (term_at f i) && conflicts (term_at f i) (term_at w k)) (λ i. is_variable (term_at w i) && conflicts (term_at w i) (term_at w k))
      (λ i c. ap (λ (x : Term). is_variable x && conflicts x (term_at w k)) (l.old i (omega arith))))

  size_same : (left k : ℕ) → k < terms w → size_within left f k ≡ size_within left w k
  size_same zero k b = size_end f k ∙ sym (size_end w k)
  size_same (suc left) k b = go (is_store (term_at w k)) (is_choice (term_at w k)) refl refl (λ i c. size_same left i (omega arith))
    where
      same : term_at f k ≡ term_at w k
      same = l.old k b

      go : (z y : Bool) → is_store (term_at w k) ≡ z → is_choice (term_at w k) ≡ y → ((i : ℕ) → i < k → size_within left f i ≡ size_within left w i)
          → size_within (suc left) f k ≡ size_within (suc left) w k
      go true y s c before =
          size-store left f k (ap is_store same ∙ s)
          ∙ ap (λ (x : Term). suc (size_within left f x.p)) same
          ∙ ap suc (before (term_at w k).p ((stacked limit w F).stored k s))
          ∙ sym (size-store left w k s)
      go false true s c before =
          size-choice left f k (ap is_choice same ∙ c)
          ∙ ap (λ (x : Term). suc (size_within left f x.q + size_within left f x.r)) same
          ∙ ap₂ (λ (m n : ℕ). suc (m + n)) (before (term_at w k).q ((stacked limit w F).first k c)) (before (term_at w k).r ((stacked limit w F).second k c))
          ∙ sym (size-choice left w k c)
      go false false s c before = size_none left f k (ap is_store same ∙ s) (ap is_choice same ∙ c) ∙ sym (size_none left w k s c)

  old_sound : (k : ℕ) → k < terms w → Sound f k
  old_sound k b =
      let e = l.old k b in
      let s = F.sound k b in
      record {
        is_known = ap known e ∙ s.is_known;
        is_sorted = ap (λ (x : Term). sorted x.sort) e ∙ s.is_sorted;
        is_placed = ap (λ (x : Term). placed_as (fields x) k x) e ∙ s.is_placed;
        is_typed = ap (typed f) e ∙ typed_in k b;
        is_valued = ap (λ (x : Term). valued_as (fields x) x) e ∙ s.is_valued;
        no-clash = clash-same k b ∙ s.no-clash;
        short = subst (λ (c : ℕ). c ≤ 16) (sym (size_same 17 k b)) s.short;
      }

-- One plan

-- Of a plan of a term of sort s: a scalar's condition is a Boolean before b; and a read of an array, from b on, adds good terms.
record Fine (f : List ℕ) (b : ℕ) (s : Sort) (plan : Plan) : Type 0 where
  condition : scalar s ≡ true → Below f b plan.condition 0 0
  reads : array s ≡ true → (c j cj : ℕ) → b ≤ c → Below f c j 0 s.m → Below f c cj 0 0 → Has f c (plan.read_group c j cj) → GoodGroup f c (plan.read_group c j cj)

fine_later : {f : List ℕ} {b : ℕ} {s : Sort} {plan : Plan} (b' : ℕ) → b ≤ b' → Fine f b s plan → Fine f b' s plan
fine_later b' h p = record { condition = λ z. later b' h (p.condition z); reads = λ a c j cj k. p.reads a c j cj (omega arith) }

-- the terms that it adds are good, and after them it is fine
record Planned (f : List ℕ) (b : ℕ) (s : Sort) (plan : Plan) : Type 0 where
  all : AllGood f b plan.group
  fine : Fine f (b + length plan.group) s plan

-- what the added constants ask of their width
below_power : (n : ℕ) → n < 2 ^ n
below_power zero = omega arith
below_power (suc n) = omega (arith, below_power n)

least_lt : (n : ℕ) → 0 < n → least n < 2 ^ n
least_lt n some = pow-lt {i = n - 1} {j = n} (omega arith)

greatest-lt : (n : ℕ) → 0 < n → greatest n < 2 ^ n
greatest-lt n some = omega (arith, least_lt n some)

vector-sorted : (n : ℕ) → 0 < n → n ≤ 32 → sorted (constant_t n 0).sort ≡ true
vector-sorted n some most = rw (ne_eqb n 0 (λ z. omega arith), lt-ltb 0 n some, le-leb n 32 most)

-- a sort that is no array's
pub no-array : (s : Sort) → array s ≡ false → scalar s ≡ true
no-array s h = let z : s.m ≤ 0 = ltb-false 0 s.m h in eq-eqb s.m 0 (omega arith)

-- the plan of a term t that stands at k, from the plans of those before it
module _ (f : List ℕ) (marked : Term → Bool) (n k b : ℕ) (plan : ℕ → Plan) (width : ℕ) (t : Term) (width_is : t.p < k → (sort_at f t.p).n ≡ width) (width-most : width ≤ 32) (YES : Below f b n 0 0) (NO : Below f b (n + 1) 0 0) (k-most : k ≤ b)
    (earlier : (i : ℕ) → i < k → Fine f b (sort_at f i) (plan i)) (sort : sorted t.sort ≡ true) where
  -- the numbers of the operands' conditions
  abbrev cp : ℕ
  cp = (plan t.p).condition

  abbrev cq : ℕ
  cq = (plan t.q).condition

  abbrev cr : ℕ
  cr = (plan t.r).condition

  -- the term's sorts are as a rank asks
  abbrev typed_by : Rank → Bool
  typed_by r = typed_as r t.sort (sort_at f t.p) (sort_at f t.q) (sort_at f t.r)

  -- a condition that stands already; and one that is the last of a group
  taken_planned : (c : ℕ) → Below f b c 0 0 → Planned f b t.sort (taken c)
  taken_planned c C =
      record {
        all = λ i l. absurd (not-suc-le-zero l);
        fine = record { condition = λ z. later (b + 0) (omega arith) C; reads = λ a s j cj m J CJ h. strict_good f s (later s (omega arith) C) CJ h };
      }

  grown_planned : {xs : List Term} → GoodGroup f b xs → Planned f b t.sort (grown marked n (n + 1) plan b width t xs)
  grown_planned g =
      record {
        all = g.all;
        fine = record { condition = λ z. g.last; reads = λ a s j cj m J CJ h. strict_good f s (later s m g.last) CJ h };
      }

  -- an operand: itself, and the number of its condition
  record Operand (i wide : ℕ) : Type 0 where
    value : Below f b i 0 wide
    free : Below f b (plan i).condition 0 0

  operand : (i wide : ℕ) → i < k → (sort_at f i).m ≡ 0 → (sort_at f i).n ≡ wide → Operand i wide
  operand i wide c zm is =
      record {
        value = record { before = omega arith; m_is = zm; n_is = is };
        free = (earlier i c).condition (eq-eqb (sort_at f i).m 0 zm);
      }

  -- of a scalar sort s; a vector of a width, which is 0 for a Boolean
  same_operand : (i : ℕ) (s : Sort) → i < k → scalar s ≡ true → SameSort (sort_at f i) s → Operand i s.n
  same_operand i s c z same = operand i s.n c (same.m ∙ eqb-true s.m 0 z) same.n

  width-operand : (i wide : ℕ) → i < k → vector_of wide (sort_at f i) ≡ true → Operand i wide
  width-operand i wide c h =
      let parts = and_parts (eqb (sort_at f i).m 0) (eqb (sort_at f i).n wide) h in
      operand i wide c (eqb-true (sort_at f i).m 0 parts.0) (eqb-true (sort_at f i).n wide parts.1)

  -- of terms with two operands
  two_booleans : (t.p < k) × (t.q < k) → typed_by BoolBinary ≡ true → Operand t.p 0 × Operand t.q 0
  two_booleans place h =
      let parts = three (boolean t.sort) (boolean (sort_at f t.p)) (boolean (sort_at f t.q)) h in
      (width-operand t.p 0 place.0 parts.1, width-operand t.q 0 place.1 parts.2)

  two_vectors : (t.p < k) × (t.q < k) → typed_by BvBinary ≡ true → Operand t.p t.sort.n × Operand t.q t.sort.n
  two_vectors place h =
      let parts = three (vector t.sort) (same_sort (sort_at f t.p) t.sort) (same_sort (sort_at f t.q) t.sort) h in
      let z = vector-scalar t.sort parts.0 in
      (same_operand t.p t.sort place.0 z (same_sort_lem (sort_at f t.p) t.sort parts.1), same_operand t.q t.sort place.1 z (same_sort_lem (sort_at f t.q) t.sort parts.2))

  -- of a vector: its width
  vector-width : typed_by BvBinary ≡ true → (0 < t.sort.n) × (sorted (constant_t t.sort.n 0).sort ≡ true)
  vector-width h =
      let own = (three (vector t.sort) (same_sort (sort_at f t.p) t.sort) (same_sort (sort_at f t.q) t.sort) h).0 in
      let some : 0 < t.sort.n = ltb-true 0 t.sort.n (and_parts (eqb t.sort.m 0) (ltb 0 t.sort.n) own).1 in
      (some, vector-sorted t.sort.n some (widths t.sort sort).n_most)

  -- by the kinds of groups
  absorbing_planned : (value : ℕ) → fits t.sort.n value ≡ true → (t.p < k) × (t.q < k) → typed_by BvBinary ≡ true
      → Has f b (absorbing_group b t.sort.n value t.p t.q cp cq)
      → Planned f b t.sort (grown marked n (n + 1) plan b width t (absorbing_group b t.sort.n value t.p t.q cp cq))
  absorbing_planned value fit place h has =
      let o = two_vectors place h in
      let wide = vector-width h in
      grown_planned (absorbing_good f b o.0.free o.1.free wide.1 o.1.value o.0.value value fit has)

  -- the constants u and v fit the operands' width
  bounds_planned : (u v : ℕ) → (0 < width → (u < 2 ^ width) × (v < 2 ^ width)) → (t.p < k) × (t.q < k) → typed_by BvCompare ≡ true
      → Has f b (bounds_group b width u v t.p t.q cp cq cq) → Planned f b t.sort (grown marked n (n + 1) plan b width t (bounds_group b width u v t.p t.q cp cq cq))
  bounds_planned u v fit place h has =
      let parts = three (boolean t.sort) (vector (sort_at f t.p)) (same_sort (sort_at f t.p) (sort_at f t.q)) h in
      let own = and_parts (eqb (sort_at f t.p).m 0) (ltb 0 (sort_at f t.p).n) parts.1 in
      let same = same_sort_lem (sort_at f t.p) (sort_at f t.q) parts.2 in
      let is = width_is place.0 in
      let some : 0 < (sort_at f t.p).n = ltb-true 0 (sort_at f t.p).n own.1 in
      let below = fit (omega arith) in
      let zero-m = eqb-true (sort_at f t.p).m 0 own.0 in
      let p = operand t.p width place.0 zero-m is in
      let q = operand t.q width place.1 (sym same.m ∙ zero-m) (sym same.n ∙ is) in
      grown_planned (bounds_good f b p.free q.free (vector-sorted width (omega arith) width-most) q.value p.value q.value q.free u v
      (fits_below width u below.0) (fits_below width v below.1) has)

  fixed_planned : (t.p < k) × (t.q < k) → typed_by BvBinary ≡ true
      → Has f b (bounds_group b t.sort.n 0 (ones t.sort.n) t.p t.p cp cp cq)
      → Planned f b t.sort (grown marked n (n + 1) plan b width t (bounds_group b t.sort.n 0 (ones t.sort.n) t.p t.p cp cp cq))
  fixed_planned place h has =
      let o = two_vectors place h in
      let wide = vector-width h in
      grown_planned (bounds_good f b o.0.free o.1.free wide.1 o.1.value o.0.value o.0.value o.0.free 0 (ones t.sort.n)
      (fits_below t.sort.n 0 (pow_pos t.sort.n)) (fits_below t.sort.n (ones t.sort.n) (ones_lt t.sort.n)) has)

  shift_planned : (t.p < k) × (t.q < k) → typed_by BvBinary ≡ true
      → Has f b (shift_group b t.sort.n t.q cp cq)
      → Planned f b t.sort (grown marked n (n + 1) plan b width t (shift_group b t.sort.n t.q cp cq))
  shift_planned place h has =
      let o = two_vectors place h in
      let wide = vector-width h in
      grown_planned (shift_good f b o.0.free o.1.free wide.1 o.1.value wide.0 (fits_below t.sort.n t.sort.n (below_power t.sort.n)) has)

  choice_parts : typed_by Choice ≡ true → (boolean (sort_at f t.p) ≡ true) × (same_sort (sort_at f t.q) t.sort ≡ true) × (same_sort (sort_at f t.r) t.sort ≡ true)
  choice_parts h = three (boolean (sort_at f t.p)) (same_sort (sort_at f t.q) t.sort) (same_sort (sort_at f t.r) t.sort) h

  choice_planned : (t.p < k) × (t.q < k) × (t.r < k) → typed_by Choice ≡ true → scalar t.sort ≡ true
      → Has f b (choice_group b t.p t.q t.r cp cq cr)
      → Planned f b t.sort (grown marked n (n + 1) plan b width t (choice_group b t.p t.q t.r cp cq cr))
  choice_planned place h scalars has =
      let parts = choice_parts h in
      let p = width-operand t.p 0 place.0 parts.0 in
      let q = same_operand t.q t.sort place.1 scalars (same_sort_lem (sort_at f t.q) t.sort parts.1) in
      let r = same_operand t.r t.sort place.2 scalars (same_sort_lem (sort_at f t.r) t.sort parts.2) in
      grown_planned (choosing_good f b p.free q.free r.free p.value q.value r.value has)

  read_planned : (t.p < k) × (t.q < k) → typed_by Read ≡ true
      → Has f b ((plan t.p).read_group b t.q cq)
      → Planned f b t.sort (grown marked n (n + 1) plan b width t ((plan t.p).read_group b t.q cq))
  read_planned place h has =
      let parts = three (array (sort_at f t.p)) (vector_of (sort_at f t.p).m (sort_at f t.q)) (vector_of (sort_at f t.p).n t.sort) h in
      let q = width-operand t.q (sort_at f t.p).m place.1 parts.1 in
      grown_planned ((earlier t.p place.0).reads parts.0 b t.q cq (omega arith) q.value q.free has)

  -- Arrays that stand on others, read from c on

  -- good terms are added for a read
  abbrev Reads : (ℕ → ℕ → ℕ → List Term) → Type 0
  Reads read = (c j cj : ℕ) → b ≤ c → Below f c j 0 t.sort.m → Below f c cj 0 0 → Has f c (read c j cj) → GoodGroup f c (read c j cj)

  built_planned : {read : ℕ → ℕ → ℕ → List Term} → array t.sort ≡ true → Reads read → Planned f b t.sort (built read)
  built_planned a good =
      record {
        all = λ i l. absurd (not-suc-le-zero l);
        fine = record { condition = λ z. absurd (not-array t.sort z a); reads = λ _ c j cj le. good c j cj (omega arith) };
      }

  -- an operand of the term's own array sort: itself, and a read of it
  record ArrayOperand (i : ℕ) : Type 0 where
    place : (c : ℕ) → b ≤ c → Below f c i t.sort.m t.sort.n
    read : Reads (plan i).read_group

  array-operand : (i : ℕ) → i < k → array t.sort ≡ true → same_sort (sort_at f i) t.sort ≡ true → ArrayOperand i
  array-operand i l a h =
      let same = same_sort_lem (sort_at f i) t.sort h in
      record {
        place = λ c le. record { before = omega arith; m_is = same.m; n_is = same.n };
        read = λ c j cj le J CJ. (earlier i l).reads (same-array (sort_at f i) t.sort h a) c j cj le (subst (λ (m : ℕ). Below f c j 0 m) (sym same.m) J) CJ;
      }

  -- widths of an array
  array_widths : array t.sort ≡ true → (0 < t.sort.m) × (sorted (constant_t t.sort.n 0).sort ≡ true)
  array_widths a = let wide = widths t.sort sort in (ltb-true 0 t.sort.m a, vector-sorted t.sort.n (wide.array_n a) wide.n_most)

  write_parts : typed_by Write ≡ true
      → (array t.sort ≡ true) × (same_sort (sort_at f t.p) t.sort ≡ true) × (vector_of t.sort.m (sort_at f t.q) ≡ true) × (vector_of t.sort.n (sort_at f t.r) ≡ true)
  write_parts h = four (array t.sort) (same_sort (sort_at f t.p) t.sort) (vector_of t.sort.m (sort_at f t.q)) (vector_of t.sort.n (sort_at f t.r)) h

  -- a store
  store-reads : (t.p < k) × (t.q < k) × (t.r < k) → typed_by Write ≡ true → Reads (store_read marked n (n + 1) plan b width t)
  store-reads place h c j cj le J CJ has =
      let parts = write_parts h in
      let wide = array_widths parts.0 in
      let p = array-operand t.p place.0 parts.0 parts.1 in
      let q = width-operand t.q t.sort.m place.1 parts.2 in
      let r = width-operand t.r t.sort.n place.2 parts.3 in
      let xs : List Term = (plan t.p).read_group c j cj in
      let s : ℕ = c + length xs in
      let ys : List Term = store_group s t.sort.n t.p t.q t.r j cq cr cj (last_of c xs) in
      let b_most : b ≤ s = omega arith in
      let c_most : c ≤ s = omega arith in
      let X : GoodGroup f c xs = p.read c j cj le J CJ (has_left f c xs ys has) in
      append_good f c xs ys X
      (store_good f s wide.0 wide.1
      (p.place s b_most) (later s b_most q.value) (later s b_most r.value) (later s c_most J) (later s b_most q.free) (later s b_most r.free) (later s c_most CJ) X.last (has_right f c xs ys has))

  -- a choice between two
  choice-reads : (t.p < k) × (t.q < k) × (t.r < k) → typed_by Choice ≡ true → array t.sort ≡ true → Reads (choice_read marked n (n + 1) plan b width t)
  choice-reads place h a c j cj le J CJ has =
      let parts = choice_parts h in
      let wide = array_widths a in
      let p = width-operand t.p 0 place.0 parts.0 in
      let q = array-operand t.q place.1 a parts.1 in
      let r = array-operand t.r place.2 a parts.2 in
      let xs : List Term = (plan t.q).read_group c j cj in
      let s : ℕ = c + length xs in
      let ys : List Term = (plan t.r).read_group s j cj in
      let e : ℕ = s + length ys in
      let zs : List Term = array_choice_group e t.sort.n t.p t.q t.r j cp (last_of c xs) (last_of s ys) in
      let rest : Has f s (ys ++ zs) = has_right f c xs (ys ++ zs) has in
      let c_most : c ≤ s = omega arith in
      let s_most : s ≤ e = omega arith in
      let b_most : b ≤ e = omega arith in
      let j_most : c ≤ e = omega arith in
      let X : GoodGroup f c xs = q.read c j cj le J CJ (has_left f c xs (ys ++ zs) has) in
      let Y : GoodGroup f s ys = r.read s j cj (omega arith) (later s c_most J) (later s c_most CJ) (has_left f s ys zs rest) in
      append_good f c xs (ys ++ zs) X
      (append_good f s ys zs Y
      (array-choice_good f e wide.0 wide.1
      (later e b_most p.value) (q.place e b_most) (r.place e b_most) (later e j_most J) (later e b_most p.free) (later e s_most X.last) Y.last (has_right f s ys zs rest)))

  -- between arrays or not
  choosing_planned : (t.p < k) × (t.q < k) × (t.r < k) → typed_by Choice ≡ true → (z : Bool) → array t.sort ≡ z
      → Has f b (choice_plan marked n (n + 1) plan b width t z).group → Planned f b t.sort (choice_plan marked n (n + 1) plan b width t z)
  choosing_planned place h true a has = built_planned a (choice-reads place h a)
  choosing_planned place h false a has = choice_planned place h (no-array t.sort a) has

  -- T, or F for a marked one
  input_planned : (z : Bool) → Planned f b t.sort (taken (cond z (n + 1) n))
  input_planned true = taken_planned (n + 1) NO
  input_planned false = taken_planned n YES

  -- a function, by its kind of group
  function_planned : (o : Operation) (r : FunctionRank (arity o)) (g : FunctionGroup o r) → typed_by (applied r) ≡ true → (t.p < k) × (t.q < k) × (t.r < k)
      → Has f b (plan_by marked n (n + 1) plan b width t (group_kind g)).group → Planned f b t.sort (plan_by marked n (n + 1) plan b width t (group_kind g))
  unfolding plan_by
  function_planned o r unary h place has = taken_planned cp ((earlier t.p place.0).condition (unary_scalar r t.sort (sort_at f t.p) (sort_at f t.q) (sort_at f t.r) h))
  function_planned o r strict h place has =
      let s = binary_scalars r t.sort (sort_at f t.p) (sort_at f t.q) (sort_at f t.r) h in
      grown_planned (strict_good f b ((earlier t.p place.0).condition s.0) ((earlier t.q place.1).condition s.1) has)
  function_planned o r conjunction h place has =
      let e = two_booleans (place.0, place.1) h in
      grown_planned (conjunction_good f b e.0.free e.1.free e.0.value e.1.value has)
  function_planned o r disjunction h place has =
      let e = two_booleans (place.0, place.1) h in
      grown_planned (disjunction_good f b e.0.free e.1.free e.0.value e.1.value has)
  function_planned o r implication h place has =
      let e = two_booleans (place.0, place.1) h in
      grown_planned (implication_good f b e.0.free e.1.free e.0.value e.1.value has)
  function_planned o r by_zero h place has = absorbing_planned 0 (fits_below t.sort.n 0 (pow_pos t.sort.n)) (place.0, place.1) h has
  function_planned o r by_ones h place has = absorbing_planned (ones t.sort.n) (fits_below t.sort.n (ones t.sort.n) (ones_lt t.sort.n)) (place.0, place.1) h has
  function_planned o r by_bounds h place has = bounds_planned (ones width) 0 (λ some. (ones_lt width, pow_pos width)) (place.0, place.1) h has
  function_planned o r by_signed h place has = bounds_planned (greatest width) (least width) (λ some. (greatest-lt width some, least_lt width some)) (place.0, place.1) h has
  function_planned o r by_fixed h place has = fixed_planned (place.0, place.1) h has
  function_planned o r shift h place has = shift_planned (place.0, place.1) h has

  planned_by : (op : Op) → is_known op ≡ true → typed_by (rank_of op) ≡ true → placed_as (fields_of (rank_of op)) k t ≡ true
      → Has f b (plan_by marked n (n + 1) plan b width t (kind_of op)).group → Planned f b t.sort (plan_by marked n (n + 1) plan b width t (kind_of op))
  unfolding plan_by is_known
  planned_by Constant known h place has = taken_planned n YES
  planned_by Variable known h place has = input_planned (marked t)
  planned_by (Apply f') known h place has = function_planned (operation f') (function_rank f') (function_group f') h (rank_below (function_rank f') k t place) has
  planned_by Ite known h place has = choosing_planned (three_placed k t place) h (array t.sort) refl has
  planned_by Select known h place has = read_planned (two_placed k t place) h has
  planned_by Store known h place has = built_planned (write_parts h).0 (store-reads (three_placed k t place) h)
  planned_by Unknown known h place has = never known

-- The plans one after the other

module _ (limit : ℕ) (w f : List ℕ) (F : WellFormed limit w) (l : Layout w f) where
  -- where the group of term k begins
  abbrev start : ℕ → ℕ
  start k = next w (plans w own_marks k)

  true_below : (b : ℕ) → terms w + 2 ≤ b → Below f b (terms w) 0 0
  true_below b h = record { before = omega arith; m_is = ap (λ (x : Term). x.sort.m) (true_at w f l); n_is = ap (λ (x : Term). x.sort.n) (true_at w f l) }

  false_below : (b : ℕ) → terms w + 2 ≤ b → Below f b (terms w + 1) 0 0
  false_below b h = record { before = omega arith; m_is = ap (λ (x : Term). x.sort.m) (false_at w f l); n_is = ap (λ (x : Term). x.sort.n) (false_at w f l) }

  -- term k, from the plans before it
  planned_step : (k : ℕ) → k < terms w → ((i : ℕ) → i < k → Fine f (start k) (sort_at f i) (plan_at w own_marks i)) → Planned f (start k) (sort_at w k) (plan_at w own_marks k)
  unfolding typed
  planned_step k b before =
      planned_by f own_marks (terms w) k (start k) (plan_in (plans w own_marks k)) (sort_at w (term_at w k).p).n (term_at w k)
      (λ c. ap (λ (s : Sort). s.n) (sort_same limit w f F l (term_at w k).p (omega arith))) (n_most_at limit w F (term_at w k).p) (true_below (start k) (omega arith)) (false_below (start k) (omega arith)) (omega arith)
      (λ i c. subst (Fine f (start k) (sort_at f i)) (sym (fold-below (λ ps i. plan_of w own_marks ps (term_at w i)) (taken 0) k i c)) (before i c))
      (F.sound k b).is_sorted (op_of (term_at w k).op) (op_at w k (F.sound k b)) (typed_in limit w f F l k b) (F.sound k b).is_placed (group_has w f l k b)

  -- at the start of term k's group every plan before it is fine
  ready : (k : ℕ) → k ≤ terms w → (i : ℕ) → i < k → Fine f (start k) (sort_at f i) (plan_at w own_marks i)
  ready zero b i c = absurd (not-suc-le-zero c)
  ready (suc k) b i c = go (ℕ_discrete i k) (ready k (omega arith))
    where
      go : Dec (i ≡ k) → ((j : ℕ) → j < k → Fine f (start k) (sort_at f j) (plan_at w own_marks j)) → Fine f (start (suc k)) (sort_at f i) (plan_at w own_marks i)
      go (yes e) before =
          let here : Fine f (start k + length (plan_at w own_marks k).group) (sort_at w k) (plan_at w own_marks k) = (planned_step k b before).fine in
          subst (λ (j : ℕ). Fine f (start (suc k)) (sort_at f j) (plan_at w own_marks j)) (sym e)
          (subst (λ (at : ℕ). Fine f at (sort_at f k) (plan_at w own_marks k)) (sym (next_more w k))
          (subst (λ (s : Sort). Fine f (start k + length (plan_at w own_marks k).group) s (plan_at w own_marks k)) (sym (sort_same limit w f F l k b)) here))
      go (no e) before = fine_later (start (suc k)) (omega (arith, next_more w k)) (before i (omega arith))

  planned : (k : ℕ) → k < terms w → Planned f (start k) (sort_at w k) (plan_at w own_marks k)
  planned k b = planned_step k b (ready k (omega arith))

  -- the terms of the groups
  start_first : start 0 ≡ terms w + 2
  unfolding fold groups
  start_first = add-zero (terms w + 2)

  group_sound : (n : ℕ) → n ≤ terms w → (k : ℕ) → terms w + 2 ≤ k → k < start n → Sound f k
  group_sound zero b k low high = absurd (omega (arith, start_first))
  group_sound (suc n) b k low high = go (dec_lt k (start n)) (λ c. group_sound n (omega arith) k low c)
    where
      go : Dec (k < start n) → (k < start n → Sound f k) → Sound f k
      go (yes c) before = before c
      go (no c) before =
          let i = k - start n in
          let inside : i < length (plan_at w own_marks n).group = omega (arith, next_more w n) in
          let at : start n + i ≡ k = omega arith in
          subst (Sound f) at
          (good_sound f (start n + i) (get_or (plan_at w own_marks n).group i (constant_t 0 0)) (group_has w f l n b i inside) ((planned n b).all i inside))

  -- the rule, and its condition
  abbrev rule : ℕ
  rule = pred (terms w)

  last_good : Good f (start (terms w)) (and_t rule (condition_number w rule))
  last_good =
      let some : 0 < terms w = F.some in
      let inside : pred (terms w) < terms w = omega arith in
      let same = sort_same limit w f F l rule inside in
      let parts = and_parts (eqb (sort_at w rule).m 0) (eqb (sort_at w rule).n 0) F.rule in
      let m_is : (sort_at f rule).m ≡ 0 = ap (λ (s : Sort). s.m) same ∙ eqb-true (sort_at w rule).m 0 parts.0 in
      let n_is : (sort_at f rule).n ≡ 0 = ap (λ (s : Sort). s.n) same ∙ eqb-true (sort_at w rule).n 0 parts.1 in
      and_good (record { before = omega (arith, inside); m_is = m_is; n_is = n_is })
      ((ready (terms w) (omega arith) rule inside).condition (eq-eqb (sort_at f rule).m 0 m_is))

  added-sound : (k : ℕ) → terms w ≤ k → k < terms f → Sound f k
  added-sound k low high = go (dec_lt k (terms w + 2)) (ℕ_discrete k (terms w)) (dec_lt k (start (terms w)))
    where
      go : Dec (k < terms w + 2) → Dec (k ≡ terms w) → Dec (k < start (terms w)) → Sound f k
      go (yes a) (yes e) z = subst (Sound f) (sym e) (good_sound f (terms w) (constant_t 0 1) (true_at w f l) (constant_good 0 1 refl refl))
      go (yes a) (no e) z =
          let at : terms w + 1 ≡ k = omega arith in
          subst (Sound f) at (good_sound f (terms w + 1) (constant_t 0 0) (false_at w f l) (constant_good 0 0 refl refl))
      go (no a) e (yes c) = group_sound (terms w) (omega arith) k (omega arith) c
      go (no a) e (no c) =
          let at : start (terms w) ≡ k = omega (arith, count_is w f l) in
          subst (Sound f) at (good_sound f (start (terms w)) (and_t rule (condition_number w rule)) (last_at w f l) last_good)

-- the theorem
pub admitted_of : (w f : List ℕ) → WellFormed 512 w → Layout w f → terms f ≤ 80000 → WellFormed 80000 f
admitted_of w f F l most =
    let last : pred (terms f) ≡ next w (plans w own_marks (terms w)) = omega (arith, count_is w f l) in
    record {
      some = omega (arith, count_is w f l);
      whole = l.whole;
      few = most;
      sound = λ k b. go k b (dec_lt k (terms w));
      rule = ap (λ (k : ℕ). boolean (sort_at f k)) last ∙ ap (λ (x : Term). boolean x.sort) (last_at w f l);
    }
  where
    go : (k : ℕ) → k < terms f → Dec (k < terms w) → Sound f k
    go k b (yes c) = old_sound 512 w f F l k c
    go k b (no c) = added-sound 512 w f F l k (omega arith) b
