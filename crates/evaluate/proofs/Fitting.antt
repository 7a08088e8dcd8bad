-- In an interpretation that fits, every value fits its sort.
-- Assumes nothing.
use mathlib.Core.Path.{◌≡◌, refl, sym, ap, ap₂, subst, ◌∙◌}
use mathlib.Core.Bool.{Bool, true, false, cond, ◌&&◌}
use mathlib.Core.List.{List}
use Prim.Native.Nat.{ℕ, zero, suc, ◌^◌, ◌<◌}
use native.Mathlib.Nat.{not-suc-le-zero}
use native.Mathlib.Omega.{arith}
use lib.Dec.{eqb, ltb}
use borrow.Author.Tests.{eqb-true, ltb-true, lt-ltb}
use Rattle.ops.specs.declared.Op.{Op}
use Rattle.ops.specs.declared.Op.TheVariants.{Constant, Variable, Apply, Ite, Select, Store, Unknown}
use Rattle.ops.specs.Numbers.{op_of}
use Rattle.ops.specs.Meaning.{apply, holds}
use Rattle.ops.specs.Fits.{fits}
use Rattle.ops.specs.declared.Function.{Function}
use Rattle.ops.specs.Ranks.{Arity, FunctionRank, function_rank, rank_width}
use Rattle.ops.specs.Ranks.Arity.{one, two}
use Rattle.ops.specs.Ranks.FunctionRank.{bool_unary, bool_binary, equality, bv_unary, bv_binary, bv_compare}
use Rattle.ops.specs.Laws.{result_width, chooses, OperandsFit}
use Rattle.ops.proofs.Booleans.{never, and_parts}
use Rattle.ops.proofs.Widths.{fits_below}
use Rattle.ops.proofs.Fitting.{fitting}
use Rattle.table.specs.declared.words.Sort.{Sort}
use Rattle.table.specs.declared.words.Term.{Term}
use Rattle.table.specs.Terms.{terms, term_at, sort_at, boolean, vector, scalar, array, vector_of, same_sort}
use Rattle.table.specs.Ranks.{applied, rank_of, fields_of, slotted}
use Rattle.table.specs.Faults.{placed_as, typed_as, valued_as}
use Rattle.table.specs.WellFormed.{WellFormed}
use Rattle.table.proofs.SoundTerms.{widths}
use Rattle.setting.specs.Interpretation.{Value, Interpretation, Fit, FitInputs}
use Rattle.setting.proofs.Checked.{below_of-fits, checked-fits}
use Rattle.evaluate.specs.Values.{scalar_value, array_value, value_by, value_in, values, value_at}
use Rattle.evaluate.specs.Laws.{ValuesFit, CheckedValuesFit}
use Rattle.evaluate.proofs.Folds.{value-below}
use Rattle.table.proofs.OperandSorts.{is_known, not-array, same_sort_lem, boolean-scalar, rank-scalar, three, four, op_at, typing, two_placed, three_placed}

-- a number that fits a sort that is no array's
scalar_fit : (s : Sort) (u : ℕ) → scalar s ≡ true → fits s.n u ≡ true → Fit s (scalar_value u)
scalar_fit s u k h = record { num = λ _. h; cell = λ a. absurd (not-array s k a) }

boolean_n : (s : Sort) → boolean s ≡ true → s.n ≡ 0
boolean_n s h = eqb-true s.n 0 (and_parts (eqb s.m 0) (eqb s.n 0) h).1

-- the width of a function's value is its term's, by its rank
rank-width : {n : Arity} (r : FunctionRank n) (x a b c : Sort) → typed_as (applied r) x a b c ≡ true → rank_width r a.n ≡ x.n
rank-width bool_unary x a b c h = sym (boolean_n x (and_parts (boolean x) (boolean a) h).0)
rank-width bool_binary x a b c h = sym (boolean_n x (three (boolean x) (boolean a) (boolean b) h).0)
rank-width equality x a b c h = sym (boolean_n x (three (boolean x) (scalar a) (same_sort a b) h).0)
rank-width bv_unary x a b c h = (same_sort_lem a x (and_parts (vector x) (same_sort a x) h).1).n
rank-width bv_binary x a b c h = (same_sort_lem a x (three (vector x) (same_sort a x) (same_sort b x) h).1).n
rank-width bv_compare x a b c h = sym (boolean_n x (three (boolean x) (vector a) (same_sort a b) h).0)

-- A function's operands fit, by its rank

boolean-fits : (s : Sort) (u : Value) → boolean s ≡ true → Fit s u → fits 0 u.num ≡ true
boolean-fits s u h g = subst (λ (n : ℕ). fits n u.num ≡ true) (boolean_n s h) (g.num (boolean-scalar s h))

vector-fits : (s : Sort) (u : Value) → vector s ≡ true → Fit s u → ltb u.num (2 ^ s.n) ≡ true
vector-fits s u h g =
    let parts = and_parts (eqb s.m 0) (ltb 0 s.n) h in
    let some : 0 < s.n = ltb-true 0 s.n parts.1 in
    lt-ltb u.num (2 ^ s.n) (below_of-fits s.n u.num (λ z. omega arith) (g.num parts.0))

same-vector : (a b : Sort) → same_sort a b ≡ true → vector b ≡ true → vector a ≡ true
same-vector a b h v = let s = same_sort_lem a b h in ap₂ (λ (m n : ℕ). eqb m 0 && ltb 0 n) s.m s.n ∙ v

module _ (x a b c : Sort) (u v : Value) (first : Fit a u) (second : Fit b v) where
  pub operands_fit : (n : Arity) (r : FunctionRank n) → typed_as (applied r) x a b c ≡ true → OperandsFit n r a.n u.num v.num
  operands_fit one bool_unary h = boolean-fits a u (and_parts (boolean x) (boolean a) h).1 first
  operands_fit one bv_unary h = let s = and_parts (vector x) (same_sort a x) h in vector-fits a u (same-vector a x s.1 s.0) first
  operands_fit two bool_binary h = let s = three (boolean x) (boolean a) (boolean b) h in (boolean-fits a u s.1 first, boolean-fits b v s.2 second)
  operands_fit two equality h =
      let s = three (boolean x) (scalar a) (same_sort a b) h in
      let e = same_sort_lem a b s.2 in
      (first.num s.1, ap (λ (n : ℕ). fits n v.num) e.n ∙ second.num (ap (λ (m : ℕ). eqb m 0) (sym e.m) ∙ s.1))
  operands_fit two bv_binary h =
      let s = three (vector x) (same_sort a x) (same_sort b x) h in
      let e : a.n ≡ b.n = (same_sort_lem a x s.1).n ∙ sym (same_sort_lem b x s.2).n in
      (vector-fits a u (same-vector a x s.1 s.0) first, ap (λ (n : ℕ). ltb v.num (2 ^ n)) e ∙ vector-fits b v (same-vector b x s.2 s.0) second)
  operands_fit two bv_compare h =
      let s = three (boolean x) (vector a) (same_sort a b) h in
      let e = same_sort_lem a b s.2 in (
        vector-fits a u s.1 first,
        ap (λ (n : ℕ). ltb v.num (2 ^ n)) e.n ∙ vector-fits b v (ap₂ (λ (m n : ℕ). eqb m 0 && ltb 0 n) (sym e.m) (sym e.n) ∙ s.1) second,
      )

-- One term, by its operator: x, a, b, c are its sort and its operands', i its number
module _ (I : Interpretation) (v : ℕ → Value) (t : Term) (i : ℕ) (a b c : Sort)
    (p-fit : t.p < i → Fit a (v t.p)) (q-fit : t.q < i → Fit b (v t.q)) (r-fit : t.r < i → Fit c (v t.r)) where
  -- an operator's value, of the width that its sorts say
  operated_fit : (op : Op) → scalar t.sort ≡ true → result_width op a.n b.n ≡ t.sort.n
      → (chooses op ≡ true → (fits b.n (v t.q).num ≡ true) × (fits b.n (v t.r).num ≡ true))
      → Fit t.sort (scalar_value (apply op a.n (v t.p).num (v t.q).num (v t.r).num))
  operated_fit op k e h =
      scalar_fit t.sort _ k
      (subst (λ (n : ℕ). fits n (apply op a.n (v t.p).num (v t.q).num (v t.r).num) ≡ true) e (fitting op a.n b.n (v t.p).num (v t.q).num (v t.r).num h))

  -- the value of either branch fits, since it has the term's sort
  same_fit : (s : Sort) (u : Value) → same_sort s t.sort ≡ true → Fit s u → Fit t.sort u
  same_fit s u h g = let e = same_sort_lem s t.sort h in subst (λ (z : Sort). Fit z u) (λ k. record { m = e.m k; n = e.n k }) g

  cond_fit : (z : Bool) (u u' : Value) → Fit t.sort u → Fit t.sort u' → Fit t.sort (cond z u u')
  cond_fit true u u' g g' = g
  cond_fit false u u' g g' = g'

  choice_fit : boolean a && same_sort b t.sort && same_sort c t.sort ≡ true → (t.p < i) × (t.q < i) × (t.r < i) → Fit t.sort (cond (holds (v t.p).num) (v t.q) (v t.r))
  choice_fit h place =
      let parts = three (boolean a) (same_sort b t.sort) (same_sort c t.sort) h in
      cond_fit (holds (v t.p).num) (v t.q) (v t.r) (same_fit b (v t.q) parts.1 (q-fit place.1)) (same_fit c (v t.r) parts.2 (r-fit place.2))

  -- a vector of a width that is not 0 is below the power
  vector-below : (w : ℕ) (s : Sort) (u : Value) → (w ≡ 0 → ⊥) → vector_of w s ≡ true → Fit s u → u.num < 2 ^ w
  vector-below w s u z h g =
      let parts = and_parts (eqb s.m 0) (eqb s.n w) h in
      below_of-fits w u.num z (subst (λ (n : ℕ). fits n u.num ≡ true) (eqb-true s.n w parts.1) (g.num parts.0))

  read_fit : array a && vector_of a.m b && vector_of a.n t.sort ≡ true → (t.p < i) × (t.q < i) → Fit t.sort (scalar_value ((v t.p).cell (v t.q).num))
  read_fit h place =
      let parts = three (array a) (vector_of a.m b) (vector_of a.n t.sort) h in
      let own = and_parts (eqb t.sort.m 0) (eqb t.sort.n a.n) parts.2 in
      let m_some : a.m ≡ 0 → ⊥ = λ z. let g : 0 < a.m = ltb-true 0 a.m parts.0 in omega arith in
      let below : (v t.p).cell (v t.q).num < 2 ^ a.n = (p-fit place.0).cell parts.0 (v t.q).num (vector-below a.m b (v t.q) m_some parts.1 (q-fit place.1)) in
      scalar_fit t.sort _ own.0 (subst (λ (n : ℕ). fits n ((v t.p).cell (v t.q).num) ≡ true) (sym (eqb-true t.sort.n a.n own.1)) (fits_below a.n ((v t.p).cell (v t.q).num) below))

  cond_below : (z : Bool) (x y n : ℕ) → x < n → y < n → cond z x y < n
  cond_below true x y n h k = h
  cond_below false x y n h k = k

  store_fit : array t.sort && same_sort a t.sort && vector_of t.sort.m b && vector_of t.sort.n c ≡ true → (t.sort.n ≡ 0 → ⊥) → (t.p < i) × (t.q < i) × (t.r < i)
      → Fit t.sort (array_value (λ j. cond (eqb (v t.q).num j) (v t.r).num ((v t.p).cell j)))
  store_fit h some place =
      let parts = four (array t.sort) (same_sort a t.sort) (vector_of t.sort.m b) (vector_of t.sort.n c) h in
      let same = same_sort_lem a t.sort parts.1 in
      let arr : array a ≡ true = ap (λ (m : ℕ). ltb 0 m) same.m ∙ parts.0 in
      record {
        num = λ s. absurd (not-array t.sort s parts.0);
        cell = λ _ j k. cond_below (eqb (v t.q).num j) (v t.r).num ((v t.p).cell j) (2 ^ t.sort.n)
            (vector-below t.sort.n c (v t.r) some parts.3 (r-fit place.2))
            (subst (λ (n : ℕ). (v t.p).cell j < 2 ^ n) same.n ((p-fit place.0).cell arr j (subst (λ (m : ℕ). j < 2 ^ m) (sym same.m) k)));
      }

  variable_fit : (z : Bool) → eqb t.sort.m 0 ≡ z → Fit t.sort (I t.p) → Fit t.sort (cond z (scalar_value (I t.p).num) (array_value (I t.p).cell))
  variable_fit true e g = scalar_fit t.sort (I t.p).num e (g.num e)
  variable_fit false e g = record { num = λ s. never (sym e ∙ s); cell = λ k j l. g.cell k j l }

  -- a function's value, by its rank
  function_fit : (f : Function) → typed_as (applied (function_rank f)) t.sort a b c ≡ true → Fit t.sort (scalar_value (apply (Apply f) a.n (v t.p).num (v t.q).num (v t.r).num))
  function_fit f h = operated_fit (Apply f) (rank-scalar (function_rank f) t.sort a b c h) (rank-width (function_rank f) t.sort a b c h) (λ z. never z)

  fit_by : (op : Op) → is_known op ≡ true → typed_as (rank_of op) t.sort a b c ≡ true → placed_as (fields_of (rank_of op)) i t ≡ true → valued_as (fields_of (rank_of op)) t ≡ true
      → (array t.sort ≡ true → t.sort.n ≡ 0 → ⊥) → (slotted op ≡ true → Fit t.sort (I t.p)) → Fit t.sort (value_by I v a.n t op)
  unfolding value_by is_known
  fit_by Constant k h place value some input = scalar_fit t.sort t.p h value
  fit_by Variable k h place value some input = variable_fit (eqb t.sort.m 0) refl (input refl)
  fit_by (Apply f) k h place value some input = function_fit f h
  fit_by Ite k h place value some input = choice_fit h (three_placed i t place)
  fit_by Select k h place value some input = read_fit h (two_placed i t place)
  fit_by Store k h place value some input = store_fit h (some (four (array t.sort) (same_sort a t.sort) (vector_of t.sort.m b) (vector_of t.sort.n c) h).0) (three_placed i t place)
  fit_by Unknown k h place value some input = never k

-- The table, term by term

module _ (limit : ℕ) (w : List ℕ) (I : Interpretation) (f : WellFormed limit w) (inputs : FitInputs w I) where
  -- one term, those before it being known to fit
  fit_step : (k : ℕ) → k < terms w → ((i : ℕ) → i < k → Fit (sort_at w i) (value_at w I i)) → Fit (sort_at w k) (value_at w I k)
  fit_step k b before =
      let x = term_at w k in
      let s = f.sound k b in
      let operand : (i : ℕ) → i < k → Fit (sort_at w i) (value_in (values w I k) i) = λ i l. subst (Fit (sort_at w i)) (sym (value-below w I k i l)) (before i l) in
      fit_by I (value_in (values w I k)) x k (sort_at w x.p) (sort_at w x.q) (sort_at w x.r) (operand x.p) (operand x.q) (operand x.r) (op_of x.op)
      (op_at w k s) (typing w k s) s.is_placed s.is_valued
      (λ r z. let g : 0 < (sort_at w k).n = (widths (sort_at w k) s.is_sorted).array_n r in omega arith)
      (inputs k b)

  fit_within : (n k : ℕ) → k < n → k < terms w → Fit (sort_at w k) (value_at w I k)
  fit_within zero k b c = absurd (not-suc-le-zero b)
  fit_within (suc n) k b c = fit_step k c (λ i l. fit_within n i (omega arith) (omega arith))

pub values_fit : ValuesFit
values_fit limit w I f inputs k b = fit_within limit w I f inputs (suc k) k (omega arith) b

pub checked-values_fit : CheckedValuesFit
checked-values_fit limit w values cells f h k b = values_fit limit w _ f (checked-fits limit w values cells f h) k b
