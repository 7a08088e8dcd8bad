-- What two runs of one table have in common at each of its terms, where they agree on every unmarked input.
-- Assumes nothing.
use mathlib.Core.Path.{◌≡◌, refl, sym, ap, ap₂, subst, ◌∙◌}
use mathlib.Core.Bool.{Bool, true, false, not, cond, ◌&&◌, ◌||◌}
use mathlib.Core.List.{List}
use Prim.Native.Nat.{ℕ, zero, suc, pred, ◌^◌, ◌<◌}
use native.Mathlib.Decide.{dec_lt}
use native.Mathlib.Nat.{not-suc-le-zero}
use native.Mathlib.Omega.{arith}
use lib.Dec.{eqb}
use lib.ListN.{get_or, get_or-eq_default}
use borrow.Author.Tests.{eqb-true, eqb-false, ltb-true, lt-ltb}
use Rattle.ops.specs.declared.Function.{Function}
use Rattle.ops.specs.declared.Op.{Op}
use Rattle.ops.specs.declared.Op.TheVariants.{Constant, Variable, Apply, Ite, Select, Store, Unknown}
use Rattle.ops.specs.Numbers.{op_of}
use Rattle.ops.specs.Meaning.{holds, operation, apply}
use Rattle.ops.specs.Ranks.{arity, function_rank}
use Rattle.ops.specs.Fits.{fits}
use Rattle.ops.specs.Condition.{chosen, settles}
use Rattle.ops.specs.Laws.{OperandsFit, Agree}
use Rattle.ops.proofs.Booleans.{never, and_parts, and_shut}
use Rattle.ops.proofs.Independence.{independence as op-independence, choice_independence}
use Rattle.table.specs.declared.words.Sort.{Sort}
use Rattle.table.specs.declared.words.Term.{Term}
use Rattle.table.specs.Folds.{fold}
use Rattle.table.specs.Terms.{terms, term_at, sort_at, boolean, array, vector_of, same_sort}
use Rattle.table.specs.Ranks.{rank_of, fields_of, slotted}
use Rattle.table.specs.Faults.{placed_as, typed_as}
use Rattle.table.specs.WellFormed.{WellFormed}
use Rattle.table.proofs.FoldLaws.{fold-below, length-fold}
use Rattle.setting.specs.Interpretation.{Value, Interpretation, Fit, FitInputs, Same, AgreeUnmarked}
use Rattle.setting.proofs.Checked.{below_of-fits}
use Rattle.evaluate.specs.Values.{scalar_value, array_value, value_by, value_in, value_from, values, value_at}
use Rattle.evaluate.proofs.Folds.{value-below}
use Rattle.evaluate.proofs.Fitting.{operands_fit, values_fit}
use Rattle.table.proofs.OperandSorts.{same_sort_lem, three, four, typing, two_placed, rank_below}
use Rattle.judge.specs.Conditions.{Condition, plain, store_free, condition_by, condition_in, condition_from, conditions, condition_at}
use Rattle.judge.specs.Demand3.{Independence}

-- at one term, whose indexes are below bound where it is an array: one condition, and where it is true one value; so too of each read,
-- which is free in neither run where its index is not
pub record Alike (bound : ℕ) (x x' : Value) (a a' : Condition) : Type 0 where
  pub whole : Agree a.free a'.free x.num x'.num
  pub read : (j : ℕ) → j < bound → (c : Bool) → Agree (a.read_free j c) (a'.read_free j c) (x.cell j) (x'.cell j)
  pub shut : (j : ℕ) → (a.read_free j false ≡ false) × (a'.read_free j false ≡ false)

-- a Boolean or a vector
alike_scalar : (bound : ℕ) {x x' : ℕ} {b b' : Bool} → Agree b b' x x' → Alike bound (scalar_value x) (scalar_value x') (plain b) (plain b')
alike_scalar bound {b} {b'} g =
    record {
      whole = g;
      read = λ j l c. record { condition = ap (λ (d : Bool). d && c) g.condition; value = λ _. refl };
      shut = λ j. (and_shut b, and_shut b');
    }

-- one condition and one value
same_agree : (b : Bool) (x : ℕ) → Agree b b x x
same_agree b x = record { condition = refl; value = λ _. refl }

-- where a test says so there is no condition
agree_unless : (no : Bool) {b b' : Bool} {x x' : ℕ} → Agree b b' x x' → Agree (not no && b) (not no && b') x x'
agree_unless true g = record { condition = refl; value = λ k. never k }
agree_unless false g = g

-- what is said of the value that is picked is said of the picked value
picked_agree : (f : Value → ℕ) (h h' : Bool) {b b' : Bool} (x y x' y' : Value) → Agree b b' (cond h (f x) (f y)) (cond h' (f x') (f y')) → Agree b b' (f (cond h x y)) (f (cond h' x' y'))
picked_agree f true true x y x' y' g = g
picked_agree f true false x y x' y' g = g
picked_agree f false true x y x' y' g = g
picked_agree f false false x y x' y' g = g

-- what is alike stays so under other names
renamed : {bound : ℕ} {x x' y y' : Value} {a a' b b' : Condition} → x ≡ y → x' ≡ y' → a ≡ b → a' ≡ b' → Alike bound y y' b b' → Alike bound x x' a a'
renamed e e' g g' h = rw (e, e', g, g') h

-- read at an index that is not free, a store is not free where the array beneath is not
pub store_shut : (a b d test same : Bool) → d ≡ false → chosen (a && false) test b d same ≡ false
store_shut a b true test same z = never (sym z)
store_shut a b false test same z = ap₂ (λ (x y : Bool). (x && cond test b false) || (y && same)) (and_shut a) (and_shut b)

-- and a choice where neither branch is
pub choice_shut : (a test d e same : Bool) → d ≡ false → e ≡ false → chosen a test d e same ≡ false
choice_shut a test true e same z y = never (sym z)
choice_shut a test false true same z y = never (sym y)
choice_shut true true false false same z y = refl
choice_shut true false false false same z y = refl
choice_shut false test false false same z y = refl

-- One term, in two runs: i is its number, and sorts are the table's
module _ (marked : Term → Bool) (I I' : Interpretation) (v v' : ℕ → Value) (c c' : ℕ → Condition) (sorts : ℕ → Sort) (t : Term) (i : ℕ)
    (alike : (k : ℕ) → Alike (2 ^ (sorts k).m) (v k) (v' k) (c k) (c' k)) (fit : (k : ℕ) → k < i → Fit (sorts k) (v k)) (fit' : (k : ℕ) → k < i → Fit (sorts k) (v' k)) where
  -- an input: free where it is not marked
  variable_alike : (b m : Bool) → eqb t.sort.m 0 ≡ b → (m ≡ false → Same t.sort (I t.p) (I' t.p))
      → Alike (2 ^ t.sort.m) (cond b (scalar_value (I t.p).num) (array_value (I t.p).cell)) (cond b (scalar_value (I' t.p).num) (array_value (I' t.p).cell)) (plain (not m)) (plain (not m))
  variable_alike b true e h =
      record {
        whole = record { condition = refl; value = λ k. never k };
        read = λ j l d. record { condition = refl; value = λ k. never k };
        shut = λ j. (refl, refl);
      }
  variable_alike true false e h = alike_scalar (2 ^ t.sort.m) (record { condition = refl; value = λ _. (h refl).num e })
  variable_alike false false e h =
      let some : t.sort.m ≡ 0 → ⊥ = eqb-false t.sort.m 0 e in
      record {
        whole = same_agree true 0;
        read = λ j l d. record { condition = refl; value = λ _. (h refl).cell (lt-ltb 0 t.sort.m (omega arith)) j l };
        shut = λ j. (refl, refl);
      }

  -- a read: the index is free, and so the same in both, or the read is free in neither
  select_alike : (f f' : Bool) → Agree f f' (v t.q).num (v' t.q).num → (v t.q).num < 2 ^ (sorts t.p).m
      → Agree ((c t.p).read_free (v t.q).num f) ((c' t.p).read_free (v' t.q).num f') ((v t.p).cell (v t.q).num) ((v' t.p).cell (v' t.q).num)
  select_alike true true g b =
      let r = (alike t.p).read (v t.q).num b true in
      record {
        condition = r.condition ∙ ap (λ (j : ℕ). (c' t.p).read_free j true) (g.value refl);
        value = λ k. r.value k ∙ ap (λ (j : ℕ). (v' t.p).cell j) (g.value refl);
      }
  select_alike true false g b = never (sym g.condition)
  select_alike false true g b = never g.condition
  select_alike false false g b =
      let shut = (alike t.p).shut in
      record {
        condition = (shut (v t.q).num).0 ∙ sym (shut (v' t.q).num).1;
        value = λ k. never (sym (shut (v t.q).num).0 ∙ k);
      }

  -- its index is one of the array's
  index_below : typed_as (rank_of Select) t.sort (sorts t.p) (sorts t.q) (sorts t.r) ≡ true → t.q < i → (v t.q).num < 2 ^ (sorts t.p).m
  index_below h b =
      let parts = three (array (sorts t.p)) (vector_of (sorts t.p).m (sorts t.q)) (vector_of (sorts t.p).n t.sort) h in
      let index = and_parts (eqb (sorts t.q).m 0) (eqb (sorts t.q).n (sorts t.p).m) parts.1 in
      let some : 0 < (sorts t.p).m = ltb-true 0 (sorts t.p).m parts.0 in
      below_of-fits (sorts t.p).m (v t.q).num (λ z. omega arith)
      (subst (λ (n : ℕ). fits n (v t.q).num ≡ true) (eqb-true (sorts t.q).n (sorts t.p).m index.1) ((fit t.q b).num index.0))

  -- a store, read at j: a choice, whose test is that the indexes are equal
  store_alike : (j : ℕ) → j < 2 ^ (sorts t.p).m → (d : Bool)
      → Agree (store_free marked v c (sorts t.p).n t j d) (store_free marked v' c' (sorts t.p).n t j d) (cond (eqb (v t.q).num j) (v t.r).num ((v t.p).cell j)) (cond (eqb (v' t.q).num j) (v' t.r).num ((v' t.p).cell j))
  store_alike j b d =
      let q = (alike t.q).whole in
      choice_independence (eqb (v t.q).num j) (eqb (v' t.q).num j) (v t.r).num (v' t.r).num ((v t.p).cell j) ((v' t.p).cell j)
      ((c t.q).free && d) ((c' t.q).free && d) (c t.r).free (c' t.r).free ((c t.p).read_free j d) ((c' t.p).read_free j d)
      (ap (λ (f : Bool). f && d) q.condition) (λ k. ap (λ (x : ℕ). eqb x j) (q.value (and_parts (c t.q).free d k).0)) (alike t.r).whole ((alike t.p).read j b d)

  -- a choice, of numbers or of the cells at an index: what it picks and its condition, from those of its branches
  branches_alike : (f : Value → ℕ) (g g' : Condition → Bool) → Agree (g (c t.q)) (g' (c' t.q)) (f (v t.q)) (f (v' t.q)) → Agree (g (c t.r)) (g' (c' t.r)) (f (v t.r)) (f (v' t.r))
      → Agree (chosen (c t.p).free (holds (v t.p).num) (g (c t.q)) (g (c t.r)) (eqb (f (v t.q)) (f (v t.r))))
      (chosen (c' t.p).free (holds (v' t.p).num) (g' (c' t.q)) (g' (c' t.r)) (eqb (f (v' t.q)) (f (v' t.r))))
      (f (cond (holds (v t.p).num) (v t.q) (v t.r))) (f (cond (holds (v' t.p).num) (v' t.q) (v' t.r)))
  branches_alike f g g' first second =
      let test = (alike t.p).whole in
      picked_agree f (holds (v t.p).num) (holds (v' t.p).num) (v t.q) (v t.r) (v' t.q) (v' t.r)
      (choice_independence (holds (v t.p).num) (holds (v' t.p).num) (f (v t.q)) (f (v' t.q)) (f (v t.r)) (f (v' t.r))
      (c t.p).free (c' t.p).free (g (c t.q)) (g' (c' t.q)) (g (c t.r)) (g' (c' t.r))
      test.condition (λ k. ap holds (test.value k)) first second)

  -- a function's operands fit
  fitted : (f : Function) → typed_as (rank_of (Apply f)) t.sort (sorts t.p) (sorts t.q) (sorts t.r) ≡ true → placed_as (fields_of (rank_of (Apply f))) i t ≡ true
      → (u : ℕ → Value) → ((k : ℕ) → k < i → Fit (sorts k) (u k)) → OperandsFit (arity (operation f)) (function_rank f) (sorts t.p).n (u t.p).num (u t.q).num
  fitted f h place u g =
      let low = rank_below (function_rank f) i t place in
      operands_fit t.sort (sorts t.p) (sorts t.q) (sorts t.r) (u t.p) (u t.q) (g t.p low.0) (g t.q low.1) (arity (operation f)) (function_rank f) h

  -- the term, by its operator
  alike_by : (op : Op) → typed_as (rank_of op) t.sort (sorts t.p) (sorts t.q) (sorts t.r) ≡ true → placed_as (fields_of (rank_of op)) i t ≡ true
      → (slotted op ≡ true → marked t ≡ false → Same t.sort (I t.p) (I' t.p))
      → Alike (2 ^ t.sort.m) (value_by I v (sorts t.p).n t op) (value_by I' v' (sorts t.p).n t op) (condition_by marked v c (sorts t.p).n t op) (condition_by marked v' c' (sorts t.p).n t op)
  unfolding value_by condition_by apply settles
  alike_by Constant h place input = alike_scalar (2 ^ t.sort.m) (same_agree true t.p)
  alike_by Variable h place input = variable_alike (eqb t.sort.m 0) (marked t) refl (input refl)
  alike_by (Apply f) h place input =
      alike_scalar (2 ^ t.sort.m)
      (op-independence f (sorts t.p).n (v t.p).num (v' t.p).num (v t.q).num (v' t.q).num (c t.p).free (c' t.p).free (c t.q).free (c' t.q).free
      (fitted f h place v fit) (fitted f h place v' fit') (alike t.p).whole (alike t.q).whole)
  alike_by Ite h place input =
      let parts = three (boolean (sorts t.p)) (same_sort (sorts t.q) t.sort) (same_sort (sorts t.r) t.sort) h in
      let mq : (sorts t.q).m ≡ t.sort.m = (same_sort_lem (sorts t.q) t.sort parts.1).m in
      let mr : (sorts t.r).m ≡ t.sort.m = (same_sort_lem (sorts t.r) t.sort parts.2).m in
      record {
        whole = agree_unless (array t.sort) (branches_alike (λ u. u.num) (λ d. d.free) (λ d. d.free) (alike t.q).whole (alike t.r).whole);
        read = λ j b d. branches_alike (λ u. u.cell j) (λ e. e.read_free j d) (λ e. e.read_free j d)
            ((alike t.q).read j (subst (λ (n : ℕ). j < 2 ^ n) (sym mq) b) d) ((alike t.r).read j (subst (λ (n : ℕ). j < 2 ^ n) (sym mr) b) d);
        shut = λ j. (
          choice_shut (c t.p).free (holds (v t.p).num) _ _ _ ((alike t.q).shut j).0 ((alike t.r).shut j).0,
          choice_shut (c' t.p).free (holds (v' t.p).num) _ _ _ ((alike t.q).shut j).1 ((alike t.r).shut j).1,
        );
      }
  alike_by Select h place input =
      alike_scalar (2 ^ t.sort.m) (select_alike (c t.q).free (c' t.q).free (alike t.q).whole (index_below h (two_placed i t place).1))
  alike_by Store h place input =
      let m : (sorts t.p).m ≡ t.sort.m = (same_sort_lem (sorts t.p) t.sort (four (array t.sort) (same_sort (sorts t.p) t.sort) (vector_of t.sort.m (sorts t.q)) (vector_of t.sort.n (sorts t.r)) h).1).m in
      let shut = (alike t.p).shut in
      record {
        whole = same_agree false 0;
        read = λ j b d. store_alike j (subst (λ (n : ℕ). j < 2 ^ n) (sym m) b) d;
        shut = λ j. (
          store_shut (c t.q).free (c t.r).free ((c t.p).read_free j false) (eqb (v t.q).num j) (eqb (v t.r).num ((v t.p).cell j)) (shut j).0,
          store_shut (c' t.q).free (c' t.r).free ((c' t.p).read_free j false) (eqb (v' t.q).num j) (eqb (v' t.r).num ((v' t.p).cell j)) (shut j).1,
        );
      }
  alike_by Unknown h place input = alike_scalar (2 ^ t.sort.m) (same_agree false 0)

-- The lists of values and conditions, term by term

-- past a fold's end there is the default
fold-past : {A : Type 0} (step : List A → ℕ → A) (d : A) (k i : ℕ) → (i < k → ⊥) → get_or (fold step k) i d ≡ d
fold-past step d k i b = get_or-eq_default (fold step k) d (rw (length-fold step k) (omega arith))

value-past : (w : List ℕ) (I : Interpretation) (k i : ℕ) → (i < k → ⊥) → value_in (values w I k) i ≡ scalar_value 0
value-past w I k i b = fold-past (λ vs j. value_from w I (value_in vs) (term_at w j)) (scalar_value 0) k i b

module _ (w : List ℕ) (marked : Term → Bool) (I : Interpretation) where
  -- of a term that is passed the list has its condition
  pub condition_below : (k i : ℕ) → i < k → condition_in (conditions w marked I k) i ≡ condition_at w marked I i
  condition_below k i b = fold-below (λ cs j. condition_from w marked (value_in (values w I j)) (condition_in cs) (term_at w j)) (plain false) k i b

  pub condition_past : (k i : ℕ) → (i < k → ⊥) → condition_in (conditions w marked I k) i ≡ plain false
  condition_past k i b = fold-past (λ cs j. condition_from w marked (value_in (values w I j)) (condition_in cs) (term_at w j)) (plain false) k i b

-- The table, term by term

module _ (limit : ℕ) (w : List ℕ) (marked : Term → Bool) (I I' : Interpretation) (f : WellFormed limit w) (inputs : FitInputs w I) (inputs' : FitInputs w I') (agree : AgreeUnmarked w marked I I') where
  -- of term i the lists of the first k terms say the same in both runs
  abbrev AlikeIn : ℕ → ℕ → Type 0
  AlikeIn k i = Alike (2 ^ (sort_at w i).m) (value_in (values w I k) i) (value_in (values w I' k) i) (condition_in (conditions w marked I k) i) (condition_in (conditions w marked I' k) i)

  -- term k is alike in both runs
  abbrev AlikeAt : ℕ → Type 0
  AlikeAt k = Alike (2 ^ (sort_at w k).m) (value_at w I k) (value_at w I' k) (condition_at w marked I k) (condition_at w marked I' k)

  -- a passed term's by what is known of it, another's by default
  alike_in : (k : ℕ) → ((i : ℕ) → i < k → AlikeAt i) → (i : ℕ) → AlikeIn k i
  alike_in k before i = go (dec_lt i k)
    where
      go : Dec (i < k) → AlikeIn k i
      go (yes l) = renamed (value-below w I k i l) (value-below w I' k i l) (condition_below w marked I k i l) (condition_below w marked I' k i l) (before i l)
      go (no l) = renamed (value-past w I k i l) (value-past w I' k i l) (condition_past w marked I k i l) (condition_past w marked I' k i l) (alike_scalar (2 ^ (sort_at w i).m) (same_agree false 0))

  -- the values of the terms before it fit
  fits_before : (J : Interpretation) → FitInputs w J → (k : ℕ) → k < terms w → (i : ℕ) → i < k → Fit (sort_at w i) (value_in (values w J k) i)
  fits_before J fit k b i l = subst (Fit (sort_at w i)) (sym (value-below w J k i l)) (values_fit limit w J f fit i (omega arith))

  -- one term, those before it being known to be alike
  alike_step : (k : ℕ) → k < terms w → ((i : ℕ) → i < k → AlikeAt i) → AlikeAt k
  alike_step k b before =
      let x = term_at w k in
      let s = f.sound k b in
      alike_by marked I I' (value_in (values w I k)) (value_in (values w I' k)) (condition_in (conditions w marked I k)) (condition_in (conditions w marked I' k)) (sort_at w) x k
      (alike_in k before)
      (fits_before I inputs k b) (fits_before I' inputs' k b)
      (op_of x.op) (typing w k s) s.is_placed (agree k b)

  -- every term, by induction
  alike_within : (n k : ℕ) → k < n → k < terms w → AlikeAt k
  alike_within zero k b l = absurd (not-suc-le-zero b)
  alike_within (suc n) k b l = alike_step k l (λ i m. alike_within n i (omega arith) (omega arith))

-- every term of a well-formed table is alike in two runs that agree on the unmarked inputs
pub alike_at : (limit : ℕ) (w : List ℕ) (marked : Term → Bool) (I I' : Interpretation) → WellFormed limit w → FitInputs w I → FitInputs w I' → AgreeUnmarked w marked I I'
    → (k : ℕ) → k < terms w → Alike (2 ^ (sort_at w k).m) (value_at w I k) (value_at w I' k) (condition_at w marked I k) (condition_at w marked I' k)
alike_at limit w marked I I' f inputs inputs' agree k b = alike_within limit w marked I I' f inputs inputs' agree (suc k) k (omega arith) b

-- the rule is one of them
pub independence : Independence
independence limit w marked I I' f inputs inputs' agree =
    let some : 0 < terms w = f.some in
    let rule = (alike_at limit w marked I I' f inputs inputs' agree (pred (terms w)) (omega arith)).whole in
    record { condition = rule.condition; rule = λ h. ap holds (rule.value h) }
