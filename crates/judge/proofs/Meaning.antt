-- What the code computes of a term is its value and the truth of its condition.
-- Assumes nothing.
use mathlib.Core.Path.{◌≡◌, refl, sym, ap, ap₂, subst, ◌∙◌}
use mathlib.Core.Bool.{Bool, true, false, cond, not, ◌&&◌}
use mathlib.Core.List.{List, [], ◌∷◌, map, ◌++◌}
use Prim.Native.Nat.{ℕ, zero, suc, ◌+◌, ◌≤◌, ◌<◌}
use native.Mathlib.Decide.{dec_lt, ℕ_discrete}
use native.Mathlib.Nat.{not-suc-le-zero, zero-add, add_assoc}
use native.Mathlib.Omega.{arith}
use lib.Dec.{eqb}
use lib.ListN.{length, get_or, length-append, get_or-append}
use lib.Seq.{get_or-append-add}
use Rattle.ops.specs.declared.Op.{Op}
use Rattle.ops.specs.declared.Op.TheVariants.{Constant, Variable, Apply, Ite, Select, Store, Unknown}
use Rattle.ops.specs.Numbers.{op_of}
use Rattle.ops.specs.Meaning.{bit, holds}
use Rattle.ops.specs.Condition.{chosen, settles}
use Rattle.ops.proofs.Booleans.{never, and_parts, and_shut}
use Rattle.table.specs.declared.words.Term.{Term}
use Rattle.table.specs.Terms.{terms, term_at, sort_at, array, vector_of}
use Rattle.table.specs.Ranks.{slotted, immediate, picks, reads}
use Rattle.table.specs.Faults.{is_read, is_store}
use Rattle.table.specs.WellFormed.{WellFormed}
use Rattle.table.proofs.FoldLaws.{length-map-fold, map-fold_in}
use Rattle.table.proofs.SoundTerms.{stacked}
use Rattle.setting.specs.Interpretation.{Value, Interpretation, interpret}
use Rattle.evaluate.specs.Values.{value_by, value_in, values, value_at, numbers}
use Rattle.evaluate.proofs.Folds.{value-below, number_in}
use Rattle.evaluate.proofs.Meaning.{reads_select, number-below, cell_of, variable_ends, cell_variable, is-store, store-placed, store-array, cell-store, is-choice, choice-placed, choice_arrays, cell-choice, array_by, read_is, value_read, number_is}
use Rattle.table.proofs.OperandSorts.{three, typing_as, placing_as, two_placed}
use Rattle.judge.specs.declared.reads.Labelled.{Labelled}
use Rattle.judge.specs.Code.Leaves.{leaves_at}
use Rattle.judge.specs.Conditions.{Condition, plain, settled, condition_by, condition_in, condition_from, conditions, condition_at, truths}
use Rattle.judge.specs.Code.Labelled.{truth_in, overlaid, picked_by, either_of, labelled_at, labelled_by, plain_labelled, labelled_of}
use Rattle.judge.specs.Code.Reach.{passed_by, reach_at, held_at}
use Rattle.judge.proofs.Alike.{choice_shut, store_shut, condition_below, condition_past}
use Rattle.judge.proofs.LeafLaws.{leaves_variable, leaves_store, leaves_choice}
use Rattle.judge.proofs.Trees.{overlaid-passed, either_first, either_second, labelled_variable, labelled_store, labelled_choice, read-picked}
use Rattle.judge.proofs.Reaching.{at_variable, past-store, at_store-here, at_choice-here, into_first, into_second}

pub holds-bit : (b : Bool) → holds (bit b) ≡ b
holds-bit true = refl
holds-bit false = refl

mapped : (g : ℕ → ℕ) (l : List ℕ) (m : ℕ) → m < length l → get_or (map g l) m 0 ≡ g (get_or l m 0)
mapped g [] m b = absurd (not-suc-le-zero b)
mapped g (a ∷ l) zero b = refl
mapped g (a ∷ l) (suc m) b = mapped g l m (omega arith)

-- The list of truths, term by term

module _ (w : List ℕ) (marked : Term → Bool) (I : Interpretation) where
  pub length-truths : (k : ℕ) → length (truths w marked I k) ≡ k
  length-truths k = length-map-fold (λ cs i. condition_from w marked (value_in (values w I i)) (condition_in cs) (term_at w i)) (λ c. bit c.free) k

  pub truth_in_lem : (k i : ℕ) → truth_in (truths w marked I k) i ≡ (condition_in (conditions w marked I k) i).free
  truth_in_lem k i =
      ap holds (map-fold_in (λ cs i. condition_from w marked (value_in (values w I i)) (condition_in cs) (term_at w i)) (λ c. bit c.free) (plain false) k i)
      ∙ holds-bit (condition_in (conditions w marked I k) i).free

-- A read at an index that is not free is not free

shut_by : (marked : Term → Bool) (v : ℕ → Value) (c : ℕ → Condition) (width : ℕ) (t : Term) (j : ℕ) → ((i : ℕ) → (c i).read_free j false ≡ false) → (op : Op) → (condition_by marked v c width t op).read_free j false ≡ false
unfolding condition_by
shut_by marked v c width t j shut Constant = refl
shut_by marked v c width t j shut Variable = and_shut (not (marked t))
shut_by marked v c width t j shut (Apply f) = and_shut (settled marked v c width t (Apply f))
shut_by marked v c width t j shut Ite = choice_shut (c t.p).free (holds (v t.p).num) ((c t.q).read_free j false) ((c t.r).read_free j false) (eqb ((v t.q).cell j) ((v t.r).cell j)) (shut t.q) (shut t.r)
shut_by marked v c width t j shut Select = and_shut ((c t.p).read_free (v t.q).num (c t.q).free)
shut_by marked v c width t j shut Store = store_shut (c t.q).free (c t.r).free ((c t.p).read_free j false) (eqb (v t.q).num j) (eqb (v t.r).num ((v t.p).cell j)) (shut t.p)
shut_by marked v c width t j shut Unknown = refl

module _ (w : List ℕ) (marked : Term → Bool) (I : Interpretation) (j : ℕ) where
  shut_in : (k : ℕ) → ((i : ℕ) → i < k → (condition_at w marked I i).read_free j false ≡ false) → (i : ℕ) → (condition_in (conditions w marked I k) i).read_free j false ≡ false
  shut_in k before i = go (dec_lt i k)
    where
      go : Dec (i < k) → (condition_in (conditions w marked I k) i).read_free j false ≡ false
      go (yes b) = ap (λ (c : Condition). c.read_free j false) (condition_below w marked I k i b) ∙ before i b
      go (no b) = ap (λ (c : Condition). c.read_free j false) (condition_past w marked I k i b)

  shut_within : (n k : ℕ) → k < n → (condition_at w marked I k).read_free j false ≡ false
  shut_within zero k b = absurd (not-suc-le-zero b)
  shut_within (suc n) k b =
      let x = term_at w k in
      shut_by marked (value_in (values w I k)) (condition_in (conditions w marked I k)) (sort_at w x.p).n x j (shut_in k (λ i c. shut_within n i (omega arith))) (op_of x.op)

  pub unfree-index : (k : ℕ) → (condition_at w marked I k).read_free j false ≡ false
  unfree-index k = shut_within (suc k) k (omega arith)

-- One array term

module _ (limit : ℕ) (w : List ℕ) (marked : Term → Bool) (row : List ℕ) (look : ℕ → ℕ → ℕ → ℕ) (f : WellFormed limit w) where
  abbrev I : Interpretation
  I = interpret row look

  -- value and condition of term i
  abbrev W : ℕ → Value
  W i = value_at w I i

  abbrev K : ℕ → Condition
  K i = condition_at w marked I i

  truth_below : (k i : ℕ) → i < k → truth_in (truths w marked I k) i ≡ (K i).free
  truth_below k i b = truth_in_lem w marked I k i ∙ ap (λ (c : Condition). c.free) (condition_below w marked I k i b)

  -- what a read of array a at j is, by the meanings
  abbrev meant : ℕ → ℕ → Bool → Labelled
  meant a j cj = record { value = (W a).cell j; free = (K a).read_free j cj }

  -- from number first on, cells holds what the variables of array a hold at j
  abbrev pub Had : List ℕ → ℕ → ℕ → ℕ → Type 0
  Had cells j a first = (m : ℕ) → m < length (leaves_at w a) → get_or cells (first + m) 0 ≡ cell_of limit w row look f j (get_or (leaves_at w a) m 0)

  module _ (k a : ℕ) (c : a < k) (d : a < terms w) (r : array (sort_at w a) ≡ true) (j : ℕ) (cj : Bool) where
    abbrev x : Term
    x = term_at w a

    abbrev ns : List ℕ
    ns = numbers w I k

    abbrev ts : List ℕ
    ts = truths w marked I k

    abbrev v : ℕ → Value
    v = value_in (values w I a)

    abbrev co : ℕ → Condition
    co = condition_in (conditions w marked I a)

    -- what the room holds of an operand, and what the meanings are made from
    front : (i : ℕ) → i < a → get_or ns i 0 ≡ (W i).num
    front i b = number-below limit w I f k i (omega arith)

    truth : (i : ℕ) → i < a → truth_in ts i ≡ (K i).free
    truth i b = truth_below k i (omega arith)

    val : (i : ℕ) → i < a → v i ≡ W i
    val i b = value-below w I a i b

    con : (i : ℕ) → i < a → co i ≡ K i
    con i b = condition_below w marked I a i b

    free_by : (op : Op) → op_of x.op ≡ op → (K a).read_free j cj ≡ (condition_by marked v co (sort_at w x.p).n x op).read_free j cj
    free_by op e = ap (λ (o : Op). (condition_by marked v co (sort_at w x.p).n x o).read_free j cj) e

    own_by : (op : Op) → op_of x.op ≡ op → (K a).free ≡ (condition_by marked v co (sort_at w x.p).n x op).free
    own_by op e = ap (λ (o : Op). (condition_by marked v co (sort_at w x.p).n x o).free) e

    -- a variable
    input-free : op_of x.op ≡ Variable → truth_in ts a && cj ≡ (K a).read_free j cj
    unfolding condition_by
    input-free e = ap (λ (b : Bool). b && cj) (truth_below k a c ∙ own_by Variable e) ∙ sym (free_by Variable e)

    -- a store: what is meant of it, by what the room holds of its operands
    abbrev store_meant : Labelled → Labelled
    store_meant below = overlaid ns ts x j cj below

    store_meant_lem : op_of x.op ≡ Store → meant a j cj ≡ store_meant (meant x.p j cj)
    unfolding condition_by
    store_meant_lem e =
        let place = store-placed limit w I f k a c d r e in
        let nq = front x.q place.1 in
        let nr = front x.r place.2 in
        let tq = truth x.q place.1 in
        let tr = truth x.r place.2 in
        let vs = cell-store limit w I f k a c d r e j in
        let fs : (K a).read_free j cj ≡ chosen ((K x.q).free && cj) (eqb (W x.q).num j) (K x.r).free ((K x.p).read_free j cj) (eqb (W x.r).num ((W x.p).cell j)) =
        free_by Store e
        ∙ (λ i. chosen ((con x.q place.1 i).free && cj) (eqb (val x.q place.1 i).num j) (con x.r place.2 i).free ((con x.p place.0 i).read_free j cj)
        (eqb (val x.r place.2 i).num ((val x.p place.0 i).cell j))) in
        (λ i. record { value = vs i; free = fs i })
        ∙ sym (λ i. record { value = cond (eqb (get_or ns x.q 0) j) (get_or ns x.r 0) ((W x.p).cell j); free = chosen (tq i && cj) (eqb (nq i) j) (tr i) ((K x.p).read_free j cj) (eqb (nr i) ((W x.p).cell j)) })

    -- a choice likewise
    abbrev choice_meant : Labelled → Labelled → Labelled
    choice_meant q s = either_of ns ts x q s

    choice_meant_lem : op_of x.op ≡ Ite → meant a j cj ≡ choice_meant (meant x.q j cj) (meant x.r j cj)
    unfolding condition_by
    choice_meant_lem e =
        let place = choice-placed limit w I f k a c d r e in
        let np = front x.p place.0 in
        let tp = truth x.p place.0 in
        let vs = cell-choice limit w I f k a c d r e j in
        let fs : (K a).read_free j cj ≡ chosen (K x.p).free (holds (W x.p).num) ((K x.q).read_free j cj) ((K x.r).read_free j cj) (eqb ((W x.q).cell j) ((W x.r).cell j)) =
        free_by Ite e
        ∙ (λ i. chosen (con x.p place.0 i).free (holds (val x.p place.0 i).num) ((con x.q place.1 i).read_free j cj) ((con x.r place.2 i).read_free j cj)
        (eqb ((val x.q place.1 i).cell j) ((val x.r place.2 i).cell j))) in
        (λ i. record { value = vs i; free = fs i })
        ∙ sym (λ i. record { value = cond (holds (get_or ns x.p 0)) ((W x.q).cell j) ((W x.r).cell j); free = chosen (tp i) (holds (np i)) ((K x.q).read_free j cj) ((K x.r).read_free j cj) (eqb ((W x.q).cell j) ((W x.r).cell j)) })

    -- from the cells
    module _ (cells : List ℕ) (later : (i : ℕ) → i < a → array (sort_at w i) ≡ true → (first : ℕ) → Had cells j i first → labelled_at w ns ts cells j cj i first ≡ meant i j cj) where
      input_labelled : op_of x.op ≡ Variable → (first : ℕ) → Had cells j a first → labelled_at w ns ts cells j cj a first ≡ meant a j cj
      input_labelled e first had =
          let ends = variable_ends limit w I f k a c d r e in
          let one = leaves_variable w (stacked limit w f) a ends.0 ends.1 in
          let cell : get_or cells (first + 0) 0 ≡ cell_of limit w row look f j x.p = had 0 (omega (arith, ap length one)) ∙ ap (λ (l : List ℕ). cell_of limit w row look f j (get_or l 0 0)) one in
          let none : first + 0 ≡ first = omega arith in
          let vs : get_or cells first 0 ≡ (W a).cell j = ap (λ (i : ℕ). get_or cells i 0) (sym none) ∙ cell ∙ sym (cell_variable limit w I f k a c d r e j) in
          let fs = input-free e in
          labelled_variable w ns ts cells (stacked limit w f) j cj a ends.0 ends.1 first ∙ (λ i. record { value = vs i; free = fs i })

      store_labelled : op_of x.op ≡ Store → (first : ℕ) → Had cells j a first → labelled_at w ns ts cells j cj a first ≡ meant a j cj
      store_labelled e first had =
          let st = is-store limit w I f k a c d r e in
          let same = leaves_store w (stacked limit w f) a st in
          let place = store-placed limit w I f k a c d r e in
          let below = later x.p place.0 (store-array limit w I f k a c d r e) first (subst (λ (l : List ℕ). (m : ℕ) → m < length l → get_or cells (first + m) 0 ≡ cell_of limit w row look f j (get_or l m 0)) same had) in
          labelled_store w ns ts cells (stacked limit w f) j cj a st first ∙ ap store_meant below ∙ sym (store_meant_lem e)

      choice_labelled : op_of x.op ≡ Ite → (first : ℕ) → Had cells j a first → labelled_at w ns ts cells j cj a first ≡ meant a j cj
      choice_labelled e first had =
          let ch = is-choice limit w I f k a c d r e in
          let arrays = choice_arrays limit w I f k a c d r e in
          let place = choice-placed limit w I f k a c d r e in
          let lq = leaves_at w x.q in
          let lr = leaves_at w x.r in
          let all : (m : ℕ) → m < length (lq ++ lr) → get_or cells (first + m) 0 ≡ cell_of limit w row look f j (get_or (lq ++ lr) m 0) = subst (λ (l : List ℕ). (m : ℕ) → m < length l → get_or cells (first + m) 0 ≡ cell_of limit w row look f j (get_or l m 0)) (leaves_choice w (stacked limit w f) a ch) had in
          let long = length-append lq lr in
          let q = later x.q place.1 arrays.0 first (λ m b. all m (omega (arith, long, b)) ∙ ap (cell_of limit w row look f j) (get_or-append lq lr 0 m b)) in
          let r' = later x.r place.2 arrays.1 (first + length lq)
          (λ m b. ap (λ (i : ℕ). get_or cells i 0) (add_assoc first (length lq) m) ∙ all (length lq + m) (omega (arith, long, b)) ∙ ap (cell_of limit w row look f j) (get_or-append-add lq lr m 0)) in
          labelled_choice w ns ts cells (stacked limit w f) j cj a ch first ∙ ap₂ choice_meant q r' ∙ sym (choice_meant_lem e)

      labelled_step : (first : ℕ) → Had cells j a first → labelled_at w ns ts cells j cj a first ≡ meant a j cj
      labelled_step = array_by limit w I f k a c d r input_labelled store_labelled choice_labelled

  labelled_within_lem : (n k a : ℕ) → a < n → a < k → a < terms w → array (sort_at w a) ≡ true → (j : ℕ) (cj : Bool) (cells : List ℕ) (first : ℕ) → Had cells j a first
      → labelled_at w (numbers w I k) (truths w marked I k) cells j cj a first ≡ meant a j cj
  labelled_within_lem zero k a b c d r j cj cells = absurd (not-suc-le-zero b)
  labelled_within_lem (suc n) k a b c d r j cj cells = labelled_step k a c d r j cj cells (λ i l arr first had. labelled_within_lem n k i (omega arith) (omega arith) (omega arith) arr j cj cells first had)

  -- Where free tests lead at a free index the same is read

  pub record Reached (k j a to : ℕ) : Type 0 where
    pub low : to ≤ a
    pub kind : array (sort_at w to) ≡ true
    pub same : meant a j true ≡ meant to j true

  module _ (k a : ℕ) (c : a < k) (d : a < terms w) (r : array (sort_at w a) ≡ true) (j : ℕ) (later : (i : ℕ) → i < a → array (sort_at w i) ≡ true → Reached k j i (reach_at w (numbers w I k) (truths w marked I k) j i)) where
    abbrev y : Term
    y = term_at w a

    abbrev Ns : List ℕ
    Ns = numbers w I k

    abbrev Ts : List ℕ
    Ts = truths w marked I k

    stays : a ≡ reach_at w Ns Ts j a → Reached k j a (reach_at w Ns Ts j a)
    stays e = subst (Reached k j a) e (record { low = omega arith; kind = r; same = refl })

    goes : (i : ℕ) → i < a → array (sort_at w i) ≡ true → meant a j true ≡ meant i j true → reach_at w Ns Ts j i ≡ reach_at w Ns Ts j a → Reached k j a (reach_at w Ns Ts j a)
    goes i b arr m e =
        let on = later i b arr in
        subst (Reached k j a) e (record { low = omega (arith, on.low, b); kind = on.kind; same = m ∙ on.same })

    variable_reach : op_of y.op ≡ Variable → Reached k j a (reach_at w Ns Ts j a)
    variable_reach e =
        let ends = variable_ends limit w I f k a c d r e in
        stays (at_variable w Ns Ts (stacked limit w f) j a y refl ends.0 ends.1)

    store_reach : op_of y.op ≡ Store → Reached k j a (reach_at w Ns Ts j a)
    store_reach e = by (passed_by Ns Ts y j) refl
      where
        by : (z : Bool) → passed_by Ns Ts y j ≡ z → Reached k j a (reach_at w Ns Ts j a)
        by true p =
            let place = store-placed limit w I f k a c d r e in
            goes y.p place.0 (store-array limit w I f k a c d r e)
            (store_meant_lem k a c d r j true e ∙ sym (overlaid-passed Ns Ts y j (meant y.p j true) p))
            (past-store w Ns Ts (stacked limit w f) j a y refl (is-store limit w I f k a c d r e) p)
        by false p = stays (at_store-here w Ns Ts (stacked limit w f) j a y refl (is-store limit w I f k a c d r e) p)

    choice_reach : op_of y.op ≡ Ite → Reached k j a (reach_at w Ns Ts j a)
    choice_reach e = by (truth_in Ts y.p) refl (ℕ_discrete (get_or Ns y.p 0) 1)
      where
        by : (z : Bool) → truth_in Ts y.p ≡ z → Dec (get_or Ns y.p 0 ≡ 1) → Reached k j a (reach_at w Ns Ts j a)
        by true p (yes h) =
            goes y.q (choice-placed limit w I f k a c d r e).1 (choice_arrays limit w I f k a c d r e).0
            (choice_meant_lem k a c d r j true e ∙ sym (either_first Ns Ts y (meant y.q j true) (meant y.r j true) p h))
            (into_first w Ns Ts (stacked limit w f) j a y refl (is-choice limit w I f k a c d r e) p h)
        by true p (no h) =
            goes y.r (choice-placed limit w I f k a c d r e).2 (choice_arrays limit w I f k a c d r e).1
            (choice_meant_lem k a c d r j true e ∙ sym (either_second Ns Ts y (meant y.q j true) (meant y.r j true) p h))
            (into_second w Ns Ts (stacked limit w f) j a y refl (is-choice limit w I f k a c d r e) p h)
        by false p h = stays (at_choice-here w Ns Ts (stacked limit w f) j a y refl (is-choice limit w I f k a c d r e) p)

    reach_step : Reached k j a (reach_at w Ns Ts j a)
    reach_step = array_by limit w I f k a c d r variable_reach store_reach choice_reach

  reach_within_lem : (n k a : ℕ) → a < n → a < k → a < terms w → array (sort_at w a) ≡ true → (j : ℕ) → Reached k j a (reach_at w (numbers w I k) (truths w marked I k) j a)
  reach_within_lem zero k a b c d r j = absurd (not-suc-le-zero b)
  reach_within_lem (suc n) k a b c d r j = reach_step k a c d r j (λ i l arr. reach_within_lem n k i (omega arith) (omega arith) (omega arith) arr j)

  -- what is read there, from the cells of its variables, or from none where a store is picked
  module _ (k a : ℕ) (c : a < k) (d : a < terms w) (r : array (sort_at w a) ≡ true) (j : ℕ) (cells : List ℕ) where
    abbrev to : ℕ
    to = reach_at w (numbers w I k) (truths w marked I k) j a

    abbrev right : List ℕ
    right = map (cell_of limit w row look f j) (leaves_at w to)

    right_had : Had right j to 0
    right_had m b = ap (λ (i : ℕ). get_or right i 0) (zero-add m) ∙ mapped (cell_of limit w row look f j) (leaves_at w to) m b

    pub reached_labelled : (held_at w (numbers w I k) (truths w marked I k) j to ≡ false → Had cells j to 0)
        → labelled_at w (numbers w I k) (truths w marked I k) cells j true to 0 ≡ meant a j true
    reached_labelled had = by (held_at w (numbers w I k) (truths w marked I k) j to) refl ∙ sym on.same
      where
        on : Reached k j a to
        on = reach_within_lem (suc a) k a (omega arith) c d r j

        meant_by : (l : List ℕ) → Had l j to 0 → labelled_at w (numbers w I k) (truths w marked I k) l j true to 0 ≡ meant to j true
        meant_by l h = labelled_within_lem (suc to) k to (omega arith) (omega (arith, on.low)) (omega (arith, on.low)) on.kind j true l 0 h

        by : (z : Bool) → held_at w (numbers w I k) (truths w marked I k) j to ≡ z → labelled_at w (numbers w I k) (truths w marked I k) cells j true to 0 ≡ meant to j true
        by true e =
            let parts = and_parts (is_store (term_at w to)) (picked_by (numbers w I k) (truths w marked I k) (term_at w to) j true) e in
            sym (read-picked w (numbers w I k) (truths w marked I k) cells (stacked limit w f) j true to (term_at w to) refl 0 parts.0 parts.1)
            ∙ read-picked w (numbers w I k) (truths w marked I k) right (stacked limit w f) j true to (term_at w to) refl 0 parts.0 parts.1
            ∙ meant_by right right_had
        by false e = meant_by cells (had e)

-- A term that is no read: its truth by its operator

module _ (w : List ℕ) (marked : Term → Bool) (front ts : List ℕ) (v : ℕ → Value) (c : ℕ → Condition) (x : Term) (is : (k : ℕ) → get_or front k 0 ≡ (v k).num) (free : (k : ℕ) → truth_in ts k ≡ (c k).free) where
  abbrev width : ℕ
  width = (sort_at w x.p).n

  abbrev truth_by : Op → Bool
  truth_by op =
      cond (immediate op) true
      (cond (slotted op) (not (marked x))
      (not (picks op && array x.sort) && settles op width (get_or front x.p 0) (get_or front x.q 0) (get_or front x.r 0) (truth_in ts x.p) (truth_in ts x.q) (truth_in ts x.r)))

  settles-same : (op : Op)
      → settles op width (get_or front x.p 0) (get_or front x.q 0) (get_or front x.r 0) (truth_in ts x.p) (truth_in ts x.q) (truth_in ts x.r)
      ≡ settles op width (v x.p).num (v x.q).num (v x.r).num (c x.p).free (c x.q).free (c x.r).free
  settles-same op = λ i. settles op width (is x.p i) (is x.q i) (is x.r i) (free x.p i) (free x.q i) (free x.r i)

  truth_by_lem : (op : Op) → reads op ≡ false → truth_by op ≡ (condition_by marked v c width x op).free
  unfolding condition_by settles
  truth_by_lem Constant h = refl
  truth_by_lem Variable h = refl
  truth_by_lem (Apply f) h = settles-same (Apply f)
  truth_by_lem Ite h = ap (λ (b : Bool). not (array x.sort) && b) (settles-same Ite)
  truth_by_lem Select h = never (sym h)
  truth_by_lem Store h = refl
  truth_by_lem Unknown h = refl

-- Any term

module _ (limit : ℕ) (w : List ℕ) (marked : Term → Bool) (row : List ℕ) (look : ℕ → ℕ → ℕ → ℕ) (f : WellFormed limit w) (k : ℕ) (b : k < terms w) where
  abbrev In : Interpretation
  In = interpret row look

  abbrev N : List ℕ
  N = numbers w In k

  abbrev T : List ℕ
  T = truths w marked In k

  abbrev here : Term
  here = term_at w k

  -- the read's index
  abbrev pub index_of : ℕ
  index_of = get_or N here.q 0

  -- the array that it reaches
  abbrev pub array_of : ℕ
  array_of = reach_at w N T index_of here.p

  -- the cells that answer a read, by its index's condition: those of the variables of the array that it reaches, none where a store
  -- is picked, or its value alone
  abbrev pub Answers : Bool → ℕ → List ℕ → Type 0
  Answers true to cells = (to ≡ array_of) × (held_at w N T index_of array_of ≡ false → Had limit w marked row look f cells index_of array_of 0)
  Answers false to cells = get_or cells 0 0 ≡ value_read limit w row look f k b

  -- either way its array is read as it is meant
  answered : (to : ℕ) (cells : List ℕ) (pb : here.p < k) → array (sort_at w here.p) ≡ true → (cj : Bool) → Answers cj to cells
      → labelled_by cj w N T here to cells ≡ record { value = (value_at w In here.p).cell index_of; free = (condition_at w marked In here.p).read_free index_of cj }
  answered to cells pb arr true h =
      ap (λ (i : ℕ). labelled_at w N T cells index_of true i 0) h.0 ∙ reached_labelled limit w marked row look f k here.p pb (omega arith) arr index_of cells h.1
  answered to cells pb arr false h =
      let vs = h ∙ sym (ap (λ (v : Value). v.cell index_of) (sym (value-below w In k here.p pb)) ∙ read_is limit w row look f k here.p pb (omega arith) arr index_of) in
      let fs = sym (unfree-index w marked In index_of here.p) in
      λ i. record { value = vs i; free = fs i }

  read_here_lem : (to : ℕ) (cells : List ℕ) → Answers (truth_in T here.q) to cells → op_of here.op ≡ Select
      → ◌≡◌ {A = Labelled} (labelled_by (truth_in T here.q) w N T here to cells) (record { value = (value_at w In k).num; free = (condition_at w marked In k).free })
  unfolding value_by condition_by
  read_here_lem to cells h e =
      let place = two_placed k here (placing_as w k (f.sound k b) Select e) in
      let pb : here.p < k = place.0 in
      let sorts = three (array (sort_at w here.p)) (vector_of (sort_at w here.p).m (sort_at w here.q)) (vector_of (sort_at w here.p).n (sort_at w k)) (typing_as w k (f.sound k b) Select e) in
      let nq = number_in w In k here.q in
      let tq = truth_in_lem w marked In k here.q in
      let vp = value-below w In k here.p pb in
      let cp = condition_below w marked In k here.p pb in
      answered to cells pb sorts.0 (truth_in T here.q) h
      ∙ (λ i. record { value = (value_at w In here.p).cell (nq i); free = (condition_at w marked In here.p).read_free (nq i) (tq i) })
      ∙ sym (λ i. record { value = (vp i).cell (value_in (values w In k) here.q).num; free = (cp i).read_free (value_in (values w In k) here.q).num (condition_in (conditions w marked In k) here.q).free })
      ∙ sym (ap (λ (o : Op). record { value = (value_by In (value_in (values w In k)) (sort_at w here.p).n here o).num; free = (condition_by marked (value_in (values w In k)) (condition_in (conditions w marked In k)) (sort_at w here.p).n here o).free }) e)

  pub labelled_is : (to : ℕ) (cells : List ℕ) → (is_read here ≡ true → Answers (truth_in T here.q) to cells)
      → labelled_of w marked row N T here to cells ≡ record { value = (value_at w In k).num; free = (condition_at w marked In k).free }
  unfolding labelled_of
  labelled_is to cells h = go (is_read here) refl
    where
      go : (z : Bool) → is_read here ≡ z
          → cond z (labelled_by (truth_in T here.q) w N T here to cells) (plain_labelled w marked row N T here)
          ≡ record { value = (value_at w In k).num; free = (condition_at w marked In k).free }
      go true e = read_here_lem to cells (h e) (reads_select (op_of here.op) e)
      go false e =
          let vs = number_is limit w row look f k b 0 (λ r. never (sym e ∙ r)) in
          let fs = truth_by_lem w marked N T (value_in (values w In k)) (condition_in (conditions w marked In k)) here (number_in w In k) (truth_in_lem w marked In k) (op_of here.op) e in
          λ i. record { value = vs i; free = fs i }
