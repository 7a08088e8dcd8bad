-- What the code computes of a term is its value: a read along its array is the array's cell, and a number is the value's.
-- Assumes nothing.
use mathlib.Core.Path.{◌≡◌, refl, sym, ap, ap₂, ◌∙◌}
use mathlib.Core.Bool.{Bool, true, false, cond, ◌&&◌}
use mathlib.Core.Logic.{⊎_elim}
use mathlib.Core.List.{List}
use Prim.Native.Nat.{ℕ, zero, suc, ◌<◌}
use native.Mathlib.Nat.{not-suc-le-zero}
use native.Mathlib.Omega.{arith}
use lib.Dec.{eqb, ltb}
use lib.ListN.{get_or}
use borrow.Author.Tests.{ltb-true, ne_eqb}
use Rattle.ops.specs.declared.Op.{Op}
use Rattle.ops.specs.declared.Op.TheVariants.{Constant, Variable, Apply, Ite, Select, Store, Unknown}
use Rattle.ops.specs.Numbers.{op_of}
use Rattle.ops.specs.Meaning.{apply, holds}
use Rattle.ops.proofs.Booleans.{never}
use Rattle.table.specs.declared.words.Sort.{Sort}
use Rattle.table.specs.declared.words.Term.{Term}
use Rattle.table.specs.Terms.{terms, term_at, sort_at, boolean, array, vector_of, same_sort}
use Rattle.table.specs.Ranks.{slotted, immediate, picks, reads, writes}
use Rattle.table.specs.Faults.{is_store, is_choice, is_read}
use Rattle.table.specs.WellFormed.{WellFormed}
use Rattle.table.proofs.SoundTerms.{stacked}
use Rattle.setting.specs.Interpretation.{Value, Interpretation, interpret}
use Rattle.evaluate.specs.Values.{scalar_value, array_value, value_by, value_in, values, value_at, numbers}
use Rattle.evaluate.specs.Code.Reads.{read_at}
use Rattle.evaluate.specs.Code.Turns.{variable_number, number_of}
use Rattle.evaluate.proofs.Trees.{read_variable, read-store, read-choice}
use Rattle.evaluate.proofs.Folds.{value-below, number_in}
use Rattle.table.proofs.OperandSorts.{array_op, same_sort_lem, four, op_at, typing, typing_as, placing_as, three, two_placed, three_placed}

-- values by their operator

pub variable_cell_lem : (I : Interpretation) (v : ℕ → Value) (width : ℕ) (x : Term) (j : ℕ) → array x.sort ≡ true → (value_by I v width x Variable).cell j ≡ (I x.p).cell j
unfolding value_by
variable_cell_lem I v width x j r = rw (ne_eqb x.sort.m 0 (λ z. let p : 0 < x.sort.m = ltb-true 0 x.sort.m r in omega arith))

pub store-cell : (I : Interpretation) (v : ℕ → Value) (width : ℕ) (x : Term) (j : ℕ) → (value_by I v width x Store).cell j ≡ cond (eqb (v x.q).num j) (v x.r).num ((v x.p).cell j)
unfolding value_by
store-cell I v width x j = refl

-- of one sort with an array: an array
pub same-array : (a x : Sort) → same_sort a x ≡ true → array x ≡ true → array a ≡ true
same-array a x h r = ap (λ (m : ℕ). ltb 0 m) (same_sort_lem a x h).m ∙ r

pub choice-cell : (I : Interpretation) (v : ℕ → Value) (width : ℕ) (x : Term) (j : ℕ) → (value_by I v width x Ite).cell j ≡ cond (holds (v x.p).num) ((v x.q).cell j) ((v x.r).cell j)
unfolding value_by
choice-cell I v width x j = by (holds (v x.p).num)
  where
    by : (b : Bool) → (cond b (v x.q) (v x.r)).cell j ≡ cond b ((v x.q).cell j) ((v x.r).cell j)
    by true = refl
    by false = refl

-- An array term's cells, from those of the arrays that it stands on; N holds the numbers of the first k terms
module _ (limit : ℕ) (w : List ℕ) (I : Interpretation) (f : WellFormed limit w) where
  -- in the list of the first k values a passed term has its value, and in that of numbers its number
  pub number-below : (k i : ℕ) → i < k → get_or (numbers w I k) i 0 ≡ (value_at w I i).num
  number-below k i b = number_in w I k i ∙ ap (λ (v : Value). v.num) (value-below w I k i b)

  module _ (k a : ℕ) (c : a < k) (d : a < terms w) (r : array (sort_at w a) ≡ true) where
    abbrev x : Term
    x = term_at w a

    abbrev N : List ℕ
    N = numbers w I k

    -- an operand's number
    operand : (i : ℕ) → i < a → (value_in (values w I a) i).num ≡ get_or N i 0
    operand i b = sym (number_in w I a i) ∙ number-below a i b ∙ sym (number-below k i (omega arith))

    -- and its cells
    operand-cell : (i j : ℕ) → i < a → (value_in (values w I a) i).cell j ≡ (value_at w I i).cell j
    operand-cell i j b = ap (λ (v : Value). v.cell j) (value-below w I a i b)

    by_op_lem : (j : ℕ) (op : Op) → op_of x.op ≡ op → (value_at w I a).cell j ≡ (value_by I (value_in (values w I a)) (sort_at w x.p).n x op).cell j
    by_op_lem j op e = ap (λ (o : Op). (value_by I (value_in (values w I a)) (sort_at w x.p).n x o).cell j) e

    -- a variable's
    module _ (e : op_of x.op ≡ Variable) where
      pub variable_ends : (is_store x ≡ false) × (is_choice x ≡ false)
      variable_ends = (ap (λ (o : Op). writes o) e, ap (λ (o : Op). picks o && array x.sort) e)

      pub cell_variable : (j : ℕ) → (value_at w I a).cell j ≡ (I x.p).cell j
      cell_variable j = by_op_lem j Variable e ∙ variable_cell_lem I (value_in (values w I a)) (sort_at w x.p).n x j r

    -- a store's
    module _ (e : op_of x.op ≡ Store) where
      pub is-store : is_store x ≡ true
      is-store = ap (λ (o : Op). writes o) e

      pub store-placed : (x.p < a) × (x.q < a) × (x.r < a)
      store-placed = three_placed a x (placing_as w a (f.sound a d) Store e)

      pub store-array : array (sort_at w x.p) ≡ true
      store-array =
          same-array (sort_at w x.p) (sort_at w a)
          (four (array (sort_at w a)) (same_sort (sort_at w x.p) (sort_at w a)) (vector_of (sort_at w a).m (sort_at w x.q)) (vector_of (sort_at w a).n (sort_at w x.r)) (typing_as w a (f.sound a d) Store e)).1 r

      pub cell-store : (j : ℕ) → (value_at w I a).cell j ≡ cond (eqb (get_or N x.q 0) j) (get_or N x.r 0) ((value_at w I x.p).cell j)
      cell-store j =
          by_op_lem j Store e
          ∙ store-cell I (value_in (values w I a)) (sort_at w x.p).n x j
          ∙ (λ i. cond (eqb (operand x.q store-placed.1 i) j) (operand x.r store-placed.2 i) (operand-cell x.p j store-placed.0 i))

    -- a choice's
    module _ (e : op_of x.op ≡ Ite) where
      pub is-choice : is_choice x ≡ true
      is-choice = ap (λ (o : Op). picks o && array x.sort) e ∙ r

      pub choice-placed : (x.p < a) × (x.q < a) × (x.r < a)
      choice-placed = three_placed a x (placing_as w a (f.sound a d) Ite e)

      pub choice_arrays : (array (sort_at w x.q) ≡ true) × (array (sort_at w x.r) ≡ true)
      choice_arrays =
          let sorts = three (boolean (sort_at w x.p)) (same_sort (sort_at w x.q) (sort_at w a)) (same_sort (sort_at w x.r) (sort_at w a)) (typing_as w a (f.sound a d) Ite e) in
          (same-array (sort_at w x.q) (sort_at w a) sorts.1 r, same-array (sort_at w x.r) (sort_at w a) sorts.2 r)

      pub cell-choice : (j : ℕ) → (value_at w I a).cell j ≡ cond (holds (get_or N x.p 0)) ((value_at w I x.q).cell j) ((value_at w I x.r).cell j)
      cell-choice j =
          by_op_lem j Ite e
          ∙ choice-cell I (value_in (values w I a)) (sort_at w x.p).n x j
          ∙ (λ i. cond (holds (operand x.p choice-placed.0 i)) (operand-cell x.q j choice-placed.1 i) (operand-cell x.r j choice-placed.2 i))

    -- it is one of the three
    pub array_by : {A : Type 0} → (op_of x.op ≡ Variable → A) → (op_of x.op ≡ Store → A) → (op_of x.op ≡ Ite → A) → A
    array_by v s i =
        ⊎_elim v (⊎_elim s i)
        (array_op (op_of x.op) (sort_at w a) (sort_at w x.p) (sort_at w x.q) (sort_at w x.r) (op_at w a (f.sound a d)) (typing w a (f.sound a d)) r)

module _ (limit : ℕ) (w row : List ℕ) (look : ℕ → ℕ → ℕ → ℕ) (f : WellFormed limit w) where
  -- the interpretation, and what the variable of a slot holds at j
  abbrev pub I : Interpretation
  I = interpret row look

  abbrev pub cell_of : ℕ → ℕ → ℕ
  cell_of j slot = look slot j (get_or row slot 0)

  -- one array term, those that it stands on being known
  module _ (k a : ℕ) (c : a < k) (d : a < terms w) (r : array (sort_at w a) ≡ true) (j : ℕ)
      (later : (i : ℕ) → i < a → array (sort_at w i) ≡ true → (value_at w I i).cell j ≡ read_at w (numbers w I k) i j (cell_of j)) where
    input-read : op_of (term_at w a).op ≡ Variable → (value_at w I a).cell j ≡ read_at w (numbers w I k) a j (cell_of j)
    input-read e =
        let ends = variable_ends limit w I f k a c d r e in
        cell_variable limit w I f k a c d r e j ∙ sym (read_variable w (stacked limit w f) (numbers w I k) j (cell_of j) a ends.0 ends.1)

    store-read : op_of (term_at w a).op ≡ Store → (value_at w I a).cell j ≡ read_at w (numbers w I k) a j (cell_of j)
    store-read e =
        cell-store limit w I f k a c d r e j
        ∙ ap (λ (v : ℕ). cond (eqb (get_or (numbers w I k) (term_at w a).q 0) j) (get_or (numbers w I k) (term_at w a).r 0) v)
        (later (term_at w a).p (store-placed limit w I f k a c d r e).0 (store-array limit w I f k a c d r e))
        ∙ sym (read-store w (stacked limit w f) (numbers w I k) j (cell_of j) a (is-store limit w I f k a c d r e))

    choice-read : op_of (term_at w a).op ≡ Ite → (value_at w I a).cell j ≡ read_at w (numbers w I k) a j (cell_of j)
    choice-read e =
        let place = choice-placed limit w I f k a c d r e in
        let arrays = choice_arrays limit w I f k a c d r e in
        cell-choice limit w I f k a c d r e j
        ∙ ap₂ (λ (u v : ℕ). cond (holds (get_or (numbers w I k) (term_at w a).p 0)) u v) (later (term_at w a).q place.1 arrays.0) (later (term_at w a).r place.2 arrays.1)
        ∙ sym (read-choice w (stacked limit w f) (numbers w I k) j (cell_of j) a (is-choice limit w I f k a c d r e))

    read_step : (value_at w I a).cell j ≡ read_at w (numbers w I k) a j (cell_of j)
    read_step = array_by limit w I f k a c d r input-read store-read choice-read

  -- an array's cell is the read along it
  read-within : (n k a : ℕ) → a < n → a < k → a < terms w → array (sort_at w a) ≡ true → (j : ℕ) → (value_at w I a).cell j ≡ read_at w (numbers w I k) a j (cell_of j)
  read-within zero k a b c d r j = absurd (not-suc-le-zero b)
  read-within (suc n) k a b c d r j = read_step k a c d r j (λ i l arr. read-within n k i (omega arith) (omega arith) (omega arith) arr j)

  pub read_is : (k a : ℕ) → a < k → a < terms w → array (sort_at w a) ≡ true → (j : ℕ) → (value_in (values w I k) a).cell j ≡ read_at w (numbers w I k) a j (cell_of j)
  read_is k a c d r j = ap (λ (v : Value). v.cell j) (value-below w I k a c) ∙ read-within (suc a) k a (omega arith) c d r j

-- a term's number by its operator: front holds the numbers of the values v
module _ (w row front : List ℕ) (look : ℕ → ℕ → ℕ → ℕ) (v : ℕ → Value) (x : Term) (answer : ℕ) (is : (k : ℕ) → get_or front k 0 ≡ (v k).num) where
  abbrev width : ℕ
  width = (sort_at w x.p).n

  abbrev number_by : Op → ℕ
  number_by op =
      cond (reads op) answer
      (cond (immediate op) x.p
      (cond (slotted op) (variable_number row x)
      (apply op width (get_or front x.p 0) (get_or front x.q 0) (get_or front x.r 0))))

  operated-same : (op : Op) → apply op width (get_or front x.p 0) (get_or front x.q 0) (get_or front x.r 0) ≡ apply op width (v x.p).num (v x.q).num (v x.r).num
  operated-same op =
      ap₂ (λ (a b : ℕ). apply op width a b (get_or front x.r 0)) (is x.p) (is x.q) ∙ ap (apply op width (v x.p).num (v x.q).num) (is x.r)

  variable_same : (b : Bool) → cond b (get_or row x.p 0) 0 ≡ (cond b (scalar_value (get_or row x.p 0)) (array_value (interpret row look x.p).cell)).num
  variable_same true = refl
  variable_same false = refl

  number_by_lem : (op : Op) → (reads op ≡ true → answer ≡ (v x.p).cell (v x.q).num) → number_by op ≡ (value_by (interpret row look) v width x op).num
  unfolding value_by apply
  number_by_lem Constant h = refl
  number_by_lem Variable h = variable_same (eqb x.sort.m 0)
  number_by_lem (Apply f) h = operated-same (Apply f)
  number_by_lem Ite h = operated-same Ite ∙ by (holds (v x.p).num)
    where
      by : (b : Bool) → cond b (v x.q).num (v x.r).num ≡ (cond b (v x.q) (v x.r)).num
      by true = refl
      by false = refl
  number_by_lem Select h = h refl
  number_by_lem Store h = refl
  number_by_lem Unknown h = refl

-- the only operator that reads
pub reads_select : (op : Op) → reads op ≡ true → op ≡ Select
reads_select Constant h = never h
reads_select Variable h = never h
reads_select (Apply f) h = never h
reads_select Ite h = never h
reads_select Select h = refl
reads_select Store h = never h
reads_select Unknown h = never h

module _ (limit : ℕ) (w row : List ℕ) (look : ℕ → ℕ → ℕ → ℕ) (f : WellFormed limit w) (k : ℕ) (b : k < terms w) where
  -- the read's value
  abbrev pub value_read : ℕ
  value_read =
      let x = term_at w k in
      let index = get_or (numbers w (interpret row look) k) x.q 0 in
      read_at w (numbers w (interpret row look) k) x.p index (λ slot. look slot index (get_or row slot 0))

  pub number_is : (answer : ℕ) → (is_read (term_at w k) ≡ true → answer ≡ value_read) → number_of w row (numbers w (interpret row look) k) (term_at w k) answer ≡ (value_at w (interpret row look) k).num
  unfolding number_of
  number_is answer h =
      number_by_lem w row (numbers w (interpret row look) k) look (value_in (values w (interpret row look) k)) (term_at w k) answer (number_in w (interpret row look) k) (op_of (term_at w k).op)
      (λ r. cells r (reads_select (op_of (term_at w k).op) r))
    where
      cells : reads (op_of (term_at w k).op) ≡ true → op_of (term_at w k).op ≡ Select
          → answer ≡ (value_in (values w (interpret row look) k) (term_at w k).p).cell (value_in (values w (interpret row look) k) (term_at w k).q).num
      cells r e =
          let x = term_at w k in
          let N = numbers w (interpret row look) k in
          let place = two_placed k x (placing_as w k (f.sound k b) Select e) in
          let pb : x.p < k = place.0 in
          let sorts = three (array (sort_at w x.p)) (vector_of (sort_at w x.p).m (sort_at w x.q)) (vector_of (sort_at w x.p).n (sort_at w k)) (typing_as w k (f.sound k b) Select e) in
          h r
          ∙ sym (read_is limit w row look f k x.p pb (omega arith) sorts.0 (get_or N x.q 0))
          ∙ ap (value_in (values w (interpret row look) k) x.p).cell (number_in w (interpret row look) k x.q)
