-- The value of a tree is that of its term in every table that has the tree's terms.
-- Assumes nothing.
use mathlib.Core.Path.{◌≡◌, refl, sym, ap, ◌∙◌}
use mathlib.Core.Bool.{true}
use mathlib.Core.List.{List, [], ◌∷◌}
use Prim.Native.Nat.{ℕ, zero, suc, ◌+◌, ◌≤◌, ◌<◌}
use native.Mathlib.Nat.{zero-add}
use native.Mathlib.Omega.{arith}
use lib.Dec.{eqb, leb}
use lib.ListN.{length, get_or, length-append}
use borrow.Author.Tests.{eqb-true, ltb-true}
use Rattle.ops.specs.Numbers.{op_of}
use Rattle.smtlib.specs.Bytes.{place_in, is_in}
use Rattle.smtlib.proofs.Cuts.{and_left, and_right}
use Rattle.table.specs.declared.ranks.Fields.{Fields}
use Rattle.table.specs.declared.ranks.Fields.TheVariants.{Value as Literal, Slot, One, Two, Three}
use Rattle.table.specs.declared.words.Sort.{Sort}
use Rattle.table.specs.declared.words.Term.{Term}
use Rattle.table.specs.Terms.{term_at, sort_at}
use Rattle.table.specs.Ranks.{rank_of, fields_of, operand_count}
use Rattle.setting.specs.Interpretation.{Value, Interpretation}
use Rattle.evaluate.specs.Values.{value_by, value_in, value_from, values, value_at}
use Rattle.evaluate.specs.Applied.{input_value}
use Rattle.evaluate.proofs.Applied.{SameOperands, applied-value}
use Rattle.evaluate.proofs.Folds.{value-below}
use Rattle.parser.specs.Words.{marked}
use Rattle.parser.specs.Expressions.{constant_term, operands_of}
use Rattle.parser.specs.Rules.{variable_term}
use Rattle.parser.specs.Grammar.{Tree, Trees, Declared}
use Rattle.parser.specs.Grammar.Tree.{literal, symbol, apply}
use Rattle.parser.specs.Grammar.Trees.{nil, cons}
use Rattle.parser.specs.Trees.{names_of, knows, knows_all, count, counted, all_counted, size, sizes, slot, sort_of_slot, root, roots, sort_in, first_sort}
use Rattle.parser.specs.Trees.{list_term, tree_terms, trees_terms, variables}
use Rattle.parser.proofs.Written.{tree_length}
use Rattle.parser.proofs.NameLists.{names-length}
use Rattle.parser.proofs.Complete.{variables-length}
use Rattle.meanings.specs.Meaning.{tree_value, operand_value}
use Rattle.meanings.proofs.Layouts.{no_term, Has, has_left, has_right, has_first}
use Rattle.meanings.proofs.Operators.{named, all_named, called}

-- A term's operands have the values that each has by itself

module _ (v : ℕ → Value) (width width' : ℕ) (op : ℕ) (s : Sort) (rs : List ℕ) (val : ℕ → Value) where
  abbrev x : Term
  x = record { op = op; sort = s; p = get_or rs 0 0; q = get_or rs 1 0; r = get_or rs 2 0 }

  same_operands : (f : Fields) → (0 < operand_count f → width' ≡ width) → ((i : ℕ) → i < operand_count f → val i ≡ v (get_or rs i 0))
      → SameOperands v x width width' val f
  same_operands Literal wide same = tt
  same_operands Slot wide same = tt
  same_operands One wide same = (wide (omega arith), same 0 (omega arith))
  same_operands Two wide same = (wide (omega arith), same 0 (omega arith), same 1 (omega arith))
  same_operands Three wide same = (wide (omega arith), same 0 (omega arith), same 1 (omega arith), same 2 (omega arith))

-- The variables

abbrev no_name : Declared
no_name = record { name = []; sort = record { m = 0; n = 0 } }

variable_at : (ds : List Declared) (i : ℕ) (es : List Declared) (k : ℕ) → k < length es
    → get_or (variables ds i es) k no_term ≡ variable_term (sort_of_slot es k).m (sort_of_slot es k).n (i + k) (marked (get_or es k no_name).name)
unfolding variables
variable_at ds i [] k h = absurd (omega arith)
variable_at ds i (d ∷ es) zero h = ap (λ (s : ℕ). variable_term d.sort.m d.sort.n s (marked d.name)) (omega arith)
variable_at ds i (d ∷ es) (suc k) h =
    variable_at ds (suc i) es k (omega arith) ∙ ap
    (λ (s : ℕ). variable_term (sort_of_slot es k).m (sort_of_slot es k).n s (marked (get_or es k no_name).name)) (omega arith)

trees_length : (ds : List Declared) (before : ℕ) (ts : Trees) → length (trees_terms ds before ts) ≡ sizes ts
unfolding tree_terms size
trees_length ds before ts =
    let x = list_term ds 0 (sort_in ds (apply 0 ts)) (roots ds before ts) in
    omega (arith, tree_length ds before (apply 0 ts), length-append (trees_terms ds before ts) (x ∷ []))

-- the sort of operand i
unfoldable nth_sort : List Declared → Trees → ℕ → Sort
nth_sort ds nil i = record { m = 0; n = 0 }
nth_sort ds (cons t ts) zero = sort_in ds t
nth_sort ds (cons t ts) (suc i) = nth_sort ds ts i

first_sort_lem : (ds : List Declared) (ts : Trees) → nth_sort ds ts 0 ≡ first_sort ds ts
unfolding nth_sort sort_in
first_sort_lem ds nil = refl
first_sort_lem ds (cons t ts) = refl

-- Trees

module _ (ds : List Declared) (I : Interpretation) (w : List ℕ) (front : Has w 0 (variables ds 0 ds)) where
  -- a term below a number, of this sort and value
  pub record Means (limit k : ℕ) (s : Sort) (v : Value) : Type 0 where
    pub below : k < limit
    pub sort : sort_at w k ≡ s
    pub value : value_at w I k ≡ v

  means_below : {limit k : ℕ} {s : Sort} {v : Value} (limit' : ℕ) → limit ≤ limit' → Means limit k s v → Means limit' k s v
  means_below limit' h m = record { below = omega (arith, m.below); sort = m.sort; value = m.value }

  slot-below : (x : List ℕ) → is_in (names_of ds) x ≡ true → slot ds x < length ds
  slot-below x e = omega (arith, ltb-true (place_in (names_of ds) x) (length (names_of ds)) e, names-length ds)

  -- the term at k
  pub term-value : (k : ℕ) (x : Term) → term_at w k ≡ x → value_at w I k ≡ value_by I (value_in (values w I k)) (sort_at w x.p).n x (op_of x.op)
  term-value k x e = ap (λ (y : Term). value_from w I (value_in (values w I k)) y) e

  input_means : (before k : ℕ) → length ds ≤ before → k < length ds → Means before k (sort_of_slot ds k) (input_value (sort_of_slot ds k) (I k))
  unfolding value_by
  input_means before k enough h =
      let s = sort_of_slot ds k in
      let mark = marked (get_or ds k no_name).name in
      let x = variable_term s.m s.n k mark in
      let e : term_at w k ≡ x =
      ap (term_at w) (sym (zero-add k)) ∙ front.at k (omega (arith, variables-length ds 0 ds)) ∙ variable_at ds 0 ds k h ∙ ap
      (λ (j : ℕ). variable_term s.m s.n j mark) (zero-add k) in
      record { below = omega arith; sort = ap (λ (y : Term). y.sort) e; value = term-value k x e }

  mutual
    unfolding knows count counted named size root roots sort_in nth_sort tree_terms tree_value value_by

    pub tree_means : (t : Tree) (before : ℕ) → length ds ≤ before → Has w before (tree_terms ds before t) → knows (names_of ds) t ≡ true
        → counted t ≡ true → named t ≡ true
        → Means (before + size t) (root ds before t) (sort_in ds t) (tree_value ds I t)
    tree_means (literal n v) before enough has kn co na =
        let e = has_first (constant_term n v) [] has in
        record { below = omega arith; sort = ap (λ (y : Term). y.sort) e; value = term-value before (constant_term n v) e }
    tree_means (symbol x) before enough has kn co na = input_means (before + 0) (slot ds x) (omega arith) (slot-below x kn)
    tree_means (apply op ts) before enough has kn co na =
        let ys = trees_terms ds before ts in
        let rs = roots ds before ts in
        let s = sort_in ds (apply op ts) in
        let x = list_term ds op s rs in
        let k = before + sizes ts in
        let e = has_first x [] (has_right ys (x ∷ []) k has (ap (λ (n : ℕ). before + n) (trees_length ds before ts))) in
        let few = eqb-true (count ts) (operands_of op) (and_left (eqb (count ts) (operands_of op)) (all_counted ts) co) in
        let all : (i : ℕ) → i < count ts → Means k (get_or rs i 0) (nth_sort ds ts i) (operand_value ds I ts i) =
        λ i h. operand_means ts before enough (has_left ys (x ∷ []) has) kn (and_right (eqb (count ts) (operands_of op)) (all_counted ts) co)
        (and_right (leb 2 op) (all_named ts) na) i h in
        let c = called op (and_left (leb 2 op) (all_named ts) na) in
        let v = value_in (values w I k) in
        record {
          below = omega arith;
          sort = ap (λ (y : Term). y.sort) e;
          value =
              term-value k x e
              ∙ sym (applied-value v x (sort_at w x.p).n (first_sort ds ts).n (operand_value ds I ts) I (op_of op)
              c.immediate_not c.slotted_not
              (same_operands v (sort_at w x.p).n (first_sort ds ts).n op s rs (operand_value ds I ts) (fields_of (rank_of (op_of op)))
              (λ h. ap (λ (z : Sort). z.n) (sym ((all 0 (omega arith)).sort ∙ first_sort_lem ds ts)))
              (λ i h. let m = all i (omega arith) in sym (value-below w I k (get_or rs i 0) m.below ∙ m.value))));
        }

    operand_means : (ts : Trees) (before : ℕ) → length ds ≤ before → Has w before (trees_terms ds before ts) → knows_all (names_of ds) ts ≡ true
        → all_counted ts ≡ true → all_named ts ≡ true
        → (i : ℕ) → i < count ts → Means (before + sizes ts) (get_or (roots ds before ts) i 0) (nth_sort ds ts i) (operand_value ds I ts i)
    operand_means nil before enough has kn co na i h = absurd (omega arith)
    operand_means (cons t ts) before enough has kn co na zero h =
        let here = has_left (tree_terms ds before t) (trees_terms ds (before + size t) ts) has in
        means_below (before + (size t + sizes ts)) (omega arith)
        (tree_means t before enough here (and_left (knows (names_of ds) t) (knows_all (names_of ds) ts) kn) (and_left (counted t) (all_counted ts) co)
        (and_left (named t) (all_named ts) na))
    operand_means (cons t ts) before enough has kn co na (suc i) h =
        let next = before + size t in
        let later = has_right (tree_terms ds before t) (trees_terms ds next ts) next has (ap (λ (n : ℕ). before + n) (tree_length ds before t)) in
        means_below (before + (size t + sizes ts)) (omega arith)
        (operand_means ts next (omega arith) later (and_right (knows (names_of ds) t) (knows_all (names_of ds) ts) kn) (and_right (counted t) (all_counted ts) co)
        (and_right (named t) (all_named ts) na) i (omega arith))
