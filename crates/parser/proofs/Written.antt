-- The table holds a tree's terms: by recursion on the derivation, with the terms so far.
-- Assumes nothing.
use mathlib.Core.Path.{◌≡◌, refl, sym, ap, ◌∙◌, subst}
use mathlib.Core.Bool.{true}
use mathlib.Core.List.{List, [], ◌∷◌, ◌++◌, append-nil, append_assoc}
use Prim.Native.Nat.{ℕ, zero, suc, ◌+◌, ◌*◌, ◌<◌, ◌≤◌}
use native.Mathlib.Numerals.{add-one}
use native.Mathlib.Omega.{arith}
use lib.Dec.{eqb}
use lib.ListN.{length, get_or, set, drop, length-append}
use lib.Seq.{sets, length-sets, sets-eq}
use borrow.Author.Tests.{eq-eqb, lt-ltb, le-leb, ltb-true, eqb-true}
use Rattle.smtlib.specs.Bytes.{place_in, is_in}
use Rattle.smtlib.proofs.Cuts.{and_left, and_right}
use Rattle.ops.specs.Numbers.{op_of}
use Rattle.table.specs.declared.ranks.Rank.{Rank}
use Rattle.table.specs.declared.ranks.Rank.TheVariants as rank
use Rattle.table.specs.declared.words.Sort.{Sort}
use Rattle.table.specs.declared.words.Term.{Term}
use Rattle.table.specs.Terms.{sort_at}
use Rattle.table.specs.Ranks.{rank_of, fields_of, operand_count}
use Rattle.table.specs.Code.Writing.{placed}
use Rattle.parser.specs.declared.states.State.{State}
use Rattle.parser.specs.declared.states.Listed.{Listed}
use Rattle.parser.specs.Expressions.{fault_in, Work, Listing, more_of, number, begin_list, joined_to, sort_by, term_of, constant_term, operands_by, operands_of, expression_of}
use Rattle.parser.specs.Grammar.{Tree, Trees, Declared, Expression, Operands}
use Rattle.parser.specs.Grammar.Tree.{literal, symbol, apply}
use Rattle.parser.specs.Grammar.Trees.{nil, cons}
use Rattle.parser.specs.Grammar.Expression.{constant, name, list}
use Rattle.parser.specs.Grammar.Operands.{none, more}
use Rattle.parser.specs.Trees.{names_of, knows, knows_all, within, all_within, count, counted, all_counted, size, sizes, slot, sort_of_slot, root, roots, sort_in, first_sort, second_sort, list_term, tree_terms, trees_terms}
use Rattle.parser.specs.Laws.{numbers_of}
use Rattle.parser.proofs.Accepts.{never, Known, declared_is, operands_read, done_at, constant_at, call_at, operand_at, head_constant, head_name, head_call, closed_close, joined_state}
use Rattle.parser.proofs.NameLists.{names-length}

-- Terms in a row, and the sort of each

unfoldable pub sort_among : List Term → ℕ → Sort
sort_among [] k = record { m = 0; n = 0 }
sort_among (x ∷ xs) zero = x.sort
sort_among (x ∷ xs) (suc k) = sort_among xs k

among_front : (xs ys : List Term) (k : ℕ) → k < length xs → sort_among (xs ++ ys) k ≡ sort_among xs k
unfolding sort_among
among_front [] ys k h = absurd (omega arith)
among_front (x ∷ xs) ys zero h = refl
among_front (x ∷ xs) ys (suc k) h = among_front xs ys k (omega arith)

among_at : (xs : List Term) (x : Term) (k : ℕ) → k ≡ length xs → sort_among (xs ++ (x ∷ [])) k ≡ x.sort
unfolding sort_among
among_at [] x zero e = refl
among_at [] x (suc k) e = absurd (omega arith)
among_at (y ∷ xs) x zero e = absurd (omega arith)
among_at (y ∷ xs) x (suc k) e = among_at xs x k (omega arith)

pub numbers-length : (xs : List Term) → length (numbers_of xs) ≡ length xs * 6
unfolding numbers_of
numbers-length [] = refl
numbers-length (x ∷ xs) = omega (arith, numbers-length xs)

numbers-append : (xs ys : List Term) → numbers_of (xs ++ ys) ≡ numbers_of xs ++ numbers_of ys
unfolding numbers_of
numbers-append [] ys = refl
numbers-append (x ∷ xs) ys = ap (λ (l : List ℕ). x.op ∷ x.sort.m ∷ x.sort.n ∷ x.p ∷ x.q ∷ x.r ∷ l) (numbers-append xs ys)

read_sort : (xs : List Term) (rest : List ℕ) (k : ℕ) → k < length xs → sort_at (numbers_of xs ++ rest) k ≡ sort_among xs k
unfolding numbers_of sort_among
read_sort [] rest k h = absurd (omega arith)
read_sort (x ∷ xs) rest zero h = refl
read_sort (x ∷ xs) rest (suc k) h =
    let one : suc k * 6 + 1 ≡ suc (suc (suc (suc (suc (suc (k * 6 + 1)))))) = omega arith in
    let two : suc k * 6 + 2 ≡ suc (suc (suc (suc (suc (suc (k * 6 + 2)))))) = omega arith in
    rw (one, two) (read_sort xs rest k (omega arith))

sets_append : (l : List ℕ) (i : ℕ) (xs ys : List ℕ) → sets (sets l i xs) (i + length xs) ys ≡ sets l i (xs ++ ys)
sets_append l i [] ys = ap (λ (k : ℕ). sets l k ys) (omega arith)
sets_append l i (x ∷ xs) ys = ap (λ (k : ℕ). sets (sets (set l i x) (suc i) xs) k ys) (omega arith) ∙ sets_append (set l i x) (suc i) xs ys

placed_sets : (room : List ℕ) (k : ℕ) (x : Term) → k * 6 + 6 ≤ length room → placed room k x ≡ sets room (k * 6) (x.op ∷ x.sort.m ∷ x.sort.n ∷ x.p ∷ x.q ∷ x.r ∷ [])
unfolding placed
placed_sets room k x b =
    let two : k * 6 + 2 ≡ suc (suc (k * 6)) = omega arith in
    let three : k * 6 + 3 ≡ suc (suc (suc (k * 6))) = omega arith in
    let four : k * 6 + 4 ≡ suc (suc (suc (suc (k * 6)))) = omega arith in
    let five : k * 6 + 5 ≡ suc (suc (suc (suc (suc (k * 6))))) = omega arith in
    rw (le-leb _ _ b, add-one (k * 6), two, three, four, five)

-- a room of 512 terms whose front holds these
pub record Holds (base : List ℕ) (xs : List Term) (n : ℕ) (room : List ℕ) : Type 0 where
  pub counts : n ≡ length xs
  pub filled : room ≡ sets base 0 (numbers_of xs)

module _ (base : List ℕ) (long : length base ≡ 3072) where
  pub placed-more : (xs : List Term) (x : Term) (n : ℕ) (room : List ℕ) → Holds base xs n room → length xs < 512 → Holds base (xs ++ (x ∷ [])) (more_of n) (placed room n x)
  unfolding numbers_of
  placed-more xs x n room h b =
      let less : n < 513 = omega (arith, h.counts) in
      let full : length room ≡ 3072 = ap length h.filled ∙ length-sets base 0 (numbers_of xs) ∙ long in
      let six = numbers_of (x ∷ []) in
      let at : n * 6 ≡ 0 + length (numbers_of xs) = omega (arith, numbers-length xs, h.counts) in
      record {
        counts = rw (lt-ltb _ _ less) (omega (arith, h.counts, length-append xs (x ∷ [])));
        filled =
            placed_sets room n x (omega (arith, h.counts)) ∙ ap (λ (r : List ℕ). sets r (n * 6) six) h.filled ∙ ap (λ (k : ℕ). sets (sets base 0 (numbers_of xs)) k six) at
            ∙ sets_append base 0 (numbers_of xs) six ∙ ap (sets base 0) (sym (numbers-append xs (x ∷ [])));
      }

  room_sort : (xs : List Term) (n : ℕ) (room : List ℕ) → Holds base xs n room → length xs ≤ 512 → (k : ℕ) → k < length xs → sort_at room k ≡ sort_among xs k
  room_sort xs n room h b k less =
      ap (λ (r : List ℕ). sort_at r k) (h.filled ∙ sets-eq (numbers_of xs) base 0 (omega (arith, numbers-length xs, long)))
      ∙ read_sort xs (drop (0 + length (numbers_of xs)) base) k less

-- How many terms a tree has, and its sort

module _ (ds : List Declared) where
  mutual
    unfolding size tree_terms

    pub tree_length : (before : ℕ) (t : Tree) → length (tree_terms ds before t) ≡ size t
    tree_length before (literal n v) = refl
    tree_length before (symbol w) = refl
    tree_length before (apply op ts) = rw (length-append, trees_length before ts) (omega arith)

    trees_length : (before : ℕ) (ts : Trees) → length (trees_terms ds before ts) ≡ sizes ts
    trees_length before nil = refl
    trees_length before (cons t ts) = rw (length-append, tree_length before t, trees_length (before + size t) ts)

  -- the variables stand in front
  pub record Based (xs : List Term) : Type 0 where
    pub enough : length ds ≤ length xs
    pub sorts : (i : ℕ) → i < length ds → sort_among xs i ≡ sort_of_slot ds i

  pub based_more : (xs ys : List Term) → Based xs → Based (xs ++ ys)
  based_more xs ys b =
      record { enough = omega (arith, b.enough, length-append xs ys); sorts = λ i h. among_front xs ys i (omega (arith, b.enough)) ∙ b.sorts i h }

  slot-below : (w : List ℕ) → is_in (names_of ds) w ≡ true → slot ds w < length ds
  slot-below w e = omega (arith, ltb-true (place_in (names_of ds) w) (length (names_of ds)) e, names-length ds)

  pub record Rooted (xs : List Term) (k : ℕ) (s : Sort) : Type 0 where
    pub below : k < length xs
    pub sort_is : sort_among xs k ≡ s

  last_rooted : (xs : List Term) (x : Term) (k : ℕ) → k ≡ length xs → Rooted (xs ++ (x ∷ [])) k x.sort
  last_rooted xs x k e = record { below = omega (arith, length-append xs (x ∷ [])); sort_is = among_at xs x k e }

  pub tree_rooted : (xs : List Term) (t : Tree) → Based xs → knows (names_of ds) t ≡ true → Rooted (xs ++ tree_terms ds (length xs) t) (root ds (length xs) t) (sort_in ds t)
  unfolding tree_terms root sort_in knows
  tree_rooted xs (literal n v) b kn = last_rooted xs (constant_term n v) (length xs) refl
  tree_rooted xs (symbol w) b kn =
      let h = slot-below w kn in
      rw (append-nil xs) (record { below = omega (arith, b.enough); sort_is = b.sorts (slot ds w) h })
  tree_rooted xs (apply op ts) b kn =
      let ys = trees_terms ds (length xs) ts in
      let x = list_term ds op (sort_in ds (apply op ts)) (roots ds (length xs) ts) in
      subst (λ (l : List Term). Rooted l (length xs + sizes ts) x.sort) (append_assoc xs ys (x ∷ []))
      (last_rooted (xs ++ ys) x (length xs + sizes ts) (omega (arith, length-append xs ys, trees_length (length xs) ts)))

  rooted_more : (xs ys : List Term) (k : ℕ) (s : Sort) → Rooted xs k s → Rooted (xs ++ ys) k s
  rooted_more xs ys k s r = record { below = omega (arith, r.below, length-append xs ys); sort_is = among_front xs ys k r.below ∙ r.sort_is }

  trees_split : (xs : List Term) (t : Tree) (ts : Trees) → (xs ++ tree_terms ds (length xs) t) ++ trees_terms ds (length xs + size t) ts ≡ xs ++ trees_terms ds (length xs) (cons t ts)
  unfolding tree_terms
  trees_split xs t ts = append_assoc xs (tree_terms ds (length xs) t) (trees_terms ds (length xs + size t) ts)

  next-length : (xs : List Term) (t : Tree) → length (xs ++ tree_terms ds (length xs) t) ≡ length xs + size t
  next-length xs t = omega (arith, length-append xs (tree_terms ds (length xs) t), tree_length (length xs) t)

  first_rooted : (xs : List Term) (t : Tree) (ts : Trees) → Based xs → knows (names_of ds) t ≡ true → Rooted (xs ++ trees_terms ds (length xs) (cons t ts)) (root ds (length xs) t) (sort_in ds t)
  first_rooted xs t ts b kn =
      subst (λ (l : List Term). Rooted l (root ds (length xs) t) (sort_in ds t)) (trees_split xs t ts)
      (rooted_more (xs ++ tree_terms ds (length xs) t) (trees_terms ds (length xs + size t) ts) (root ds (length xs) t) (sort_in ds t) (tree_rooted xs t b kn))

  second_rooted : (xs : List Term) (t u : Tree) (us : Trees) → Based xs → knows (names_of ds) u ≡ true
      → Rooted (xs ++ trees_terms ds (length xs) (cons t (cons u us))) (root ds (length xs + size t) u) (sort_in ds u)
  second_rooted xs t u us b kn =
      let ys = xs ++ tree_terms ds (length xs) t in
      let n = next-length xs t in
      subst (λ (l : List Term). Rooted l (root ds (length xs + size t) u) (sort_in ds u)) (trees_split xs t (cons u us))
      (subst (λ (k : ℕ). Rooted (ys ++ trees_terms ds k (cons u us)) (root ds k u) (sort_in ds u)) n (first_rooted ys u us (based_more xs (tree_terms ds (length xs) t) b) kn))

-- The sort of a list, from its operands

-- as many operands as there are decide it
sort_agree : (k : Rank) (a a' b b' : Sort) → (1 ≤ operand_count (fields_of k) → a ≡ a') → (2 ≤ operand_count (fields_of k) → b ≡ b') → sort_by k a b ≡ sort_by k a' b'
sort_agree rank.Literal a a' b b' e f = refl
sort_agree rank.Input a a' b b' e f = refl
sort_agree rank.BoolUnary a a' b b' e f = refl
sort_agree rank.BoolBinary a a' b b' e f = refl
sort_agree rank.Equality a a' b b' e f = refl
sort_agree rank.Choice a a' b b' e f = f (omega arith)
sort_agree rank.BvUnary a a' b b' e f = e (omega arith)
sort_agree rank.BvBinary a a' b b' e f = e (omega arith)
sort_agree rank.BvCompare a a' b b' e f = refl
sort_agree rank.Read a a' b b' e f = ap (λ (s : Sort). record { m = 0; n = s.n }) (e (omega arith))
sort_agree rank.Write a a' b b' e f = e (omega arith)
sort_agree rank.Other a a' b b' e f = e (omega arith)

few-operands : (k : Rank) → operand_count (fields_of k) ≤ 3
few-operands rank.Literal = omega arith
few-operands rank.Input = omega arith
few-operands rank.BoolUnary = omega arith
few-operands rank.BoolBinary = omega arith
few-operands rank.Equality = omega arith
few-operands rank.Choice = omega arith
few-operands rank.BvUnary = omega arith
few-operands rank.BvBinary = omega arith
few-operands rank.BvCompare = omega arith
few-operands rank.Read = omega arith
few-operands rank.Write = omega arith
few-operands rank.Other = omega arith

-- the operands so far, as a list
record Held (l : Listed) (rs : List ℕ) : Type 0 where
  n_is : l.n ≡ length rs
  p_is : l.p ≡ get_or rs 0 0
  q_is : l.q ≡ get_or rs 1 0
  r_is : l.r ≡ get_or rs 2 0

held_more : (l : Listed) (rs : List ℕ) (s : State) → length rs < 3 → Held l rs → Held (joined_to l s) (rs ++ (s.root ∷ []))
unfolding joined_to
held_more l [] s b h = rw (eq-eqb _ _ h.n_is) (record { n_is = refl; p_is = refl; q_is = refl; r_is = refl })
held_more l (x ∷ []) s b h = rw h.n_is (record { n_is = refl; p_is = h.p_is; q_is = refl; r_is = refl })
held_more l (x ∷ y ∷ []) s b h = rw h.n_is (record { n_is = refl; p_is = h.p_is; q_is = h.q_is; r_is = refl })
held_more l (x ∷ y ∷ z ∷ rs) s b h = absurd (omega arith)

module _ (base : List ℕ) (long : length base ≡ 3072) (ds : List Declared) where
  root_sort : (xs : List Term) (n : ℕ) (room : List ℕ) → Holds base xs n room → length xs ≤ 512 → (k : ℕ) (s : Sort) → Rooted ds xs k s → sort_at room k ≡ s
  root_sort xs n room h b k s r = room_sort base long xs n room h b k r.below ∙ r.sort_is

  sorts_agree : (rank : Rank) (xs : List Term) (ts : Trees) (n : ℕ) (room : List ℕ) → Holds base (xs ++ trees_terms ds (length xs) ts) n room → length (xs ++ trees_terms ds (length xs) ts) ≤ 512 → Based ds xs
      → knows_all (names_of ds) ts ≡ true → count ts ≡ operand_count (fields_of rank)
      → sort_by rank (sort_at room (get_or (roots ds (length xs) ts) 0 0)) (sort_at room (get_or (roots ds (length xs) ts) 1 0)) ≡ sort_by rank (first_sort ds ts) (second_sort ds ts)
  unfolding roots sort_in count knows
  sorts_agree rank xs nil n room h b base-of kn few =
      sort_agree rank _ _ _ _ (λ i. absurd (omega arith)) (λ i. absurd (omega arith))
  sorts_agree rank xs (cons t nil) n room h b base-of kn few =
      sort_agree rank _ _ _ _ (λ i. root_sort (xs ++ trees_terms ds (length xs) (cons t nil)) n room h b (root ds (length xs) t) (sort_in ds t) (first_rooted ds xs t nil base-of (and_left (knows (names_of ds) t) (knows_all (names_of ds) nil) kn)))
      (λ i. absurd (omega arith))
  sorts_agree rank xs (cons t (cons u us)) n room h b base-of kn few =
      let kn' = and_right (knows (names_of ds) t) (knows_all (names_of ds) (cons u us)) kn in
      let all = xs ++ trees_terms ds (length xs) (cons t (cons u us)) in
      sort_agree rank _ _ _ _ (λ i. root_sort all n room h b (root ds (length xs) t) (sort_in ds t) (first_rooted ds xs t (cons u us) base-of (and_left (knows (names_of ds) t) (knows_all (names_of ds) (cons u us)) kn)))
      (λ i. root_sort all n room h b (root ds (length xs + size t) u) (sort_in ds u) (second_rooted ds xs t u us base-of (and_left (knows (names_of ds) u) (knows_all (names_of ds) us) kn')))

  term_is : (op : ℕ) (xs : List Term) (ts : Trees) (l : Listed) (n : ℕ) (room : List ℕ) → Holds base (xs ++ trees_terms ds (length xs) ts) n room → length (xs ++ trees_terms ds (length xs) ts) ≤ 512 → Based ds xs
      → knows_all (names_of ds) ts ≡ true → count ts ≡ operands_of op → Held l (roots ds (length xs) ts) → term_of room op l ≡ list_term ds op (sort_in ds (apply op ts)) (roots ds (length xs) ts)
  unfolding term_of sort_in
  term_is op xs ts l n room h b base-of kn few held =
      rw (held.p_is, held.q_is, held.r_is, sorts_agree (rank_of (op_of op)) xs ts n room h b base-of kn few)

-- What is read, with the terms so far

pub record Wrote (base : List ℕ) (ds : List Declared) (xs : List Term) (t : Tree) (to : ℕ) (v : Work) : Type 0 where
  pub clean : fault_in v.state ≡ 0
  pub place : v.state.at ≡ to
  pub rooted : v.state.root ≡ root ds (length xs) t
  pub holds : Holds base (xs ++ tree_terms ds (length xs) t) v.state.count v.room

record WroteAll (base : List ℕ) (ds : List Declared) (xs : List Term) (rs : List ℕ) (ts : Trees) (to : ℕ) (v : Listing) : Type 0 where
  clean : fault_in v.listed.state ≡ 0
  place : v.listed.state.at ≡ to
  held : Held v.listed (rs ++ roots ds (length xs) ts)
  holds : Holds base (xs ++ trees_terms ds (length xs) ts) v.listed.state.count v.room

holds-none : {base : List ℕ} {xs : List Term} {n : ℕ} {room : List ℕ} → Holds base xs n room → Holds base (xs ++ []) n room
holds-none {xs = xs} h = rw (append-nil xs) h

module _ (base : List ℕ) (long : length base ≡ 3072) (ds : List Declared) (text : List ℕ) (names : ℕ) (known : Known text names (names_of ds)) where
  mutual
    unfolding operands_by knows within count counted size root roots tree_terms

    pub writes : {from to : ℕ} {t : Tree} → Expression text from t to → (levels : ℕ) (s : State) (room : List ℕ) (xs : List Term) → fault_in s ≡ 0 → s.at ≡ from → Holds base xs s.count room → Based ds xs
        → knows (names_of ds) t ≡ true → within levels t ≡ true → counted t ≡ true → length xs + size t ≤ 512 → Wrote base ds xs t to (expression_of levels text names s room)
    writes (constant {n = n} {v = v} {to = to} w) levels s room xs f e h b kn wi co bound =
        rw (constant_at text names levels s room n v to (head_constant text names s levels f e w))
        (record { clean = refl; place = refl; rooted = h.counts; holds = placed-more base long xs (constant_term n v) s.count room h (omega arith) })
    writes (name {w = w} n) levels s room xs f e h b kn wi co bound =
        let small : slot ds w < 513 = omega (arith, slot-below ds w kn, b.enough) in
        rw (done_at text names levels s room _ (head_name text names s levels f e n (declared_is known w ∙ kn)))
        (record { clean = refl; place = refl; rooted = ap number (known.index w) ∙ rw (lt-ltb _ _ small); holds = holds-none h })
    writes (list o p os c) zero s room xs f e h b kn wi co bound = absurd (never wi)
    writes (list {op = op} {b = at} {to = to} {ts = ts} o p os c) (suc levels) s room xs f e h b kn wi co bound =
        let few = eqb-true (count ts) (operands_of op) (and_left (eqb (count ts) (operands_of op)) (all_counted ts) co) in
        let r = write_all os levels (operands_of op) few (begin_list s at) room xs [] f refl (record { n_is = refl; p_is = refl; q_is = refl; r_is = refl }) h b kn wi
        (and_right (eqb (count ts) (operands_of op)) (all_counted ts) co) (omega (arith, few-operands (rank_of (op_of op)))) (omega arith) in
        let v = operands_read text names levels (operands_of op) (begin_list s at) room in
        let l = v.listed in
        let ys = trees_terms ds (length xs) ts in
        let x = list_term ds op (sort_in ds (apply op ts)) (roots ds (length xs) ts) in
        let n : length (xs ++ ys) ≡ length xs + sizes ts = omega (arith, length-append xs ys, trees_length ds (length xs) ts) in
        let is = term_is base long ds op xs ts l l.state.count v.room r.holds (omega arith) b kn few r.held in
        let z = closed_close text names levels l r.clean r.place c in
        let more_held : Holds base (xs ++ (ys ++ (x ∷ []))) (more_of l.state.count) (placed v.room l.state.count x) =
        subst (λ (q : List Term). Holds base q (more_of l.state.count) (placed v.room l.state.count x)) (append_assoc xs ys (x ∷ [])) (placed-more base long (xs ++ ys) x l.state.count v.room r.holds (omega arith)) in
        rw (call_at text names levels s room op at (head_call text names s levels f e o p), z, is)
        (record { clean = refl; place = refl; rooted = r.holds.counts ∙ n; holds = more_held })

    write_all : {from to : ℕ} {ts : Trees} → Operands text from ts to → (levels left : ℕ) → count ts ≡ left → (l : Listed) (room : List ℕ) (xs : List Term) (rs : List ℕ) → fault_in l.state ≡ 0 → l.state.at ≡ from → Held l rs
        → Holds base xs l.state.count room → Based ds xs → knows_all (names_of ds) ts ≡ true → all_within levels ts ≡ true → all_counted ts ≡ true → length rs + left ≤ 3 → length xs + sizes ts ≤ 512
        → WroteAll base ds xs rs ts to (operands_read text names levels left l room)
    write_all none levels zero n l room xs rs f e held h b kn wi co few bound = record { clean = f; place = e; held = rw append-nil held; holds = holds-none h }
    write_all none levels (suc left) n l room xs rs f e held h b kn wi co few bound = absurd (omega arith)
    write_all (more x rest) levels zero n l room xs rs f e held h b kn wi co few bound = absurd (omega arith)
    write_all {to = to} (more {t = t} {ts = ts} x rest) levels (suc left) n l room xs rs f e held h b kn wi co few bound =
        let ws = names_of ds in
        let w = writes x levels l.state room xs f e h b (and_left (knows ws t) (knows_all ws ts) kn) (and_left (within levels t) (all_within levels ts) wi) (and_left (counted t) (all_counted ts) co) (omega arith) in
        let v = expression_of levels text names l.state room in
        let j = joined_state l v.state in
        let ys = xs ++ tree_terms ds (length xs) t in
        let grown : length ys ≡ length xs + size t = next-length ds xs t in
        let one : Held (joined_to l v.state) (rs ++ (root ds (length xs) t ∷ [])) = rw w.rooted at (held_more l rs v.state (omega arith) held) in
        let h' : Holds base ys (joined_to l v.state).state.count v.room = rw (ap (λ (s : State). s.count) j) w.holds in
        let r = write_all rest levels left (omega arith) (joined_to l v.state) v.room ys (rs ++ (root ds (length xs) t ∷ [])) (ap (λ (s : State). (fault_in s)) j ∙ w.clean) (ap (λ (s : State). s.at) j ∙ w.place) one h'
        (based_more ds xs (tree_terms ds (length xs) t) b) (and_right (knows ws t) (knows_all ws ts) kn) (and_right (within levels t) (all_within levels ts) wi) (and_right (counted t) (all_counted ts) co)
        (omega (arith, length-append rs (root ds (length xs) t ∷ []))) (omega arith) in
        let u = operands_read text names levels left (joined_to l v.state) v.room in
        subst (λ (q : Listing). WroteAll base ds xs rs (cons t ts) to q) (sym (operand_at text names levels left l room w.clean))
        (record {
          clean = r.clean;
          place = r.place;
          held = subst (λ (q : List ℕ). Held u.listed q) (append_assoc rs (root ds (length xs) t ∷ []) (roots ds (length xs + size t) ts)) (subst (λ (k : ℕ). Held u.listed ((rs ++ (root ds (length xs) t ∷ [])) ++ roots ds k ts)) grown r.held);
          holds = subst (λ (q : List Term). Holds base q u.listed.state.count u.room) (trees_split ds xs t ts) (subst (λ (k : ℕ). Holds base (ys ++ trees_terms ds k ts) u.listed.state.count u.room) grown r.holds);
        })
