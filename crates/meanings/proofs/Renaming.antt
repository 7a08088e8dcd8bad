-- A rule with other names is the same table.
-- Assumes nothing.
use Rattle.std.specs.Prelude.{Ok, Err}
use mathlib.Core.Path.{◌≡◌, refl, sym, ap, ap₂, ◌∙◌}
use mathlib.Core.Bool.{Bool, true, false, cond, not, ◌&&◌}
use mathlib.Core.Logic.{◌⊎◌, inl, inr, ⊎_elim}
use mathlib.Core.List.{List, [], ◌∷◌, ◌++◌, map}
use Prim.Native.Nat.{ℕ, zero, suc, ◌+◌}
use native.Mathlib.Omega.{arith}
use lib.Dec.{eqb, ltb}
use lib.ListN.{length, drop, length-map}
use borrow.Author.Tests.{eqb-true, lt-ltb, ltb-true, not-true}
use Rattle.ops.specs.Meaning.{bit, holds}
use Rattle.ops.specs.Numbers.{op_of}
use Rattle.ops.proofs.Booleans.{never}
use Rattle.smtlib.specs.Bytes.{same_bytes, place_in, is_in}
use Rattle.smtlib.proofs.Cuts.{and_left, and_right}
use Rattle.smtlib.proofs.Searches.{same_is, is_same}
use Rattle.table.specs.declared.words.Term.{Term}
use Rattle.table.specs.Folds.{every}
use Rattle.table.specs.Ranks.{rank_of}
use Rattle.parser.specs.Parsing.{Parsing}
use Rattle.parser.specs.Words.{marked}
use Rattle.parser.specs.Expressions.{sort_by, operands_of}
use Rattle.parser.specs.Rules.{variable_term, and_term}
use Rattle.parser.specs.Parsing.{tabled, built, parsing, room_after}
use Rattle.parser.specs.Grammar.{Tree, Trees, Declared, Rule}
use Rattle.parser.specs.Grammar.Tree.{literal, symbol, apply}
use Rattle.parser.specs.Grammar.Trees.{nil, cons}
use Rattle.parser.specs.Trees.{names_of, distinct, knows, knows_all, within, all_within, count, counted, all_counted, every_tree, meets, size, sizes, slot}
use Rattle.parser.specs.Trees.{sort_of_slot, root, roots, sort_in, first_sort, second_sort, list_term, tree_terms, trees_terms, variables, joins, asserted}
use Rattle.parser.specs.Trees.{rule_terms}
use Rattle.parser.specs.Laws.{numbers_of}
use Rattle.parser.proofs.Accepts.{both}
use Rattle.meanings.specs.Renaming.{renamed_tree, renamed_trees, renamed_declaration, renamed, Renames, RenamesComputed, RenamedAlike}
use Rattle.meanings.proofs.Conditions.{Met, met_parts}
use Rattle.meanings.proofs.Parsed.{built_is, parses_to}
use Rattle.meanings.proofs.Conjunctions.{bit-holds}

-- Names

head_in_lem : (x : List ℕ) (xs : List (List ℕ)) → is_in (x ∷ xs) x ≡ true
unfolding place_in
head_in_lem x xs = rw (is_same x) (lt-ltb 0 (suc (length xs)) (omega arith))

tail_in : (x : List ℕ) (xs : List (List ℕ)) (w : List ℕ) → is_in xs w ≡ true → is_in (x ∷ xs) w ≡ true
unfolding place_in
tail_in x xs w h = go (same_bytes x w)
  where
    go : (b : Bool) → ltb (cond b 0 (suc (place_in xs w))) (suc (length xs)) ≡ true
    go true = lt-ltb 0 (suc (length xs)) (omega arith)
    go false = lt-ltb (suc (place_in xs w)) (suc (length xs)) (omega (arith, ltb-true (place_in xs w) (length xs) h))

module _ (f : List ℕ → List ℕ) (ws : List (List ℕ)) (rn : Renames f ws) where
  same-renamed : (v w : List ℕ) → is_in ws v ≡ true → is_in ws w ≡ true → same_bytes (f v) (f w) ≡ same_bytes v w
  same-renamed v w a b = go (same_bytes v w) refl (same_bytes (f v) (f w)) refl
    where
      go : (s : Bool) → same_bytes v w ≡ s → (t : Bool) → same_bytes (f v) (f w) ≡ t → t ≡ s
      go true e true g = refl
      go true e false g = sym g ∙ ap (λ (x : List ℕ). same_bytes (f v) (f x)) (sym (same_is v w e)) ∙ is_same (f v)
      go false e true g = sym (sym e ∙ ap (same_bytes v) (sym (rn.one_to_one v w a b (same_is (f v) (f w) g))) ∙ is_same v)
      go false e false g = refl

  -- some of the names
  abbrev Within : List (List ℕ) → Type 0
  Within vs = (v : List ℕ) → is_in vs v ≡ true → is_in ws v ≡ true

  within_tail : (x : List ℕ) (xs : List (List ℕ)) → Within (x ∷ xs) → Within xs
  within_tail x xs h v e = h v (tail_in x xs v e)

  place_renamed : (vs : List (List ℕ)) → Within vs → (w : List ℕ) → is_in ws w ≡ true → place_in (map f vs) (f w) ≡ place_in vs w
  unfolding place_in
  place_renamed [] h w b = refl
  place_renamed (x ∷ xs) h w b =
      ap (λ (t : Bool). cond t 0 (suc (place_in (map f xs) (f w)))) (same-renamed x w (h x (head_in_lem x xs)) b) ∙ ap
      (λ (k : ℕ). cond (same_bytes x w) 0 (suc k)) (place_renamed xs (within_tail x xs h) w b)

  in_renamed : (vs : List (List ℕ)) → Within vs → (w : List ℕ) → is_in ws w ≡ true → is_in (map f vs) (f w) ≡ is_in vs w
  in_renamed vs h w b = ap₂ ltb (place_renamed vs h w b) (length-map vs f)

  distinct-renamed : (vs : List (List ℕ)) → Within vs → distinct (map f vs) ≡ distinct vs
  unfolding distinct
  distinct-renamed [] h = refl
  distinct-renamed (x ∷ xs) h =
      ap₂ (λ (s t : Bool). not s && t) (in_renamed xs (within_tail x xs h) x (h x (head_in_lem x xs))) (distinct-renamed xs (within_tail x xs h))

-- By a test

in_cases : (x : List ℕ) (xs : List (List ℕ)) (w : List ℕ) → is_in (x ∷ xs) w ≡ true → (x ≡ w) ⊎ (is_in xs w ≡ true)
unfolding place_in
in_cases x xs w h = go (same_bytes x w) refl h
  where
    go : (b : Bool) → same_bytes x w ≡ b → ltb (cond b 0 (suc (place_in xs w))) (suc (length xs)) ≡ true → (x ≡ w) ⊎ (is_in xs w ≡ true)
    go true e h = inl (same_is x w e)
    go false e h = inr (lt-ltb (place_in xs w) (length xs) (omega (arith, ltb-true (suc (place_in xs w)) (suc (length xs)) h)))

none_in : (w : List ℕ) → is_in [] w ≡ true → ⊥
unfolding place_in
none_in w e = never e

in_map : (f : List ℕ → List ℕ) (xs : List (List ℕ)) (w : List ℕ) → is_in xs w ≡ true → is_in (map f xs) (f w) ≡ true
in_map f [] w h = absurd (none_in w h)
in_map f (x ∷ xs) w h =
    ⊎_elim (λ e. ap (λ (y : List ℕ). is_in (f x ∷ map f xs) (f y)) (sym e) ∙ head_in_lem (f x) (map f xs))
    (λ i. tail_in (f x) (map f xs) (f w) (in_map f xs w i)) (in_cases x xs w h)

module _ (f : List ℕ → List ℕ) where
  apart : (x : List ℕ) (xs : List (List ℕ)) → distinct (map f (x ∷ xs)) ≡ true → (w : List ℕ) → is_in xs w ≡ true → f x ≡ f w → ⊥
  unfolding distinct
  apart x xs d w i e =
      let out = not-true (is_in (map f xs) (f x)) (and_left (not (is_in (map f xs) (f x))) (distinct (map f xs)) d) in
      never (sym out ∙ ap (is_in (map f xs)) e ∙ in_map f xs w i)

  one_by_test : (xs : List (List ℕ)) → distinct (map f xs) ≡ true → (v w : List ℕ) → is_in xs v ≡ true → is_in xs w ≡ true → f v ≡ f w → v ≡ w
  unfolding distinct
  one_by_test [] d v w a b e = absurd (none_in v a)
  one_by_test (x ∷ xs) d v w a b e =
      let further = one_by_test xs (and_right (not (is_in (map f xs) (f x))) (distinct (map f xs)) d) v w in
      ⊎_elim (λ i. ⊎_elim (λ j. sym i ∙ j) (λ j. absurd (apart x xs d w j (ap f i ∙ e))) (in_cases x xs w b))
      (λ i. ⊎_elim (λ j. absurd (apart x xs d v i (ap f j ∙ sym e))) (λ j. further i j e) (in_cases x xs w b)) (in_cases x xs v a)

  marks_by-test : (xs : List (List ℕ)) → every (λ w. eqb (bit (marked (f w))) (bit (marked w))) xs ≡ true → (w : List ℕ) → is_in xs w ≡ true
      → marked (f w) ≡ marked w
  unfolding every
  marks_by-test [] m w i = absurd (none_in w i)
  marks_by-test (x ∷ xs) m w i =
      let same : (v : List ℕ) → Bool = λ v. eqb (bit (marked (f v))) (bit (marked v)) in
      let here : marked (f x) ≡ marked x = sym (bit-holds (marked (f x))) ∙ ap holds
      (eqb-true (bit (marked (f x))) (bit (marked x)) (and_left (same x) (every same xs) m)) ∙ bit-holds (marked x) in
      ⊎_elim (λ e. ap (λ (y : List ℕ). marked (f y)) (sym e) ∙ here ∙ ap marked e) (λ j. marks_by-test xs (and_right (same x) (every same xs) m) w j)
      (in_cases x xs w i)

pub renames_computed : RenamesComputed
renames_computed f ws e =
    let marks = every (λ (w : List ℕ). eqb (bit (marked (f w))) (bit (marked w))) ws in
    record {
      one_to_one = one_by_test f ws (and_left (distinct (map f ws)) marks e);
      marks = marks_by-test f ws (and_right (distinct (map f ws)) marks e);
    }

-- Declarations

names-renamed : (f : List ℕ → List ℕ) (ds : List Declared) → names_of (map (renamed_declaration f) ds) ≡ map f (names_of ds)
names-renamed f [] = refl
names-renamed f (d ∷ ds) = ap (λ (ws : List (List ℕ)). f d.name ∷ ws) (names-renamed f ds)

sorts_renamed : (f : List ℕ → List ℕ) (ds : List Declared) (i : ℕ) → sort_of_slot (map (renamed_declaration f) ds) i ≡ sort_of_slot ds i
sorts_renamed f [] i = refl
sorts_renamed f (d ∷ ds) zero = refl
sorts_renamed f (d ∷ ds) (suc i) = sorts_renamed f ds i

-- Trees

module _ (f : List ℕ → List ℕ) (ds : List Declared) (rn : Renames f (names_of ds)) where
  abbrev ws : List (List ℕ)
  ws = names_of ds

  abbrev ds' : List Declared
  ds' = map (renamed_declaration f) ds

  slot-renamed : (w : List ℕ) → is_in ws w ≡ true → slot ds' (f w) ≡ slot ds w
  slot-renamed w b = ap (λ (vs : List (List ℕ)). place_in vs (f w)) (names-renamed f ds) ∙ place_renamed f ws rn ws (λ v e. e) w b

  known-renamed : (w : List ℕ) → is_in ws w ≡ true → is_in (names_of ds') (f w) ≡ true
  known-renamed w b = ap (λ (vs : List (List ℕ)). is_in vs (f w)) (names-renamed f ds) ∙ in_renamed f ws rn ws (λ v e. e) w b ∙ b

  record Alike (t : Tree) : Type 0 where
    known : knows (names_of ds') (renamed_tree f t) ≡ true
    deep : (levels : ℕ) → within levels (renamed_tree f t) ≡ within levels t
    full : counted (renamed_tree f t) ≡ counted t
    sized : size (renamed_tree f t) ≡ size t
    sorted : sort_in ds' (renamed_tree f t) ≡ sort_in ds t
    rooted : (before : ℕ) → root ds' before (renamed_tree f t) ≡ root ds before t
    listed : (before : ℕ) → tree_terms ds' before (renamed_tree f t) ≡ tree_terms ds before t

  record AllAlike (ts : Trees) : Type 0 where
    known : knows_all (names_of ds') (renamed_trees f ts) ≡ true
    deep : (levels : ℕ) → all_within levels (renamed_trees f ts) ≡ all_within levels ts
    full : all_counted (renamed_trees f ts) ≡ all_counted ts
    many : count (renamed_trees f ts) ≡ count ts
    sized : sizes (renamed_trees f ts) ≡ sizes ts
    first : first_sort ds' (renamed_trees f ts) ≡ first_sort ds ts
    second : second_sort ds' (renamed_trees f ts) ≡ second_sort ds ts
    rooted : (before : ℕ) → roots ds' before (renamed_trees f ts) ≡ roots ds before ts
    listed : (before : ℕ) → trees_terms ds' before (renamed_trees f ts) ≡ trees_terms ds before ts

  apply_deep : (op : ℕ) (ts ts' : Trees) → ((levels : ℕ) → all_within levels ts' ≡ all_within levels ts) → (levels : ℕ)
      → within levels (apply op ts') ≡ within levels (apply op ts)
  unfolding within
  apply_deep op ts ts' h zero = refl
  apply_deep op ts ts' h (suc levels) = h levels

  apply_alike : (op : ℕ) (ts : Trees) → AllAlike ts → Alike (apply op ts)
  unfolding renamed_tree knows counted size sort_in root tree_terms
  apply_alike op ts a =
      let s : sort_in ds' (apply op (renamed_trees f ts)) ≡ sort_in ds (apply op ts) = ap₂ (sort_by (rank_of (op_of op))) a.first a.second in
      record {
        known = a.known;
        deep = apply_deep op ts (renamed_trees f ts) a.deep;
        full = ap₂ (λ (n : ℕ) (b : Bool). eqb n (operands_of op) && b) a.many a.full;
        sized = ap suc a.sized;
        sorted = s;
        rooted = λ before. ap (λ (n : ℕ). before + n) a.sized;
        listed = λ before. λ i. a.listed before i ++ (list_term ds op (s i) (a.rooted before i) ∷ []);
      }

  cons_alike : (t : Tree) (ts : Trees) → Alike t → AllAlike ts → AllAlike (cons t ts)
  unfolding renamed_tree knows within count counted size sort_in roots tree_terms
  cons_alike t ts a b =
      record {
        known = both a.known b.known;
        deep = λ levels. ap₂ ◌&&◌ (a.deep levels) (b.deep levels);
        full = ap₂ ◌&&◌ a.full b.full;
        many = ap suc b.many;
        sized = ap₂ ◌+◌ a.sized b.sized;
        first = a.sorted;
        second = b.first;
        rooted = λ before. ap₂ (λ (k : ℕ) (ks : List ℕ). k ∷ ks) (a.rooted before)
            (ap (λ (n : ℕ). roots ds' (before + n) (renamed_trees f ts)) a.sized ∙ b.rooted (before + size t));
        listed = λ before. ap₂ ◌++◌ (a.listed before)
            (ap (λ (n : ℕ). trees_terms ds' (before + n) (renamed_trees f ts)) a.sized ∙ b.listed (before + size t));
      }

  mutual
    unfolding renamed_tree knows within count counted size sort_in root roots tree_terms

    alike : (t : Tree) → knows ws t ≡ true → Alike t
    alike (literal n v) kn =
        record { known = refl; deep = λ levels. refl; full = refl; sized = refl; sorted = refl; rooted = λ before. refl; listed = λ before. refl }
    alike (symbol w) kn =
        let s = slot-renamed w kn in
        record {
          known = known-renamed w kn;
          deep = λ levels. refl;
          full = refl;
          sized = refl;
          sorted = ap (sort_of_slot ds') s ∙ sorts_renamed f ds (slot ds w);
          rooted = λ before. s;
          listed = λ before. refl;
        }
    alike (apply op ts) kn = apply_alike op ts (all_alike ts kn)

    all_alike : (ts : Trees) → knows_all ws ts ≡ true → AllAlike ts
    all_alike nil kn =
        record {
          known = refl;
          deep = λ levels. refl;
          full = refl;
          many = refl;
          sized = refl;
          first = refl;
          second = refl;
          rooted = λ before. refl;
          listed = λ before. refl;
        }
    all_alike (cons t ts) kn =
        cons_alike t ts (alike t (and_left (knows ws t) (knows_all ws ts) kn)) (all_alike ts (and_right (knows ws t) (knows_all ws ts) kn))

  -- Rules

  variables-renamed : (i : ℕ) (es : List Declared) → Within f ws rn (names_of es) → variables ds' i (map (renamed_declaration f) es) ≡ variables ds i es
  unfolding variables
  variables-renamed i [] h = refl
  variables-renamed i (d ∷ es) h =
      ap₂ (λ (b : Bool) (xs : List Term). variable_term d.sort.m d.sort.n i b ∷ xs)
      (rn.marks d.name (h d.name (head_in_lem d.name (names_of es))))
      (variables-renamed (suc i) es (within_tail f ws rn d.name (names_of es) h))

  abbrev Known : List Tree → Type 0
  Known ts = every_tree (knows ws) ts ≡ true

  known-first : (t : Tree) (ts : List Tree) → Known (t ∷ ts) → Alike t
  unfolding every_tree
  known-first t ts kn = alike t (and_left (knows ws t) (every_tree (knows ws) ts) kn)

  known_rest : (t : Tree) (ts : List Tree) → Known (t ∷ ts) → Known ts
  unfolding every_tree
  known_rest t ts kn = and_right (knows ws t) (every_tree (knows ws) ts) kn

  every-renamed : (p p' : Tree → Bool) → ((t : Tree) → Alike t → p' (renamed_tree f t) ≡ p t) → (ts : List Tree) → Known ts
      → every_tree p' (map (renamed_tree f) ts) ≡ every_tree p ts
  unfolding every_tree
  every-renamed p p' h [] kn = refl
  every-renamed p p' h (t ∷ ts) kn = ap₂ ◌&&◌ (h t (known-first t ts kn)) (every-renamed p p' h ts (known_rest t ts kn))

  joins-renamed : (before rule : ℕ) (ts : List Tree) → Known ts → joins ds' before rule (map (renamed_tree f) ts) ≡ joins ds before rule ts
  unfolding joins
  joins-renamed before rule [] kn = refl
  joins-renamed before rule (t ∷ ts) kn =
      let a = known-first t ts kn in
      let rest = joins-renamed (suc (before + size t)) (before + size t) ts (known_rest t ts kn) in
      let later = ap (λ (n : ℕ). joins ds' (suc (before + n)) (before + n) (map (renamed_tree f) ts)) a.sized ∙ rest in
      ap₂ (λ (xs ys : List Term). xs ++ ys) (a.listed before) (ap₂ (λ (k : ℕ) (ys : List Term). and_term rule k ∷ ys) (a.rooted before) later)

  asserted-renamed : (before : ℕ) (ts : List Tree) → Known ts → asserted ds' before (map (renamed_tree f) ts) ≡ asserted ds before ts
  unfolding renamed_tree root
  asserted-renamed before [] kn = refl
  asserted-renamed before (literal n v ∷ []) kn = (known-first (literal n v) [] kn).listed before
  asserted-renamed before (symbol w ∷ []) kn = ap (λ (k : ℕ). and_term k k ∷ []) ((known-first (symbol w) [] kn).rooted before)
  asserted-renamed before (apply op ts ∷ []) kn = (known-first (apply op ts) [] kn).listed before
  asserted-renamed before (t ∷ u ∷ us) kn =
      let a = known-first t (u ∷ us) kn in
      let rest = joins-renamed (before + size t) (root ds before t) (u ∷ us) (known_rest t (u ∷ us) kn) in
      ap₂ (λ (xs ys : List Term). xs ++ ys) (a.listed before)
      (ap₂ (λ (n k : ℕ). joins ds' (before + n) k (map (renamed_tree f) (u ∷ us))) a.sized (a.rooted before) ∙ rest)

terms-renamed : (f : List ℕ → List ℕ) (r : Rule) → Renames f (names_of r.declarations)
    → every_tree (knows (names_of r.declarations)) r.asserts ≡ true → rule_terms (renamed f r) ≡ rule_terms r
terms-renamed f r rn kn =
    let ds = r.declarations in
    let ts = r.asserts in
    let many = ap (λ (n : ℕ). asserted (map (renamed_declaration f) ds) n (map (renamed_tree f) ts)) (length-map ds (renamed_declaration f)) in
    ap₂ (λ (xs ys : List Term). xs ++ ys) (variables-renamed f ds rn 0 ds (λ v e. e)) (many ∙ asserted-renamed f ds rn (length ds) ts kn)

every-known : (f : List ℕ → List ℕ) (ds : List Declared) (rn : Renames f (names_of ds)) (ts : List Tree) → every_tree (knows (names_of ds)) ts ≡ true
    → every_tree (knows (names_of (map (renamed_declaration f) ds))) (map (renamed_tree f) ts) ≡ true
unfolding every_tree
every-known f ds rn [] kn = refl
every-known f ds rn (t ∷ ts) kn = both (known-first f ds rn t ts kn).known (every-known f ds rn ts (known_rest f ds rn t ts kn))

meets-renamed : (f : List ℕ → List ℕ) (r : Rule) → Renames f (names_of r.declarations) → Met r → meets (renamed f r) ≡ true
meets-renamed f r rn m =
    let ds = r.declarations in
    let ts = r.asserts in
    let ws = names_of ds in
    let apart = ap distinct (names-renamed f ds) ∙ distinct-renamed f ws rn ws (λ v e. e) ∙ m.apart in
    let deep = every-renamed f ds rn (within 64) (within 64) (λ t a. a.deep 64) ts m.known ∙ m.deep in
    let full = every-renamed f ds rn counted counted (λ t a. a.full) ts m.known ∙ m.full in
    let some = ap (ltb 0) (length-map ts (renamed_tree f)) ∙ m.some in
    both (both (both (both apart (every-known f ds rn ts m.known)) deep) full) some

pub renamed_alike : RenamedAlike
renamed_alike f r rn m a b small small' d d' =
    let p = met_parts r m in
    let m' = meets-renamed f r rn p in
    let same = terms-renamed f r rn p.known in
    let answer : (room : ℕ) → parsing a room ≡ parsing b room =
    λ room. (parses_to a r small d m).answer room ∙ sym
    ((parses_to b (renamed f r) small' d' m').answer room ∙ ap (λ (xs : List Term). tabled (numbers_of xs) (length xs) room) same) in
    let table : (room n : ℕ) → parsing a room ≡ Ok n → built a ≡ built b =
    λ room n e. built_is a r small d m room n e ∙ sym (built_is b (renamed f r) small' d' m' room n (sym (answer room) ∙ e) ∙ ap numbers_of same) in
    record { answer = answer; table = table; left = λ room. go room (answer (length room)) (table (length room)) (parsing a (length room)) refl }
  where
    go : (room : List ℕ) → parsing a (length room) ≡ parsing b (length room) → ((n : ℕ) → parsing a (length room) ≡ Ok n → built a ≡ built b)
        → (x : Parsing) → parsing a (length room) ≡ x → room_after (parsing a (length room)) a room ≡ room_after (parsing b (length room)) b room
    go room same table (Ok n) e =
        ap (λ (y : Parsing). room_after y a room) e ∙ ap (λ (t : List ℕ). t ++ drop n room) (table n e) ∙ ap (λ (y : Parsing). room_after y b room)
        (sym e ∙ same)
    go room same table (Err q) e = ap (λ (y : Parsing). room_after y a room) e ∙ ap (λ (y : Parsing). room_after y b room) (sym e ∙ same)
