-- Every text of the language is read to its end without a fault, and its table is that of its tree.
-- Assumes nothing.
use mathlib.Core.Path.{◌≡◌, refl, sym, ap, ◌∙◌, subst}
use mathlib.Core.Bool.{Bool, true, false, cond, ◌&&◌}
use mathlib.Core.List.{List, [], ◌∷◌, ◌++◌, append-nil, append_assoc}
use Prim.Native.Nat.{ℕ, zero, suc, ◌+◌, ◌*◌, ◌<◌, ◌≤◌}
use native.Mathlib.Omega.{arith}
use lib.Dec.{eqb, ltb}
use lib.ListN.{length, length-append, length-replicate, replicate, take, drop}
use lib.Seq.{sets, sets-eq, take_at}
use borrow.Author.Tests.{eq-eqb, ne_eqb, eqb-true, lt-ltb, le-ltb, ltb-true, ltb-false}
use Rattle.smtlib.specs.Bytes.{is_in}
use Rattle.smtlib.proofs.Cuts.{and_left, and_right}
use Rattle.table.specs.declared.words.Sort.{Sort}
use Rattle.table.specs.declared.words.Term.{Term}
use Rattle.table.specs.Code.Writing.{placed}
use Rattle.parser.specs.declared.words.Word.{Word}
use Rattle.parser.specs.declared.words.Word.TheVariants.{Open, Close, Keyword, End}
use Rattle.parser.specs.declared.words.Keyword.TheVariants.{DeclareConst, Assert, CheckSat}
use Rattle.parser.specs.declared.states.State.{State}
use Rattle.parser.specs.declared.states.Listed.{Listed}
use Rattle.parser.specs.declared.states.Progress.{Progress}
use Rattle.parser.specs.Words.{marked, token_at}
use Rattle.parser.specs.Expressions.{fault_in, Work, Listing, more_of, number, begin_list, joined_to, operands_by, operands_of, expression_of}
use Rattle.parser.specs.Rules.{Step, moved_to, is_name, variable_term, and_term, joined_rule, ended_rule, command_of, commands_of, start, rule_of}
use Rattle.parser.specs.Grammar.{Tree, Trees, Declared, Rule, Stands, Named, Sorting, Expression, Operands, Declarations, Asserts, Reads}
use Rattle.parser.specs.Grammar.Tree.{literal, symbol, apply}
use Rattle.parser.specs.Grammar.Expression.{constant, name, list}
use Rattle.parser.specs.Grammar.Operands.{none as no_Operand, more as one_operand}
use Rattle.parser.specs.Grammar.Declarations.{none as undeclared, more as declared}
use Rattle.parser.specs.Grammar.Asserts.{none as unasserted, more as asserted}
use Rattle.parser.specs.Trees.{names_of, distinct, every_tree, knows, knows_all, within, all_within, count, counted, all_counted, meets, size, sizes, slot, root, sort_of_slot, tree_terms, variables, joins, alone, asserted as asserted_terms, rule_terms}
use Rattle.parser.specs.Laws.{numbers_of, Storable, Complete}
use Rattle.parser.proofs.Accepts.{never, Known, declared_is, operands_read, done_at, constant_at, call_at, operand_at}
use Rattle.parser.proofs.Accepts.{head_constant, head_name, head_call, closed_close, joined_state, follows}
use Rattle.parser.proofs.Written.{sort_among, numbers-length, Holds, placed-more, tree_length, Based, based_more, Wrote, writes}
use Rattle.parser.proofs.NameLists.{distinct-here, names-append}
use Rattle.parser.proofs.Onward.{onward, open_onward, close_inside, sort_onward, expression_onward, then_declared}
use Rattle.parser.proofs.Steps.{declared-step, assert-step, assert-there, check-step}
use Rattle.parser.proofs.Sound.{names-known, stays, goes}

stands_at : {text : List ℕ} {from at to : ℕ} {w : Word} → at ≡ from → Stands text from w to → Stands text at w to
stands_at {text} e s = record { here = ap (λ (i : ℕ). (token_at text i).word) e ∙ s.here; after = ap (λ (i : ℕ). (token_at text i).next) e ∙ s.after }

abbrev zeros : List ℕ
zeros = replicate 3072 0

zeros_long : length zeros ≡ 3072
zeros_long = length-replicate {A = ℕ} 3072 0

-- The count, whatever it is: that of the terms up to 512, and then 513

number_more : (k : ℕ) → more_of (number k) ≡ number (suc k)
number_more k = go (ltb k 513) refl
  where
    few : k < 513 → (b : Bool) → ltb (suc k) 513 ≡ b → k + 1 ≡ cond b (suc k) 513
    few h true e = omega arith
    few h false e = omega (arith, ltb-false (suc k) 513 e)

    go : (b : Bool) → ltb k 513 ≡ b → more_of (cond b k 513) ≡ number (suc k)
    go true e = rw e (few (ltb-true k 513 e) (ltb (suc k) 513) refl)
    go false e = rw (le-ltb (suc k) 513 (omega (arith, ltb-false k 513 e)))

-- the same count; one term more
counts_same : {n : ℕ} (k l : ℕ) → n ≡ number k → k ≡ l → n ≡ number l
counts_same k l e f = e ∙ ap number f

counts_one : {n : ℕ} (k l : ℕ) → n ≡ number k → suc k ≡ l → more_of n ≡ number l
counts_one k l e f = ap more_of e ∙ number_more k ∙ ap number f

record Counts (v : State) (to k : ℕ) : Type 0 where
  clean : fault_in v ≡ 0
  place : v.at ≡ to
  many : v.count ≡ number k

module _ (text : List ℕ) (names : ℕ) (ws : List (List ℕ)) (known : Known text names ws) where
  mutual
    unfolding operands_by knows within count counted size

    counts : {from to : ℕ} {t : Tree} → Expression text from t to → (levels : ℕ) (s : State) (room : List ℕ) (k : ℕ)
        → fault_in s ≡ 0 → s.at ≡ from → s.count ≡ number k
        → knows ws t ≡ true → within levels t ≡ true → counted t ≡ true → (expression_of levels text names s room).state.count ≡ number (k + size t)
    counts (constant {n = n} {v = v} {to = to} w) levels s room k f e m kn wi co =
        ap (λ (x : Work). x.state.count) (constant_at text names levels s room n v to (head_constant text names s levels f e w))
        ∙ counts_one k (k + 1) m (omega arith)
    counts (name {w = w} n) levels s room k f e m kn wi co =
        ap (λ (x : Work). x.state.count) (done_at text names levels s room _ (head_name text names s levels f e n (declared_is known w ∙ kn)))
        ∙ counts_same k (k + 0) m (omega arith)
    counts (list o p os c) zero s room k f e m kn wi co = absurd (never wi)
    counts (list {op = op} {b = b} {ts = ts} o p os c) (suc levels) s room k f e m kn wi co =
        let few = eqb-true (count ts) (operands_of op) (and_left (eqb (count ts) (operands_of op)) (all_counted ts) co) in
        let co' = and_right (eqb (count ts) (operands_of op)) (all_counted ts) co in
        let r = counts_all os levels (operands_of op) few (begin_list s b) room k f refl m kn wi co' in
        let l = (operands_read text names levels (operands_of op) (begin_list s b) room).listed in
        ap (λ (x : Work). x.state.count) (call_at text names levels s room op b (head_call text names s levels f e o p))
        ∙ ap (λ (x : State). x.count) (closed_close text names levels l r.clean r.place c)
        ∙ counts_one (k + sizes ts) (k + suc (sizes ts)) r.many (omega arith)

    counts_all : {from to : ℕ} {ts : Trees} → Operands text from ts to → (levels left : ℕ) → count ts ≡ left → (l : Listed) (room : List ℕ) (k : ℕ)
        → fault_in l.state ≡ 0 → l.state.at ≡ from → l.state.count ≡ number k
        → knows_all ws ts ≡ true → all_within levels ts ≡ true → all_counted ts ≡ true
        → Counts (operands_read text names levels left l room).listed.state to (k + sizes ts)
    counts_all no_Operand levels zero n l room k f e m kn wi co = record { clean = f; place = e; many = counts_same k (k + 0) m (omega arith) }
    counts_all no_Operand levels (suc left) n l room k f e m kn wi co = absurd (omega arith)
    counts_all (one_operand x xs) levels zero n l room k f e m kn wi co = absurd (omega arith)
    counts_all {to = to} (one_operand {t = t} {ts = ts} x xs) levels (suc left) n l room k f e m kn wi co =
        let kn' = and_left (knows ws t) (knows_all ws ts) kn in
        let wi' = and_left (within levels t) (all_within levels ts) wi in
        let co' = and_left (counted t) (all_counted ts) co in
        let h = follows known x levels l.state room f e kn' wi' co' in
        let v = expression_of levels text names l.state room in
        let j = joined_state l v.state in
        let f' = ap (λ (s : State). (fault_in s)) j ∙ h.clean in
        let e' = ap (λ (s : State). s.at) j ∙ h.place in
        let m' = ap (λ (s : State). s.count) j ∙ counts x levels l.state room k f e m kn' wi' co' in
        let r = counts_all xs levels left (omega arith) (joined_to l v.state) v.room (k + size t) f' e' m' (and_right (knows ws t) (knows_all ws ts) kn)
        (and_right (within levels t) (all_within levels ts) wi) (and_right (counted t) (all_counted ts) co) in
        subst (λ (u : Listing). Counts u.listed.state to (k + (size t + sizes ts))) (sym (operand_at text names levels left l room h.clean))
        (record { clean = r.clean; place = r.place; many = counts_same (k + size t + sizes ts) (k + (size t + sizes ts)) r.many (omega arith) })

-- the declarations that were read, up to a place, and the asserts: how many, the rule so far, whether it is a bare name; and the terms so far
record Ready (text : List ℕ) (ds : List Declared) (at n rule : ℕ) (bare : Bool) (xs : List Term) (v : Step) : Type 0 where
  clean : fault_in v.progress.state ≡ 0
  place : v.progress.state.at ≡ at
  names_are : v.progress.names ≡ length ds
  going_on : v.progress.ended ≡ false
  asserts_are : v.progress.asserts ≡ n
  bare_is : v.progress.bare ≡ bare
  rule_is : length xs ≤ 512 → v.progress.rule ≡ rule
  many : v.progress.state.count ≡ number (length xs)
  holds : length xs ≤ 512 → Holds zeros xs v.progress.state.count v.room

-- asserts more: how many there are then, and whether there is one bare name
abbrev count_then : ℕ → List Tree → ℕ
count_then n [] = n
count_then n (u ∷ us) = 2

abbrev bare_then : Bool → List Tree → Bool
bare_then bare [] = bare
bare_then bare (u ∷ us) = false

then_two : (us : List Tree) → count_then 2 us ≡ 2
then_two [] = refl
then_two (u ∷ us) = refl

then_joined : (us : List Tree) → bare_then false us ≡ false
then_joined [] = refl
then_joined (u ∷ us) = refl

-- commands later
record Led (text : List ℕ) (ds : List Declared) (to n rule : ℕ) (bare : Bool) (xs : List Term) (left : ℕ) (v : Step) : Type 0 where
  left_then : ℕ
  then_is : Step
  rule_then : ℕ
  same : commands_of left text v ≡ commands_of left_then text then_is
  ready : Ready text ds to n rule_then bare xs then_is
  rule_same : n < 2 → rule_then ≡ rule
  fuel : length text < left_then + to

-- Declarations

module _ (text : List ℕ) (small : Storable text) (all : List Declared) (apart : distinct (names_of all) ≡ true) where
  one_declared : {ds : List Declared} {from a b c d e : ℕ} {w : List ℕ} {q : Sort} {v : Step} {xs : List Term} → Ready text ds from 0 0 false xs v → length xs ≡ length ds
      → Stands text from Open a → Stands text a (Keyword DeclareConst) b → Named text b w c → Sorting text c q d → Stands text d Close e
      → Declarations text 0 ds from → is_in (names_of ds) w ≡ false → length ds < 4611686018427387904
      → Ready text (ds ++ (record { name = w; sort = q } ∷ [])) e 0 0 false (xs ++ (variable_term q.m q.n (length ds) (marked w) ∷ [])) (command_of text v.progress v.room)
  one_declared {ds} {w = w} {q = q} {v = v} {xs = xs} r same o k n s z before new few =
      let p = v.progress in
      let x = variable_term q.m q.n (length ds) (marked w) in
      let o' = stands_at r.place o in
      let fresh = declared_is (names-known before r.names_are) w ∙ new in
      let less : p.names < 4611686018427387904 = omega (arith, r.names_are) in
      let grown = length-append xs (x ∷ []) in
      let long : length (ds ++ (record { name = w; sort = q } ∷ [])) ≡ length ds + 1 = length-append ds (record { name = w; sort = q } ∷ []) in
      rw (declared-step text p v.room r.clean r.asserts_are o' k n s z fresh)
      (record {
        clean = refl;
        place = refl;
        names_are = rw (lt-ltb _ _ less) (omega (arith, r.names_are, long));
        going_on = r.going_on;
        asserts_are = r.asserts_are;
        bare_is = r.bare_is;
        rule_is = λ i. r.rule_is (omega arith);
        many = counts_one (length xs) (length (xs ++ (x ∷ []))) r.many (omega arith);
        holds = λ i. rw (r.names_are, lt-ltb (length ds) 513 (omega arith)) (placed-more zeros zeros_long xs x p.state.count v.room (r.holds (omega arith)) (omega arith));
      })

  all-declared : {es : List Declared} {from to : ℕ} → (ds : List Declared) → Declarations text 0 ds from → Declarations text from es to → ds ++ es ≡ all
      → length ds ≤ from → (left : ℕ) (v : Step) (xs : List Term) → length xs ≡ length ds → Ready text ds from 0 0 false xs v → length text < left + from → Led text all to 0 0 false (xs ++ variables all (length ds) es) left v
  unfolding variables
  all-declared {to = to} ds before undeclared e few left v xs even r fuel =
      record {
        left_then = left;
        then_is = v;
        rule_then = 0;
        same = refl;
        fuel = fuel;
        rule_same = λ i. refl;
        ready = subst (λ (x : List Declared). Ready text x to 0 0 false (xs ++ []) v) (sym (append-nil ds) ∙ e) (subst (λ (ys : List Term). Ready text ds to 0 0 false ys v) (sym (append-nil xs)) r);
      }
  all-declared ds before (declared o k n s z es) e few zero v xs even r fuel =
      absurd (omega (arith, open_onward o, onward k, onward n.stands, sort_onward s, onward z, close_inside z))
  all-declared {from = from} {to} ds before (declared {e = mid} {w = w} {s = q} {ds = es} o k n s z rest) e few (suc left) v xs even r fuel =
      let d : Declared = record { name = w; sort = q } in
      let x = variable_term q.m q.n (length ds) (marked w) in
      let w' = command_of text v.progress v.room in
      let moves : from < mid = omega (arith, open_onward o, onward k, onward n.stands, sort_onward s, onward z) in
      let ends = close_inside z in
      let new : is_in (names_of ds) w ≡ false = distinct-here (names_of ds) w (names_of es) (ap distinct (sym (names-append ds (d ∷ es))) ∙ ap (λ (y : List Declared). distinct (names_of y)) e ∙ apart) in
      let one = one_declared r even o k n s z before new (omega arith) in
      let longer : length (ds ++ (d ∷ [])) ≡ suc (length ds) = length-append ds (d ∷ []) ∙ omega arith in
      let l = all-declared (ds ++ (d ∷ [])) (then_declared before (declared o k n s z undeclared)) rest (append_assoc ds (d ∷ []) es ∙ e) (omega (arith, longer)) left w' (xs ++ (x ∷ [])) (length-append xs (x ∷ []) ∙ omega (arith, longer)) one (omega arith) in
      let terms : (xs ++ (x ∷ [])) ++ variables all (length (ds ++ (d ∷ []))) es ≡ xs ++ (x ∷ variables all (suc (length ds)) es) =
      ap (λ (i : ℕ). (xs ++ (x ∷ [])) ++ variables all i es) longer ∙ append_assoc xs (x ∷ []) (variables all (suc (length ds)) es) in
      record {
        left_then = l.left_then;
        then_is = l.then_is;
        rule_then = l.rule_then;
        same = goes left text v r.going_on r.clean ∙ l.same;
        fuel = l.fuel;
        rule_same = l.rule_same;
        ready = subst (λ (ys : List Term). Ready text all to 0 l.rule_then false ys l.then_is) terms l.ready;
      }

-- Asserts

module _ (text : List ℕ) (ds : List Declared) {declared_to : ℕ} (before : Declarations text 0 ds declared_to) where
  -- an expression and its closing parenthesis
  record Asserted (p : Progress) (room : List ℕ) (xs : List Term) (t : Tree) (b d : ℕ) (g : Work) : Type 0 where
    is : command_of text p room ≡ joined_rule p (is_name (token_at text b).word) g
    clean : fault_in g.state ≡ 0
    place : g.state.at ≡ d
    rooted : length (xs ++ tree_terms ds (length xs) t) ≤ 512 → g.state.root ≡ root ds (length xs) t
    many : g.state.count ≡ number (length (xs ++ tree_terms ds (length xs) t))
    holds : length (xs ++ tree_terms ds (length xs) t) ≤ 512 → Holds zeros (xs ++ tree_terms ds (length xs) t) g.state.count g.room

  abbrev after : Progress → List ℕ → ℕ → ℕ → Work
  after p room b d = record { state = moved_to (expression_of 64 text p.names (moved_to p.state b) room).state d; room = (expression_of 64 text p.names (moved_to p.state b) room).room }

  asserted-there : {from a b c d m rule : ℕ} {bare : Bool} {t : Tree} {v : Step} {xs : List Term} → Ready text ds from m rule bare xs v → Based ds xs
      → Stands text from Open a → Stands text a (Keyword Assert) b → Expression text b t c → Stands text c Close d → knows (names_of ds) t ≡ true → within 64 t ≡ true → counted t ≡ true
      → Asserted v.progress v.room xs t b d (after v.progress v.room b d)
  asserted-there {b = b} {c = c} {d = d} {t = t} {v = v} {xs = xs} r based o k x z kn wi co =
      let p = v.progress in
      let s = moved_to p.state b in
      let known = names-known before r.names_are in
      let g = expression_of 64 text p.names s v.room in
      let h = follows known x 64 s v.room r.clean refl kn wi co in
      let grown = length-append xs (tree_terms ds (length xs) t) in
      let sized = tree_length ds (length xs) t in
      let wrote : length (xs ++ tree_terms ds (length xs) t) ≤ 512 → Wrote zeros ds xs t c g =
      λ i. writes zeros zeros_long ds text p.names known x 64 s v.room xs r.clean refl (r.holds (omega arith)) based kn wi co (omega arith) in
      let many : g.state.count ≡ number (length (xs ++ tree_terms ds (length xs) t)) =
      counts_same (length xs + size t) (length (xs ++ tree_terms ds (length xs) t))
      (counts text p.names (names_of ds) known x 64 s v.room (length xs) r.clean refl r.many kn wi co) (omega arith) in
      record {
        is = assert-step text p v.room (stands_at r.place o) k ∙ assert-there text p s v.room g refl h.clean h.place z;
        clean = h.clean;
        place = refl;
        rooted = λ i. (wrote i).rooted;
        many = many;
        holds = λ i. (wrote i).holds;
      }

  -- the first is the rule so far
  first-asserted : {d b : ℕ} {t : Tree} {v : Step} {xs : List Term} {g : Work} → v.progress.names ≡ length ds → v.progress.asserts ≡ 0 → Asserted v.progress v.room xs t b d g
      → Ready text ds d 1 (root ds (length xs) t) (is_name (token_at text b).word) (xs ++ tree_terms ds (length xs) t) (command_of text v.progress v.room)
  unfolding joined_rule
  first-asserted names n y =
      rw (y.is, eq-eqb _ _ y.clean, eq-eqb _ _ n)
      (record { clean = y.clean; place = y.place; names_are = names; going_on = refl; asserts_are = refl; bare_is = refl; rule_is = y.rooted; many = y.many; holds = y.holds })

  -- each other is joined to it
  next-asserted : {from d b m rule : ℕ} {bare : Bool} {t : Tree} {v : Step} {xs : List Term} {g : Work} → Ready text ds from (suc m) rule bare xs v → Asserted v.progress v.room xs t b d g
      → Ready text ds d 2 (length xs + size t) false (xs ++ (tree_terms ds (length xs) t ++ (and_term rule (root ds (length xs) t) ∷ []))) (command_of text v.progress v.room)
  unfolding joined_rule
  next-asserted {rule = rule} {t = t} {v = v} {xs = xs} {g = g} r y =
      let ys = tree_terms ds (length xs) t in
      let x = and_term rule (root ds (length xs) t) in
      let grown = length-append xs ys in
      let sized = tree_length ds (length xs) t in
      let whole : length (xs ++ (ys ++ (x ∷ []))) ≡ length (xs ++ ys) + 1 = ap length (sym (append_assoc xs ys (x ∷ []))) ∙ length-append (xs ++ ys) (x ∷ []) in
      rw (y.is, eq-eqb _ _ y.clean, ne_eqb v.progress.asserts 0 (λ i. omega (arith, r.asserts_are)))
      (record {
        clean = refl;
        place = y.place;
        names_are = r.names_are;
        going_on = refl;
        asserts_are = refl;
        bare_is = refl;
        rule_is = λ i. (y.holds (omega arith)).counts ∙ omega arith;
        many = counts_one (length (xs ++ ys)) (length (xs ++ (ys ++ (x ∷ [])))) y.many (omega arith);
        holds = λ i. rw (r.rule_is (omega arith), y.rooted (omega arith)) (subst (λ (l : List Term). Holds zeros l (more_of g.state.count) (placed g.room g.state.count x)) (append_assoc xs ys (x ∷ [])) (placed-more zeros zeros_long (xs ++ ys) x g.state.count g.room (y.holds (omega arith)) (omega arith)));
      })

  all_joined : {us : List Tree} {from to : ℕ} → Asserts text from us to → every_tree (knows (names_of ds)) us ≡ true → every_tree (within 64) us ≡ true → every_tree counted us ≡ true
      → (left : ℕ) (v : Step) (xs : List Term) (m rule : ℕ) (bare : Bool) → Based ds xs → Ready text ds from (suc m) rule bare xs v → length text < left + from
      → Led text ds to (count_then (suc m) us) rule (bare_then bare us) (xs ++ joins ds (length xs) rule us) left v
  unfolding every_tree joins
  all_joined {to = to} unasserted kn wi co left v xs m rule bare based r fuel =
      record { left_then = left; then_is = v; same = refl; fuel = fuel; rule_then = rule; ready = subst (λ (ys : List Term). Ready text ds to (suc m) rule bare ys v) (sym (append-nil xs)) r; rule_same = λ i. refl }
  all_joined (asserted o k x z rest) kn wi co zero v xs m rule bare based r fuel = absurd (omega (arith, open_onward o, onward k, expression_onward x, onward z, close_inside z))
  all_joined {from = from} {to} (asserted {d = mid} {t = t} {ts = us} o k x z rest) kn wi co (suc left) v xs m rule bare based r fuel =
      let ws = names_of ds in
      let ys = tree_terms ds (length xs) t in
      let y = and_term rule (root ds (length xs) t) in
      let zs = xs ++ (ys ++ (y ∷ [])) in
      let moves : from < mid = omega (arith, open_onward o, onward k, expression_onward x, onward z) in
      let one = next-asserted r (asserted-there r based o k x z (and_left (knows ws t) (every_tree (knows ws) us) kn) (and_left (within 64 t) (every_tree (within 64) us) wi) (and_left (counted t) (every_tree counted us) co)) in
      let l = all_joined rest (and_right (knows ws t) (every_tree (knows ws) us) kn) (and_right (within 64 t) (every_tree (within 64) us) wi) (and_right (counted t) (every_tree counted us) co)
      left (command_of text v.progress v.room) zs 1 (length xs + size t) false (based_more ds xs (ys ++ (y ∷ [])) based) one (omega arith) in
      let long : length zs ≡ suc (length xs + size t) = length-append xs (ys ++ (y ∷ [])) ∙ omega (arith, length-append ys (y ∷ []), tree_length ds (length xs) t) in
      let later = joins ds (suc (length xs + size t)) (length xs + size t) us in
      let terms : zs ++ joins ds (length zs) (length xs + size t) us ≡ xs ++ (ys ++ (y ∷ later)) =
      ap (λ (i : ℕ). zs ++ joins ds i (length xs + size t) us) long ∙ append_assoc xs (ys ++ (y ∷ [])) later ∙ ap (λ (q : List Term). xs ++ q) (append_assoc ys (y ∷ []) later) in
      record {
        left_then = l.left_then;
        then_is = l.then_is;
        same = goes left text v r.going_on r.clean ∙ l.same;
        fuel = l.fuel;
        rule_then = l.rule_then;
        ready =
            subst (λ (i : ℕ). Ready text ds to i l.rule_then false (xs ++ (ys ++ (y ∷ later))) l.then_is) (then_two us)
            (subst (λ (i : Bool). Ready text ds to (count_then 2 us) l.rule_then i (xs ++ (ys ++ (y ∷ later))) l.then_is) (then_joined us)
            (subst (λ (q : List Term). Ready text ds to (count_then 2 us) l.rule_then (bare_then false us) q l.then_is) terms l.ready));
        rule_same = λ i. absurd (omega arith);
      }

-- The end

record Over (xs : List Term) (v : Step) : Type 0 where
  clean : fault_in v.progress.state ≡ 0
  over : v.progress.ended ≡ true
  many : v.progress.state.count ≡ number (length xs)
  holds : length xs ≤ 512 → Holds zeros xs v.progress.state.count v.room

-- no bare name alone: nothing is added; a bare name is joined with itself
ends_joined : {text : List ℕ} {ds : List Declared} {at n rule : ℕ} {bare : Bool} {xs : List Term} {v : Step} → Ready text ds at n rule bare xs v → eqb n 1 && bare ≡ false → (to : ℕ)
    → Over xs (ended_rule v.progress (moved_to v.progress.state to) v.room)
unfolding ended_rule
ends_joined {v = v} r e to =
    let f : eqb v.progress.asserts 1 && v.progress.bare ≡ false = rw (r.asserts_are, r.bare_is) e in
    rw (eq-eqb _ _ r.clean, f) (record { clean = r.clean; over = refl; many = r.many; holds = r.holds })

ends_bare : {text : List ℕ} {ds : List Declared} {at rule : ℕ} {xs : List Term} {v : Step} → Ready text ds at 1 rule true xs v → (to : ℕ)
    → Over (xs ++ (and_term rule rule ∷ [])) (ended_rule v.progress (moved_to v.progress.state to) v.room)
unfolding ended_rule
ends_bare {rule = rule} {xs = xs} {v = v} r to =
    let f : eqb v.progress.asserts 1 && v.progress.bare ≡ true = rw (r.asserts_are, r.bare_is) in
    let grown = length-append xs (and_term rule rule ∷ []) in
    rw (eq-eqb _ _ r.clean, f)
    (record {
      clean = refl;
      over = refl;
      many = counts_one (length xs) (length (xs ++ (and_term rule rule ∷ []))) r.many (omega arith);
      holds = λ i. rw (r.rule_is (omega arith)) (placed-more zeros zeros_long xs (and_term rule rule) v.progress.state.count v.room (r.holds (omega arith)) (omega arith));
    })

-- check-sat is the last command
ended_now : {text : List ℕ} {ds : List Declared} {from a b c n rule : ℕ} {bare : Bool} {xs ys : List Term} → Stands text from Open a → Stands text a (Keyword CheckSat) b → Stands text b Close c → (token_at text c).word ≡ End
    → (left : ℕ) (v : Step) → Ready text ds from (suc n) rule bare xs v → length text < left + from → Over ys (ended_rule v.progress (moved_to v.progress.state (token_at text c).next) v.room)
    → Over ys (commands_of left text v)
ended_now o k z end zero v r fuel u = absurd (omega (arith, open_onward o, onward k, onward z, close_inside z))
ended_now {text} {c = c} {ys = ys} o k z end (suc left) v r fuel u =
    let p = v.progress in
    let e = goes left text v r.going_on r.clean
    ∙ ap (commands_of left text) (check-step text p v.room r.clean (λ i. omega (arith, r.asserts_are)) (stands_at r.place o) k z end)
    ∙ stays left text (ended_rule p (moved_to p.state (token_at text c).next) v.room) (rw u.over) in
    subst (Over ys) (sym e) u

-- The variables stand in front

pub variables-length : (ds : List Declared) (i : ℕ) (es : List Declared) → length (variables ds i es) ≡ length es
unfolding variables
variables-length ds i [] = refl
variables-length ds i (d ∷ es) = ap suc (variables-length ds (suc i) es)

variables_sorts : (ds : List Declared) (i : ℕ) (es : List Declared) (k : ℕ) → k < length es → sort_among (variables ds i es) k ≡ sort_of_slot es k
unfolding variables sort_among
variables_sorts ds i [] k h = absurd (omega arith)
variables_sorts ds i (d ∷ es) zero h = refl
variables_sorts ds i (d ∷ es) (suc k) h = variables_sorts ds (suc i) es k (omega arith)

based_variables : (ds : List Declared) → Based ds (variables ds 0 ds)
based_variables ds = record { enough = omega (arith, variables-length ds 0 ds); sorts = λ i h. variables_sorts ds 0 ds i h }

-- whether an expression is a bare name
abbrev bare_tree : Tree → Bool
bare_tree (literal n v) = false
bare_tree (symbol w) = true
bare_tree (apply op ts) = false

bare_name : {text : List ℕ} {from to : ℕ} {t : Tree} → Expression text from t to → is_name (token_at text from).word ≡ bare_tree t
bare_name (constant w) = rw w.here
bare_name (name w) = rw w.stands.here
bare_name (list o p os c) = rw o.here

-- The whole

module _ (text : List ℕ) (ds : List Declared) {from a b c : ℕ} (opened : Stands text from Open a) (checked : Stands text a (Keyword CheckSat) b) (closed : Stands text b Close c) (ended : (token_at text c).word ≡ End)
    (left : ℕ) (v : Step) (fuel : length text < left + from) where
  -- a sole assert
  ends-alone : (vs : List Term) (t : Tree) (rule : ℕ) → Ready text ds from 1 rule (bare_tree t) ((vs ++ tree_terms ds (length vs) t) ++ []) v → rule ≡ root ds (length vs) t
      → Over (vs ++ alone ds (length vs) t) (commands_of left text v)
  unfolding tree_terms root
  ends-alone vs (literal n x) rule r e =
      let r' = subst (λ (q : List Term). Ready text ds from 1 rule false q v) (append-nil (vs ++ tree_terms ds (length vs) (literal n x))) r in
      ended_now opened checked closed ended left v r' fuel (ends_joined r' refl (token_at text c).next)
  ends-alone vs (symbol w) rule r e =
      let r' : Ready text ds from 1 (slot ds w) true vs v =
      subst (λ (i : ℕ). Ready text ds from 1 i true vs v) e (subst (λ (q : List Term). Ready text ds from 1 rule true q v) (append-nil (vs ++ []) ∙ append-nil vs) r) in
      ended_now opened checked closed ended left v r' fuel (ends_bare r' (token_at text c).next)
  ends-alone vs (apply op ts) rule r e =
      let r' = subst (λ (q : List Term). Ready text ds from 1 rule false q v) (append-nil (vs ++ tree_terms ds (length vs) (apply op ts))) r in
      ended_now opened checked closed ended left v r' fuel (ends_joined r' refl (token_at text c).next)

  ends-after : (vs : List Term) (t : Tree) (us : List Tree) (rule : ℕ)
      → Ready text ds from (count_then 1 us) rule (bare_then (bare_tree t) us) ((vs ++ tree_terms ds (length vs) t) ++ joins ds (length (vs ++ tree_terms ds (length vs) t)) (root ds (length vs) t) us) v
      → (count_then 1 us < 2 → rule ≡ root ds (length vs) t) → Over (vs ++ asserted_terms ds (length vs) (t ∷ us)) (commands_of left text v)
  unfolding joins
  ends-after vs t [] rule r e = ends-alone vs t rule r (e (omega arith))
  ends-after vs t (u ∷ us) rule r e =
      let ys = tree_terms ds (length vs) t in
      let n : length (vs ++ ys) ≡ length vs + size t = omega (arith, length-append vs ys, tree_length ds (length vs) t) in
      let later = joins ds (length vs + size t) (root ds (length vs) t) (u ∷ us) in
      let terms : (vs ++ ys) ++ joins ds (length (vs ++ ys)) (root ds (length vs) t) (u ∷ us) ≡ vs ++ (ys ++ later) =
      ap (λ (i : ℕ). (vs ++ ys) ++ joins ds i (root ds (length vs) t) (u ∷ us)) n ∙ append_assoc vs ys later in
      let r' = subst (λ (q : List Term). Ready text ds from 2 rule false q v) terms r in
      ended_now opened checked closed ended left v r' fuel (ends_joined r' refl (token_at text c).next)

all-asserted : {text : List ℕ} {ds : List Declared} {ts : List Tree} {declared_to from a b c : ℕ} → Declarations text 0 ds declared_to → Asserts text declared_to ts from → 0 < length ts
    → every_tree (knows (names_of ds)) ts ≡ true → every_tree (within 64) ts ≡ true → every_tree counted ts ≡ true
    → Stands text from Open a → Stands text a (Keyword CheckSat) b → Stands text b Close c → (token_at text c).word ≡ End
    → (left : ℕ) (v : Step) (vs : List Term) → Based ds vs → Ready text ds declared_to 0 0 false vs v → length text < left + declared_to → Over (vs ++ asserted_terms ds (length vs) ts) (commands_of left text v)
unfolding every_tree
all-asserted before unasserted some kn wi co opened checked closed ended left v vs based r fuel = absurd (omega arith)
all-asserted before (asserted o k x z rest) some kn wi co opened checked closed ended zero v vs based r fuel =
    absurd (omega (arith, open_onward o, onward k, expression_onward x, onward z, close_inside z))
all-asserted {text} {ds} {declared_to = start-at} {from = from} before (asserted {b = b} {d = mid} {t = t} {ts = us} o k x z rest) some kn wi co opened checked closed ended (suc left) v vs based r fuel =
    let ws = names_of ds in
    let xs = vs ++ tree_terms ds (length vs) t in
    let w = command_of text v.progress v.room in
    let moves : start-at < mid = omega (arith, open_onward o, onward k, expression_onward x, onward z) in
    let y = asserted-there text ds before r based o k x z (and_left (knows ws t) (every_tree (knows ws) us) kn) (and_left (within 64 t) (every_tree (within 64) us) wi) (and_left (counted t) (every_tree counted us) co) in
    let one : Ready text ds mid 1 (root ds (length vs) t) (bare_tree t) xs w =
    subst (λ (i : Bool). Ready text ds mid 1 (root ds (length vs) t) i xs w) (bare_name x) (first-asserted text ds before r.names_are r.asserts_are y) in
    let l = all_joined text ds before rest (and_right (knows ws t) (every_tree (knows ws) us) kn) (and_right (within 64 t) (every_tree (within 64) us) wi) (and_right (counted t) (every_tree counted us) co)
    left w xs 0 (root ds (length vs) t) (bare_tree t) (based_more ds vs (tree_terms ds (length vs) t) based) one (omega arith) in
    subst (Over (vs ++ asserted_terms ds (length vs) (t ∷ us))) (sym (goes left text v r.going_on r.clean ∙ l.same))
    (ends-after text ds opened checked closed ended l.left_then l.then_is l.fuel vs t us l.rule_then l.ready l.rule_same)

whole : (text : List ℕ) (r : Rule) → Storable text → Reads text r → meets r ≡ true → Over (rule_terms r) (rule_of text)
unfolding rule_of numbers_of
whole text r small d m =
    let ds = r.declarations in
    let ts = r.asserts in
    let a = distinct (names_of ds) in
    let b = every_tree (knows (names_of ds)) ts in
    let c = every_tree (within 64) ts in
    let e = every_tree counted ts in
    let f = ltb 0 (length ts) in
    let m₃ = and_left (a && b && c && e) f m in
    let m₂ = and_left (a && b && c) e m₃ in
    let m₁ = and_left (a && b) c m₂ in
    let vs = variables ds 0 ds in
    let begin : Step = record { progress = start; room = zeros } in
    let first : Ready text [] 0 0 0 false [] begin =
    record { clean = refl; place = refl; names_are = refl; going_on = refl; asserts_are = refl; bare_is = refl; rule_is = λ i. refl; many = refl; holds = λ i. record { counts = refl; filled = refl } } in
    let l = all-declared text small ds (and_left a b m₁) [] undeclared d.declarations refl (omega arith) (length text + 1) begin [] refl first (omega arith) in
    let ready : Ready text ds d.declared_to 0 0 false vs l.then_is = subst (λ (i : ℕ). Ready text ds d.declared_to 0 i false vs l.then_is) (l.rule_same (omega arith)) l.ready in
    let o = all-asserted d.declarations d.asserts (ltb-true _ _ (and_right (a && b && c && e) f m)) (and_right a b m₁) (and_right (a && b) c m₂) (and_right (a && b && c) e m₃)
    d.opened d.checked d.closed d.ended l.left_then l.then_is vs (based_variables ds) ready l.fuel in
    subst (λ (i : ℕ). Over (vs ++ asserted_terms ds i ts) (commands_of (length text + 1) text begin)) (variables-length ds 0 ds) (subst (Over (vs ++ asserted_terms ds (length vs) ts)) (sym l.same) o)

-- the front of a row that a list was written into
front : (l vs : List ℕ) (n : ℕ) → length vs ≡ n → n ≤ length l → take n (sets l 0 vs) ≡ vs
front l vs n e b = ap (take n) (sets-eq vs l 0 (omega arith)) ∙ take_at vs (drop (0 + length vs) l) n e

pub complete : Complete
complete text r small d m =
    let o = whole text r small d m in
    record {
      clean = o.clean;
      counted = λ i. (o.holds i).counts;
      over = λ i. o.many ∙ rw (le-ltb (length (rule_terms r)) 513 i);
      table = λ i.
          let xs = rule_terms r in
          let long = zeros_long in
          ap (λ (n : ℕ). take (n * 6) (rule_of text).room) (o.holds i).counts ∙ ap (take (length xs * 6)) (o.holds i).filled
          ∙ front zeros (numbers_of xs) (length xs * 6) (numbers-length xs) (omega arith);
    }
