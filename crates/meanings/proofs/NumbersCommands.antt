-- Reading a text word by word is refused by 31 to 35 alone; and without a fault it leaves a table of at least one term whose terms pass 3, 4
-- and 5.
-- Assumes nothing.
use Rattle.parser.specs.declared.states.Fault.TheVariants as fault_kind
use mathlib.Core.Path.{◌≡◌, refl, sym, ◌∙◌, subst}
use mathlib.Core.Bool.{Bool, true, cond, ◌&&◌, ◌||◌}
use mathlib.Core.List.{List}
use Prim.Native.Nat.{ℕ, zero, suc, ◌+◌, ◌≤◌, ◌<◌}
use native.Mathlib.Numerals.{add-one}
use native.Mathlib.Omega.{arith}
use lib.Dec.{eqb}
use lib.ListN.{length, replicate, length-replicate}
use borrow.Author.Tests.{eq-eqb, ne_eqb, eqb-true, eqb-false, lt-ltb, le-leb}
use Rattle.ops.proofs.Booleans.{and_parts, or_open}
use Rattle.smtlib.specs.Bytes.{part}
use Rattle.table.specs.declared.words.Sort.{Sort}
use Rattle.table.specs.Terms.{boolean}
use Rattle.table.specs.Faults.{width, sorted}
use Rattle.table.specs.Code.Writing.{placed}
use Rattle.parser.specs.declared.words.Token.{Token}
use Rattle.parser.specs.declared.states.State.{State}
use Rattle.parser.specs.declared.states.Sorted.{Sorted}
use Rattle.parser.specs.declared.states.Progress.{Progress}
use Rattle.parser.specs.Words.{marked, token_at}
use Rattle.parser.specs.Names.{declared}
use Rattle.parser.specs.Expressions.{fault_in, Work, faulty_at, added, number, expression_of}
use Rattle.parser.specs.Rules.{Step, code_of, moved_to, expected, width_in, width_of, vector_of, array_of, sort_of, is_name, new_name, variable_term, one_more}
use Rattle.parser.specs.Rules.{with_state, declaration_of, joined_rule, assert_of, ended_rule, check_of, command_by, command_of, halted, commands_of, start}
use Rattle.parser.specs.Rules.{rule_of}
use Rattle.parser.proofs.Choices.{by_test}
use Rattle.parser.specs.Grammar.{Vector, Sorting}
use Rattle.parser.specs.Grammar.Vector.{vector as vectored}
use Rattle.parser.specs.Grammar.Sorting.{bool, vector, array}
use Rattle.parser.proofs.Tokens.{no_zero}
use Rattle.parser.proofs.Wanted.{went, sort_read}
use Rattle.meanings.proofs.NumbersWords.{Bounded, bounded}
use Rattle.meanings.proofs.NumbersTables.{Table, more_is, more_some, one_more_lem}
use Rattle.meanings.proofs.NumbersTerms.{scalar-sorted, variable_clean, and_clean}
use Rattle.meanings.proofs.NumbersExpressions.{Faulty, not_clean, Outcome, expression_read}
use Rattle.meanings.proofs.NumbersExpressions.Outcome.{stopped as outcome-stopped, fine as outcome-fine}

-- Words that are asked for: a fault, or nothing is added

still_faulty : (text : List ℕ) (s : State) (code : ℕ) → Faulty s → Faulty (expected text s code)
unfolding expected
still_faulty text s code b = rw (ne_eqb (fault_in s) 0 (not_clean s b)) b

pub data Passed (a v : State) : Type 0 where
  stopped : Faulty v → Passed a v
  fine : fault_in v ≡ 0 → v.count ≡ a.count → v.root ≡ a.root → Passed a v

module _ (text : List ℕ) {a : State} where
  then_expected : {s : State} (code : ℕ) → Passed a s → Passed a (expected text s code)
  unfolding expected
  then_expected {s} code (stopped b) = stopped (still_faulty text s code b)
  then_expected {s} code (fine f c r) =
      rw (eq-eqb (fault_in s) 0 f) (by_test (Passed a) (eqb (code_of (token_at text s.at).word) code) (λ e. fine f c r) (λ e. stopped refl))

  then_new : {s : State} (names : ℕ) → Passed a s → Passed a (new_name text names s)
  unfolding new_name
  then_new {s} names (stopped b) = rw (ne_eqb (fault_in s) 0 (not_clean s b)) (stopped b)
  then_new {s} names (fine f c r) =
      let t = token_at text s.at in
      rw (eq-eqb (fault_in s) 0 f)
      (by_test (Passed a) (is_name t.word)
      (λ e. by_test (Passed a) (declared text names (part text t.from t.next)) (λ g. stopped refl) (λ g. fine f c r)) (λ e. stopped refl))

  then_width : {s : State} → Passed a s → Passed a (width_of text s).state
  unfolding width_of
  then_width {s} (stopped b) = rw (ne_eqb (fault_in s) 0 (not_clean s b)) (stopped b)
  then_width {s} (fine f c r) =
      rw (eq-eqb (fault_in s) 0 f)
      (by_test (λ (v : Sorted). Passed a v.state) (eqb (width_in (token_at text s.at).word) 0) (λ e. stopped refl) (λ e. fine f c r))

  then_vector : {s : State} → Passed a s → Passed a (vector_of text s).state
  unfolding vector_of
  then_vector p = then_expected 2 (then_width (then_expected 8 (then_expected 6 (then_expected 1 p))))

  then_array : {s : State} → Passed a s → Passed a (array_of text s).state
  unfolding array_of
  then_array p = then_expected 2 (then_vector (then_vector (then_expected 9 (then_expected 1 p))))

  then_sort : {s : State} → Passed a s → Passed a (sort_of text s).state
  unfolding sort_of
  then_sort {s} p =
      let t = token_at text s.at in
      let P : Sorted → Type 0 = λ v. Passed a v.state in
      by_test P (eqb (code_of t.word) 1) (λ e. by_test P (eqb (code_of (token_at text t.next).word) 9) (λ f. then_array p) (λ f. then_vector p))
      (λ e. then_expected 7 p)

-- The sorts that are spelt are the three

vector_wide : {text : List ℕ} {from n to : ℕ} → Vector text from n to → (1 ≤ n) × (n ≤ 32)
vector_wide {text} {n = n} (vectored {c = c} o k v w z) = (no_zero w, subst Bounded w.here (bounded text c))

is-width : (n : ℕ) → (1 ≤ n) × (n ≤ 32) → width n ≡ true
is-width n h = rw (lt-ltb 0 n h.0, le-leb n 32 h.1)

spelt-sorted : {text : List ℕ} {from to : ℕ} {q : Sort} → Sorting text from q to → sorted q ≡ true
spelt-sorted (bool w) = refl
spelt-sorted (vector {n = n} v) = scalar-sorted n (vector_wide v).1
spelt-sorted (array {m = m} {n = n} o a v w z) = rw (is-width m (vector_wide v), is-width n (vector_wide w))
    (or_open (boolean (record { m = m; n = n }) || (eqb m 0 && true)))

-- What a step leaves: a fault, or a table of at least some terms

pub record Fine (least : ℕ) (v : Step) : Type 0 where
  pub clean : fault_in v.progress.state ≡ 0
  pub table : Table v.progress.names v.progress.state.count v.room
  pub declaring : v.progress.asserts ≡ 0 → v.progress.state.count ≤ 512 → v.progress.names ≡ v.progress.state.count
  pub ruled : (v.progress.asserts ≡ 0 → ⊥) → v.progress.state.count ≤ 512 → v.progress.rule < v.progress.state.count
  pub some : least ≤ v.progress.state.count

pub data Good (least : ℕ) (v : Step) : Type 0 where
  refused : Faulty v.progress.state → Good least v
  good : Fine least v → Good least v

-- a table with a term of its own has one
some_there : (c k : ℕ) → (c ≤ 512 → k < c) → 1 ≤ c
some_there zero k h = absurd (omega (arith, h (omega arith)))
some_there (suc c) k h = omega arith

module _ (text : List ℕ) (p : Progress) (room : List ℕ) {least : ℕ} (g : Fine least (record { progress = p; room = room })) where
  abbrev count : ℕ
  count = p.state.count

  -- Declarations
  declared_good : p.asserts ≡ 0 → (s : State) → Passed p.state s → Good 1 (declaration_of text p s room)
  unfolding declaration_of
  declared_good none s passed =
      let t = token_at text s.at in
      let n = new_name text p.names s in
      let e = expected text (sort_of text n).state 2 in
      go (marked (part text t.from t.next)) (sort_of text n) e
      (λ i. spelt-sorted (sort_read text n (went text (sort_of text n).state 1 i).clean).reads)
      (then_expected text 2 (then_sort text (then_new text p.names passed)))
    where
      go : (mark : Bool) (q : Sorted) (e : State) → (fault_in e ≡ 0 → sorted (record { m = q.sort.m; n = q.sort.n }) ≡ true) → Passed p.state e
          → Good 1 (cond (eqb (fault_in e) 0)
          (record {
            progress = record {
              state = added e e.at;
              names = one_more p.names;
              asserts = p.asserts;
              rule = p.rule;
              bare = p.bare;
              ended = p.ended;
            };
            room = placed room e.count (variable_term q.sort.m q.sort.n (number p.names) mark);
          })
          (record { progress = with_state p e; room = room }))
      go mark q e sorts (stopped b) = rw (ne_eqb (fault_in e) 0 (not_clean e b)) (refused b)
      go mark q e sorts (fine f c r) =
          let slot : count < 512 → number p.names ≡ count =
          λ i. let same = g.declaring none (omega arith) in rw (lt-ltb p.names 513 (omega arith)) same in
          let next : count < 512 → one_more p.names ≡ count + 1 =
          λ i. let same = g.declaring none (omega arith) in rw (lt-ltb p.names 4611686018427387904 (omega arith)) (omega arith) in
          let t = one_more_lem {x = variable_term q.sort.m q.sort.n (number p.names) mark} g.table
          (λ i. variable_clean count q.sort.m q.sort.n (number p.names) mark (sorts f) (slot i)) in
          rw (eq-eqb (fault_in e) 0 f, c)
          (good (record {
            clean = refl;
            table = record { long = t.long; enough = λ i. let (less, is) = more_is count i in omega (arith, next less); clean = t.clean };
            declaring = λ z i. let (less, is) = more_is count i in next less ∙ sym is;
            ruled = λ z. absurd (z none);
            some = more_some count;
          }))

  -- Asserts
  joined_good : (bare : Bool) (v : Work) → Outcome p.names count v → Good 1 (joined_rule p bare v)
  unfolding joined_rule
  joined_good bare v (outcome-stopped b) = rw (ne_eqb (fault_in v.state) 0 (not_clean v.state b)) (refused b)
  joined_good bare v (outcome-fine f t r up) =
      let k = v.state.count in
      rw (eq-eqb (fault_in v.state) 0 f)
      (by_test (Good 1) (eqb p.asserts 0)
      (λ e. good (record { clean = f; table = t; declaring = λ z. absurd (omega arith); ruled = λ z. r; some = some_there k v.state.root r }))
      (λ e. good (record {
        clean = refl;
        table = one_more_lem t (λ i. and_clean k p.rule v.state.root (omega (arith, g.ruled (eqb-false p.asserts 0 e) (omega arith)))
            (r (omega arith)));
        declaring = λ z. absurd (omega arith);
        ruled = λ z i. let (less, is) = more_is k i in omega arith;
        some = more_some k;
      })))

  assert_good : (s : State) → fault_in s ≡ 0 → s.count ≡ count → Good 1 (assert_of text p s room)
  unfolding assert_of
  assert_good s f c =
      let v = expression_of 64 text p.names s room in
      joined_good (is_name (token_at text s.at).word) (record { state = expected text v.state 2; room = v.room })
      (go v (subst (λ (k : ℕ). Outcome p.names k v) c
      (expression_read text p.names 64 s room f (subst (λ (k : ℕ). Table p.names k room) (sym c) g.table))))
    where
      went_on : (v : Work) (e : State) → Table p.names v.state.count v.room → (v.state.count ≤ 512 → v.state.root < v.state.count)
          → count ≤ v.state.count → Passed v.state e → Outcome p.names count (record { state = e; room = v.room })
      went_on v e t r up (stopped b) = outcome-stopped b
      went_on v e t r up (fine z same root) = outcome-fine z (subst (λ (k : ℕ). Table p.names k v.room) (sym same) t)
          (λ i. omega (arith, r (omega arith))) (omega arith)

      go : (v : Work) → Outcome p.names count v → Outcome p.names count (record { state = expected text v.state 2; room = v.room })
      go v (outcome-stopped b) = outcome-stopped (still_faulty text v.state 2 b)
      go v (outcome-fine z t r up) = went_on v (expected text v.state 2) t r up (then_expected text 2 (fine z refl refl))

  -- The end
  ended_good : (s : State) → (fault_in s ≡ 0 → p.asserts ≡ 0 → ⊥) → Passed p.state s → Good 1 (ended_rule p s room)
  unfolding ended_rule
  ended_good s some (stopped b) = rw (ne_eqb (fault_in s) 0 (not_clean s b)) (refused b)
  ended_good s some (fine f c r) =
      let below = g.ruled (some f) in
      rw (eq-eqb (fault_in s) 0 f, c)
      (by_test (Good 1) (eqb p.asserts 1 && p.bare)
      (λ e. good (record {
        clean = refl;
        table = one_more_lem g.table (λ i. and_clean count p.rule p.rule (below (omega arith)) (below (omega arith)));
        declaring = λ z. absurd (some f z);
        ruled = λ z i. let (less, is) = more_is count i in omega arith;
        some = more_some count;
      }))
      (λ e. good (record {
        clean = f;
        table = g.table;
        declaring = λ z. absurd (some f z);
        ruled = λ z i. below i;
        some = omega (arith, some_there count p.rule below);
      })))

  check_good : (t : Token) → Good 1 (check_of text p t room)
  unfolding check_of
  check_good t =
      let s = cond (eqb p.asserts 0) (faulty_at p.state fault_kind.Unasserted t.from) (moved_to p.state t.next) in
      let passed : Passed p.state s = by_test (Passed p.state) (eqb p.asserts 0) (λ e. stopped refl) (λ e. fine g.clean refl refl) in
      let some : fault_in s ≡ 0 → p.asserts ≡ 0 → ⊥ = λ f z. let e : ◌≡◌ {A = ℕ} 35 0 = rw (eq-eqb p.asserts 0 z) at f in omega arith in
      ended_good (expected text (expected text s 2) 10) (λ f. some (went text s 1 (went text (expected text s 2) 9 f).clean).clean)
      (then_expected text 10 (then_expected text 2 passed))

  -- Commands
  command_by_lem : (t : Token) → Good 1 (command_by text p t room)
  unfolding command_by
  command_by_lem t =
      let code = code_of t.word in
      by_test (Good 1) (eqb code 3 && eqb p.asserts 0)
      (λ e. declared_good (eqb-true p.asserts 0 (and_parts (eqb code 3) (eqb p.asserts 0) e).1) (moved_to p.state t.next)
      (fine g.clean refl refl))
      (λ e. by_test (Good 1) (eqb code 4) (λ f. assert_good (moved_to p.state t.next) g.clean refl)
      (λ f. by_test (Good 1) (eqb code 5) (λ h. check_good t) (λ h. refused refl)))

  command_good : Good 1 (command_of text p room)
  unfolding command_of
  command_good =
      let t = token_at text p.state.at in
      by_test (Good 1) (eqb (code_of t.word) 1) (λ e. command_by_lem (token_at text t.next)) (λ e. refused refl)

commands_good : (text : List ℕ) (left : ℕ) (v : Step) → Good 1 v → Good 1 (commands_of left text v)
unfolding commands_of
commands_good text zero v g = g
commands_good text (suc left) v
    (refused b) = rw (ne_eqb (fault_in v.progress.state) 0 (not_clean v.progress.state b), or_open v.progress.ended) (refused b)
commands_good text (suc left) v (good g) =
    by_test (Good 1) (halted v.progress) (λ e. good g)
    (λ e. commands_good text left (command_of text v.progress v.room) (command_good text v.progress v.room g))

-- there is one command at least
pub rule_good : (text : List ℕ) → Good 1 (rule_of text)
unfolding rule_of commands_of
rule_good text =
    let begin : Step = record { progress = start; room = replicate 3072 0 } in
    let first : Fine 0 begin =
    record {
      clean = refl;
      table = record { long = length-replicate {A = ℕ} 3072 0; enough = λ i. omega arith; clean = λ i k less. absurd (omega arith) };
      declaring = λ z i. refl;
      ruled = λ z. absurd (z refl);
      some = omega arith;
    } in
    rw (add-one (length text))
    (commands_good text (length text) (command_of text start (replicate 3072 0)) (command_good text start (replicate 3072 0) first))
