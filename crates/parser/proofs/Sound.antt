-- A text that is read without a fault is one of the language.
-- Assumes nothing.
use Rattle.parser.specs.declared.states.Fault.TheVariants as fault_kind
use mathlib.Core.Path.{◌≡◌, refl, sym, ap, ◌∙◌, subst}
use mathlib.Core.Bool.{Bool, true, false, cond, not, ◌&&◌, ◌||◌}
use mathlib.Core.List.{List, [], ◌∷◌, ◌++◌}
use Prim.Native.Nat.{ℕ, zero, suc, ◌+◌, ◌<◌, ◌≤◌}
use native.Mathlib.Omega.{arith}
use lib.Dec.{eqb}
use lib.ListN.{length, length-append, replicate}
use borrow.Author.Tests.{eq-eqb, eqb-true, eqb-false, lt-ltb}
use Rattle.smtlib.specs.Bytes.{is_in}
use Rattle.smtlib.proofs.Cuts.{and_left, and_right}
use Rattle.table.specs.declared.words.Sort.{Sort}
use Rattle.table.specs.Code.Writing.{placed}
use Rattle.parser.specs.declared.words.Word.TheVariants.{Open, Close, Keyword, End}
use Rattle.parser.specs.declared.words.Keyword.TheVariants.{DeclareConst, Assert, CheckSat}
use Rattle.parser.specs.declared.words.Token.{Token}
use Rattle.parser.specs.declared.states.State.{State}
use Rattle.parser.specs.declared.states.Sorted.{Sorted}
use Rattle.parser.specs.declared.states.Progress.{Progress}
use Rattle.parser.specs.Words.{marked, token_at}
use Rattle.parser.specs.Names.{index_from}
use Rattle.parser.specs.Expressions.{fault_in, Work, faulty_at, added, number, expression_of}
use Rattle.parser.specs.Rules.{Step, code_of, moved_to, expected, sort_of, new_name, one_more, with_state, variable_term, declaration_of, and_term, joined_rule, assert_of, ended_rule, check_of, command_by, command_of, halted, commands_of, start, rule_of, is_name}
use Rattle.parser.specs.Grammar.{Tree, Declared, Stands, Declarations, Asserts}
use Rattle.parser.specs.Grammar.Declarations.{none as undeclared, more as declared}
use Rattle.parser.specs.Grammar.Asserts.{none as unasserted, more as asserted}
use Rattle.parser.specs.Trees.{names_of, distinct, every_tree, knows, within, counted}
use Rattle.parser.specs.Laws.{Accepted, Storable, Sound}
use Rattle.parser.proofs.Scanned.{index_is}
use Rattle.parser.proofs.Accepts.{both, Known, declared_is, Reading, derives}
use Rattle.parser.proofs.Wanted.{coded, went, bytes_at, new_name_lem, sort_read}
use Rattle.parser.proofs.NameLists.{distinct_end, names-append, names-length, every_end}
use Rattle.parser.proofs.Onward.{onward, open_onward, close_inside, sort_onward, expression_onward, then_declared, then_asserted, no_asserts}

-- what was read so far
pub record Reached (text : List ℕ) (p : Progress) : Type 0 where
  pub ds : List Declared
  pub ts : List Tree
  pub declared_to : ℕ
  pub declarations : Declarations text 0 ds declared_to
  pub asserts_read : Asserts text declared_to ts p.state.at
  pub names_are : p.names ≡ length ds
  pub none_yet : p.asserts ≡ 0 → length ts ≡ 0
  pub some_yet : (p.asserts ≡ 0 → ⊥) → 0 < length ts
  pub apart : distinct (names_of ds) ≡ true
  pub known : every_tree (knows (names_of ds)) ts ≡ true
  pub deep : every_tree (within 64) ts ≡ true
  pub full : every_tree counted ts ≡ true
  pub inside : p.state.at ≤ length text
  pub few : length ds ≤ declared_to

-- a command more, and the place is further on; or the end
record Going (text : List ℕ) (p v : Progress) : Type 0 where
  reached : Reached text v
  further : p.state.at < v.state.at
  going_on : v.ended ≡ false

data Stage (text : List ℕ) (p v : Progress) : Type 0 where
  going : Going text p v → Stage text p v
  over : Accepted text → Stage text p v

-- what a step without a fault leads to
abbrev Leads : List ℕ → Progress → Step → Type 0
Leads text p v = fault_in v.progress.state ≡ 0 → Stage text p v.progress

by_test : (P : Step → Type 0) (b : Bool) (x y : Step) → (b ≡ true → P x) → (b ≡ false → P y) → P (cond b x y)
by_test P true x y f g = f refl
by_test P false x y f g = g refl

pub names-known : {text : List ℕ} {names to : ℕ} {ds : List Declared} → Declarations text 0 ds to → names ≡ length ds → Known text names (names_of ds)
names-known {text} {names} {to} {ds} d e = record { index = λ w. ap (λ (n : ℕ). index_from n text 0 w) e ∙ index_is d w; many = e ∙ names-length ds }

-- Declarations

module _ (text : List ℕ) (small : Storable text) (p : Progress) (on : p.ended ≡ false) (r : Reached text p) where
  declares_by : (s : State) {a : ℕ} → Stands text p.state.at Open a → Stands text a (Keyword DeclareConst) s.at → p.asserts ≡ 0
      → (e : State) → e ≡ expected text (sort_of text (new_name text p.names s)).state 2 → fault_in e ≡ 0
      → (v : Progress) → v.state.at ≡ e.at → v.names ≡ one_more p.names → v.asserts ≡ 0 → v.ended ≡ false → Going text p v
  unfolding every_tree
  declares_by s o k none e is f v at names still ended =
      let n = new_name text p.names s in
      let q = sort_of text n in
      let sort : Sort = record { m = q.sort.m; n = q.sort.n } in
      let w = bytes_at text s.at in
      let x = went text q.state 1 (ap (λ (y : State). (fault_in y)) (sym is) ∙ f) in
      let y = sort_read text n x.clean in
      let m = new_name_lem text p.names s y.clean in
      let shut : Stands text q.state.at Close v.state.at = rw (at, is) x.stands in
      let here = no_asserts r.asserts_read (r.none_yet none) in
      let before : Declarations text 0 r.ds p.state.at = subst (Declarations text 0 r.ds) here r.declarations in
      let one : Declarations text 0 (r.ds ++ (record { name = w; sort = sort } ∷ [])) v.state.at = then_declared before (declared o k m.named y.reads shut undeclared) in
      let ends : v.state.at ≤ length text = close_inside shut in
      let moves : p.state.at < v.state.at = omega (arith, open_onward o, onward k, onward m.named.stands, sort_onward y.reads, onward shut) in
      let fewer : p.names < 4611686018427387904 = omega (arith, r.few, here, r.names_are) in
      let long : length (r.ds ++ (record { name = w; sort = sort } ∷ [])) ≡ length r.ds + 1 = length-append r.ds (record { name = w; sort = sort } ∷ []) in
      let fresh : is_in (names_of r.ds) w ≡ false = sym (declared_is (names-known r.declarations r.names_are) w) ∙ m.new in
      record {
        reached = record {
          ds = r.ds ++ (record { name = w; sort = sort } ∷ []);
          ts = [];
          declared_to = v.state.at;
          declarations = one;
          asserts_read = unasserted;
          names_are = names ∙ rw (lt-ltb _ _ fewer) (omega (arith, r.names_are, long));
          none_yet = λ i. refl;
          some_yet = λ i. absurd (i still);
          apart = ap distinct (names-append r.ds (record { name = w; sort = sort } ∷ [])) ∙ distinct_end (names_of r.ds) w r.apart fresh;
          known = refl;
          deep = refl;
          full = refl;
          inside = ends;
          few = omega (arith, r.few, here, long);
        };
        further = moves;
        going_on = ended;
      }

  declares : (s : State) {a : ℕ} → Stands text p.state.at Open a → Stands text a (Keyword DeclareConst) s.at → p.asserts ≡ 0 → (room : List ℕ) → Leads text p (declaration_of text p s room)
  unfolding declaration_of
  declares s o k none room =
      by_test (Leads text p) (eqb (fault_in e) 0) read (record { progress = with_state p e; room = room })
      (λ f c. going (declares_by s o k none e refl (eqb-true _ _ f) read.progress refl refl none on))
      (λ f c. absurd (eqb-false _ _ f c))
    where
      q : Sorted
      q = sort_of text (new_name text p.names s)

      e : State
      e = expected text q.state 2

      read : Step
      read =
          record {
            progress = record { state = added e e.at; names = one_more p.names; asserts = p.asserts; rule = p.rule; bare = p.bare; ended = p.ended };
            room = placed room e.count (variable_term q.sort.m q.sort.n (number p.names) (marked (bytes_at text s.at)));
          }

  -- Asserts

  asserts_by : (s : State) {a : ℕ} → Stands text p.state.at Open a → Stands text a (Keyword Assert) s.at → (room : List ℕ)
      → (u : State) → u ≡ expected text (expression_of 64 text p.names s room).state 2 → fault_in u ≡ 0
      → (v : Progress) → v.state.at ≡ u.at → v.names ≡ p.names → (v.asserts ≡ 0 → ⊥) → v.ended ≡ false → Going text p v
  unfolding Reading
  asserts_by s o k room u is f v at names some ended =
      let x = went text (expression_of 64 text p.names s room).state 1 (ap (λ (y : State). (fault_in y)) (sym is) ∙ f) in
      let d = derives text p.names (names_of r.ds) (names-known r.declarations r.names_are) 64 s room x.clean in
      let shut : Stands text (expression_of 64 text p.names s room).state.at Close v.state.at = rw (at, is) x.stands in
      let moves : p.state.at < v.state.at = omega (arith, open_onward o, onward k, expression_onward d.reads, onward shut) in
      record {
        reached = record {
          ds = r.ds;
          ts = r.ts ++ (d.tree ∷ []);
          declared_to = r.declared_to;
          declarations = r.declarations;
          asserts_read = then_asserted r.asserts_read (asserted o k d.reads shut unasserted);
          names_are = names ∙ r.names_are;
          none_yet = λ i. absurd (some i);
          some_yet = λ i. omega (arith, length-append r.ts (d.tree ∷ []));
          apart = r.apart;
          known = every_end (knows (names_of r.ds)) r.ts d.tree r.known d.known;
          deep = every_end (within 64) r.ts d.tree r.deep d.deep;
          full = every_end counted r.ts d.tree r.full d.full;
          inside = close_inside shut;
          few = r.few;
        };
        further = moves;
        going_on = ended;
      }

  asserts : (s : State) {a : ℕ} → Stands text p.state.at Open a → Stands text a (Keyword Assert) s.at → (room : List ℕ) → Leads text p (assert_of text p s room)
  unfolding assert_of joined_rule
  asserts s o k room =
      by_test (Leads text p) (eqb (fault_in u) 0) (cond (eqb p.asserts 0) first next) (record { progress = with_state p u; room = g.room })
      (λ f. by_test (Leads text p) (eqb p.asserts 0) first next
      (λ n c. going (asserts_by s o k room u refl (eqb-true _ _ f) first.progress refl refl (λ i. omega arith) refl))
      (λ n c. going (asserts_by s o k room u refl (eqb-true _ _ f) next.progress refl refl (λ i. omega arith) refl)))
      (λ f c. absurd (eqb-false _ _ f c))
    where
      g : Work
      g = expression_of 64 text p.names s room

      u : State
      u = expected text g.state 2

      first : Step
      first = record { progress = record { state = u; names = p.names; asserts = 1; rule = u.root; bare = is_name (token_at text s.at).word; ended = false }; room = g.room }

      next : Step
      next =
          record {
            progress = record { state = added u u.at; names = p.names; asserts = 2; rule = u.count; bare = false; ended = false };
            room = placed g.room u.count (and_term p.rule u.root);
          }

  -- The end

  checks_by : {a : ℕ} → Stands text p.state.at Open a → Stands text a (Keyword CheckSat) (token_at text a).next → (b : Bool) → eqb p.asserts 0 ≡ b
      → (s : State) → s ≡ cond b (faulty_at p.state fault_kind.Unasserted (token_at text a).from) (moved_to p.state (token_at text a).next)
      → (fault_in (expected text (expected text s 2) 10)) ≡ 0 → Accepted text
  checks_by {a} o k b e s is f =
      let z = went text (expected text s 2) 9 f in
      let y = went text s 1 z.clean in
      go b e is y.clean y.stands z.stands.here
    where
      go : (b : Bool) → eqb p.asserts 0 ≡ b → s ≡ cond b (faulty_at p.state fault_kind.Unasserted (token_at text a).from) (moved_to p.state (token_at text a).next) → fault_in s ≡ 0
          → {to : ℕ} → Stands text s.at Close to → (token_at text to).word ≡ End → Accepted text
      go true e is c y z = absurd (let n : 35 ≡ 0 = ap (λ (x : State). (fault_in x)) (sym is) ∙ c in omega arith)
      go false e is c {to} y z =
          record {
            rule = record { declarations = r.ds; asserts = r.ts };
            reads = record {
              declared_to = r.declared_to;
              asserted_to = p.state.at;
              opened_to = a;
              checked_to = (token_at text a).next;
              closed_to = to;
              declarations = r.declarations;
              asserts = r.asserts_read;
              opened = o;
              checked = k;
              closed = subst (λ (i : ℕ). Stands text i Close to) (ap (λ (x : State). x.at) is) y;
              ended = z;
            };
            met = both (both (both (both r.apart r.known) r.deep) r.full) (lt-ltb _ _ (r.some_yet (eqb-false _ _ e)));
          }

  checks : {a : ℕ} → Stands text p.state.at Open a → Stands text a (Keyword CheckSat) (token_at text a).next → (room : List ℕ) → Leads text p (check_of text p (token_at text a) room)
  unfolding check_of ended_rule
  checks {a} o k room =
      by_test (Leads text p) (eqb (fault_in u) 0) (cond (eqb p.asserts 1 && p.bare) joined plain) (record { progress = with_state p u; room = room })
      (λ f. let all = checks_by o k (eqb p.asserts 0) refl s refl (eqb-true _ _ f) in
      by_test (Leads text p) (eqb p.asserts 1 && p.bare) joined plain (λ n c. over all) (λ n c. over all))
      (λ f c. absurd (eqb-false _ _ f c))
    where
      s : State
      s = cond (eqb p.asserts 0) (faulty_at p.state fault_kind.Unasserted (token_at text a).from) (moved_to p.state (token_at text a).next)

      u : State
      u = expected text (expected text s 2) 10

      joined : Step
      joined =
          record {
            progress = record { state = added u u.at; names = p.names; asserts = p.asserts; rule = u.count; bare = p.bare; ended = true };
            room = placed room u.count (and_term p.rule p.rule);
          }

      plain : Step
      plain = record { progress = record { state = u; names = p.names; asserts = p.asserts; rule = p.rule; bare = p.bare; ended = true }; room = room }

  -- Commands

  command_by_lem : {a : ℕ} → Stands text p.state.at Open a → (room : List ℕ) → Leads text p (command_by text p (token_at text a) room)
  unfolding command_by
  command_by_lem {a} o room =
      by_test (Leads text p) (eqb code 3 && eqb p.asserts 0) (declaration_of text p s room) (cond (eqb code 4) (assert_of text p s room) (cond (eqb code 5) (check_of text p t room) otherwise))
      (λ e. declares s o (record { here = coded text a 2 (eqb-true _ _ (and_left (eqb code 3) (eqb p.asserts 0) e)); after = refl }) (eqb-true _ _ (and_right (eqb code 3) (eqb p.asserts 0) e)) room)
      (λ e. by_test (Leads text p) (eqb code 4) (assert_of text p s room) (cond (eqb code 5) (check_of text p t room) otherwise)
      (λ f. asserts s o (record { here = coded text a 3 (eqb-true _ _ f); after = refl }) room)
      (λ f. by_test (Leads text p) (eqb code 5) (check_of text p t room) otherwise (λ g. checks o (record { here = coded text a 4 (eqb-true _ _ g); after = refl }) room) (λ g c. absurd (omega arith))))
    where
      t : Token
      t = token_at text a

      s : State
      s = moved_to p.state t.next

      code : ℕ
      code = code_of t.word

      otherwise : Step
      otherwise = record { progress = with_state p (faulty_at p.state fault_kind.Unexpected t.from); room = room }

  command : (room : List ℕ) → Leads text p (command_of text p room)
  unfolding command_of
  command room =
      by_test (Leads text p) (eqb (code_of t.word) 1) (command_by text p (token_at text t.next) room) (record { progress = with_state p (faulty_at p.state fault_kind.Unexpected t.from); room = room })
      (λ e. command_by_lem (record { here = coded text p.state.at 0 (eqb-true _ _ e); after = refl }) room)
      (λ e c. absurd (omega arith))
    where
      t : Token
      t = token_at text p.state.at

-- Command after command

pub stays : (left : ℕ) (text : List ℕ) (v : Step) → halted v.progress ≡ true → commands_of left text v ≡ v
unfolding commands_of
stays zero text v h = refl
stays (suc left) text v h = rw h

pub goes : (left : ℕ) (text : List ℕ) (v : Step) → v.progress.ended ≡ false → fault_in v.progress.state ≡ 0 → commands_of (suc left) text v ≡ commands_of left text (command_of text v.progress v.room)
unfolding commands_of
goes left text v e f = rw (e, eq-eqb _ _ f)

module _ (text : List ℕ) (small : Storable text) where
  accepts : (left : ℕ) (v : Step) → Reached text v.progress → v.progress.ended ≡ false → fault_in v.progress.state ≡ 0 → length text < left + v.progress.state.at
      → (fault_in (commands_of left text v).progress.state) ≡ 0 → Accepted text
  accepts zero v r on f fuel c = absurd (omega (arith, r.inside))
  accepts (suc left) v r on f fuel c = go (eqb (fault_in w.progress.state) 0) refl (ap (λ (x : Step). (fault_in x.progress.state)) (sym (goes left text v on f)) ∙ c) (accepts left w)
    where
      w : Step
      w = command_of text v.progress v.room

      stage : Stage text v.progress w.progress → fault_in w.progress.state ≡ 0
          → (Reached text w.progress → w.progress.ended ≡ false → fault_in w.progress.state ≡ 0 → length text < left + w.progress.state.at → (fault_in (commands_of left text w).progress.state) ≡ 0 → Accepted text)
          → (fault_in (commands_of left text w).progress.state) ≡ 0 → Accepted text
      stage (going g) e next h = next g.reached g.going_on e (omega (arith, g.further)) h
      stage (over a) e next h = a

      go : (b : Bool) → eqb (fault_in w.progress.state) 0 ≡ b → (fault_in (commands_of left text w).progress.state) ≡ 0
          → (Reached text w.progress → w.progress.ended ≡ false → fault_in w.progress.state ≡ 0 → length text < left + w.progress.state.at → (fault_in (commands_of left text w).progress.state) ≡ 0 → Accepted text)
          → Accepted text
      go true e h next = stage (command text small v.progress on r v.room (eqb-true _ _ e)) (eqb-true _ _ e) next h
      go false e h next = absurd (eqb-false _ _ e (ap (λ (x : Step). (fault_in x.progress.state)) (sym (stays left text w (faulty w.progress.ended e))) ∙ h))
        where
          faulty : (b : Bool) → eqb (fault_in w.progress.state) 0 ≡ false → b || not (eqb (fault_in w.progress.state) 0) ≡ true
          faulty true i = refl
          faulty false i = rw i

begun : (text : List ℕ) → Reached text start
unfolding distinct every_tree
begun text =
    record {
      ds = [];
      ts = [];
      declared_to = 0;
      declarations = undeclared;
      asserts_read = unasserted;
      names_are = refl;
      none_yet = λ i. refl;
      some_yet = λ i. absurd (i refl);
      apart = refl;
      known = refl;
      deep = refl;
      full = refl;
      inside = omega arith;
      few = omega arith;
    }

pub sound : Sound
unfolding rule_of
sound text small f = accepts text small (length text + 1) (record { progress = start; room = replicate 3072 0 }) (begun text) refl refl (omega arith) f
