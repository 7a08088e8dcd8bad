-- The parser's steps follow the words: commands, one after the other.
-- Assumes nothing.
use Rattle.parser.specs.declared.states.Fault.TheVariants as fault_kind
use mathlib.Core.Path.{◌≡◌, refl, sym, ap, ◌∙◌, subst}
use mathlib.Core.Bool.{Bool, true, false, cond, not, ◌&&◌, ◌||◌}
use mathlib.Core.List.{List, [], ◌∷◌, ◌++◌}
use Prim.Native.Nat.{ℕ, zero, suc, ◌+◌, ◌<◌, ◌≤◌}
use native.Mathlib.Numerals.{add-one}
use native.Mathlib.Omega.{arith}
use lib.Dec.{eqb}
use lib.ListN.{length, length-append, replicate}
use borrow.Author.Tests.{ne_eqb, eqb-true, eqb-false, lt-ltb}
use Rattle.smtlib.proofs.Cuts.{and_left, and_right}
use Rattle.parser.specs.declared.words.Word.TheVariants.{Open, Keyword}
use Rattle.parser.specs.declared.words.Keyword.TheVariants.{DeclareConst, Assert}
use Rattle.parser.specs.declared.states.State.{State}
use Rattle.parser.specs.declared.states.Progress.{Progress}
use Rattle.parser.specs.Words.{token_at}
use Rattle.parser.specs.Expressions.{fault_in, faulty_at, expression_of}
use Rattle.parser.specs.Rules.{Step, code_of, moved_to, expected, sort_of, new_name, declaration_of, joined_rule, assert_of, ended_rule, check_of, command_by, command_of, halted, commands_of, start, rule_of}
use Rattle.parser.specs.Grammar.{Declared, Stands, Declarations}
use Rattle.parser.specs.Grammar.Declarations.{none as undeclared, more as declared}
use Rattle.parser.specs.Trees.{names_of}
use Rattle.parser.specs.Laws.{Storable}
use Rattle.parser.proofs.Choices.{by_test}
use Rattle.parser.proofs.Moving.{expression_moves}
use Rattle.parser.proofs.Wanted.{coded, went, bytes_at, new_name_lem, sort_read}
use Rattle.parser.proofs.NameLists.{names-append}
use Rattle.parser.proofs.Onward.{onward, open_onward, close_inside, sort_onward, then_declared}
use Rattle.parser.proofs.Sound.{names-known, stays, goes}
use Rattle.prefixes.specs.Spelling.{is_end, spelling}
use Rattle.prefixes.specs.Prefixes.{Spot, nothing, first_refusal}
use Rattle.prefixes.specs.Prefixes.Want.{the}
use Rattle.prefixes.specs.Prefixes.Place.{commands, command, naming, wanting, operand}
use Rattle.prefixes.specs.Laws.{Tells, FirstRefusal}
use Rattle.prefixes.proofs.Spellings.{first, first-refused, first_ended}
use Rattle.prefixes.proofs.Following.{Leads, here, stopped, passed, then, at_place, wanted, sort, new}
use Rattle.prefixes.proofs.Expressing.{expression}

-- the declarations that were read
record Names (text : List ℕ) (p : Progress) (ds : List Declared) : Type 0 where
  to : ℕ
  declarations : Declarations text 0 ds to
  names_are : p.names ≡ length ds
  until : p.asserts ≡ 0 → to ≡ p.state.at
  inside : p.state.at ≤ length text
  few : length ds ≤ to

-- between commands
abbrev spot_of : Progress → List Declared → Spot
spot_of p ds = record { place = commands; names = names_of ds; asserted = not (eqb p.asserts 0) }

-- what a command leads to: a refusal; the next command, further on; the end
data Outcome (text : List ℕ) (a : Spot) (at : ℕ) (v : Progress) : Type 0 where
  refusing : (fault_in v.state ≡ 0 → ⊥) → first text a at ≡ record { number = (fault_in v.state); place = v.state.at } → Outcome text a at v
  going : (ds : List Declared) → Names text v ds → v.ended ≡ false → fault_in v.state ≡ 0 → at < v.state.at
      → first text a at ≡ first text (spot_of v ds) v.state.at → Outcome text a at v
  ending : v.ended ≡ true → fault_in v.state ≡ 0 → first text a at ≡ nothing → Outcome text a at v

-- the end of the words
record Ends (text : List ℕ) (a : Spot) (at : ℕ) (v : State) : Type 0 where
  faulty : (fault_in v ≡ 0 → ⊥) → first text a at ≡ record { number = (fault_in v); place = v.at }
  clean : fault_in v ≡ 0 → first text a at ≡ nothing

ended : (text : List ℕ) (names : List (List ℕ)) (asserted : Bool) {a : Spot} {at : ℕ} (s : State)
    → Leads text a at s (at_place text names asserted (wanting (the 10) [])) → Ends text a at (expected text s 10)
unfolding expected
ended text names asserted {a} {at} s l =
    let t = token_at text s.at in
    let b = at_place text names asserted (wanting (the 10) []) in
    by_test (Ends text a at) (eqb (fault_in s) 0)
    (λ f. by_test (Ends text a at) (eqb (code_of t.word) 10)
    (λ e. record { faulty = λ n. absurd (n (eqb-true _ _ f)); clean = λ z. l.clean z ∙ first_ended text s.at b (rw e) (ap is_end (coded text s.at 9 (eqb-true _ _ e))) })
    (λ e. record { faulty = λ z. l.clean (eqb-true _ _ f) ∙ first-refused text s.at b fault_kind.Unexpected (rw e); clean = λ z. absurd (omega arith) }))
    (λ f. record { faulty = l.faulty; clean = λ z. absurd (eqb-false _ _ f z) })

pub twice : (b : Bool) → not (not b) ≡ b
twice true = refl
twice false = refl

module _ (text : List ℕ) (small : Storable text) (p : Progress) (ds : List Declared) (r : Names text p ds) (on : p.ended ≡ false) (clean : fault_in p.state ≡ 0)
    {a : ℕ} (o : Stands text p.state.at Open a) where
  abbrev Leads-to : Step → Type 0
  Leads-to v = Outcome text (spot_of p ds) p.state.at v.progress

  abbrev asserted : Bool
  asserted = not (eqb p.asserts 0)

  -- after the parenthesis
  opened : Leads text (spot_of p ds) p.state.at (moved_to p.state a) (at_place text (names_of ds) asserted command)
  opened = passed (moved_to p.state a) (here text (spot_of p ds) p.state clean) clean (rw o.here) (ap is_end o.here) clean (sym o.after)

  -- Declarations

  declaring : code_of (token_at text a).word ≡ 3 → p.asserts ≡ 0
      → Leads text (spot_of p ds) p.state.at (moved_to p.state (token_at text a).next) (at_place text (names_of ds) asserted naming)
  declaring e none =
      let l = passed (moved_to p.state (token_at text a).next) opened clean (rw (e, none)) (ap is_end (coded text a 2 e)) clean refl in
      rw e at l

  asserting : code_of (token_at text a).word ≡ 4
      → Leads text (spot_of p ds) p.state.at (moved_to p.state (token_at text a).next) (at_place text (names_of ds) true (operand []))
  asserting e =
      let l = passed (moved_to p.state (token_at text a).next) opened clean (rw e) (ap is_end (coded text a 3 e)) clean refl in
      rw e at l

  declares : code_of (token_at text a).word ≡ 3 → p.asserts ≡ 0 → (room : List ℕ)
      → Leads-to (declaration_of text p (moved_to p.state (token_at text a).next) room)
  unfolding declaration_of
  declares c none room =
      let s = moved_to p.state (token_at text a).next in
      let w = bytes_at text s.at in
      let n = new_name text p.names s in
      let q = sort_of text n in
      let e = expected text q.state 2 in
      let known = names-known r.declarations r.names_are in
      let ns = names_of ds ++ (w ∷ []) in
      let l = wanted text ns asserted q.state 2 [] (omega arith)
      (sort text ns asserted n (new text (names_of ds) asserted s p.names known (declaring c none))) in
      by_test Leads-to (eqb (fault_in e) 0)
      (λ f. let x = went text q.state 1 (eqb-true _ _ f) in
      let y = sort_read text n x.clean in
      let m = new_name_lem text p.names s y.clean in
      let d : Declared = record { name = w; sort = record { m = q.sort.m; n = q.sort.n } } in
      let k : Stands text a (Keyword DeclareConst) s.at = record { here = coded text a 2 c; after = refl } in
      let before : Declarations text 0 ds p.state.at = subst (Declarations text 0 ds) (r.until none) r.declarations in
      let long : length (ds ++ (d ∷ [])) ≡ length ds + 1 = length-append ds (d ∷ []) in
      let moves : p.state.at < e.at = omega
      (arith, open_onward o, onward k, onward m.named.stands, sort_onward y.reads, onward x.stands) in
      let fewer : p.names < 4611686018427387904 = omega (arith, r.few, r.until none, r.names_are, close_inside x.stands) in
      going (ds ++ (d ∷ []))
      (record {
        to = e.at;
        declarations = then_declared before (declared o k m.named y.reads x.stands undeclared);
        names_are = rw (lt-ltb _ _ fewer) (omega (arith, r.names_are, long));
        until = λ z. refl;
        inside = close_inside x.stands;
        few = omega (arith, r.few, r.until none, long);
      })
      on refl moves (rw (names-append ds (d ∷ [])) (l.clean (eqb-true _ _ f))))
      (λ f. refusing (eqb-false _ _ f) (l.faulty (eqb-false _ _ f)))

  -- Asserts

  asserts : code_of (token_at text a).word ≡ 4 → (room : List ℕ) → Leads-to (assert_of text p (moved_to p.state (token_at text a).next) room)
  unfolding assert_of joined_rule
  asserts c room =
      let s = moved_to p.state (token_at text a).next in
      let v = expression_of 64 text p.names s room in
      let u = expected text v.state 2 in
      let known = names-known r.declarations r.names_are in
      let l = wanted text (names_of ds) true v.state 2 [] (omega arith)
      (then (asserting c) clean (expression text (names_of ds) p.names known true s room clean)) in
      let facts : fault_in u ≡ 0 → (p.state.at < u.at) × (u.at ≤ length text) = λ f.
      let x = went text v.state 1 f in
      let k : Stands text a (Keyword Assert) s.at = record { here = coded text a 3 c; after = refl } in
      let further = (expression_moves 64 text p.names s room x.clean).further in
      (omega (arith, open_onward o, onward k, further, onward x.stands), close_inside x.stands) in
      by_test Leads-to (eqb (fault_in u) 0)
      (λ f. let g = eqb-true _ _ f in
      by_test Leads-to (eqb p.asserts 0)
      (λ n. going ds
      (record { to = r.to; declarations = r.declarations; names_are = r.names_are; until = λ z. absurd (omega arith); inside = (facts g).1; few = r.few })
      refl g (facts g).0 (l.clean g))
      (λ n. going ds
      (record { to = r.to; declarations = r.declarations; names_are = r.names_are; until = λ z. absurd (omega arith); inside = (facts g).1; few = r.few })
      refl refl (facts g).0 (l.clean g)))
      (λ f. refusing (eqb-false _ _ f) (l.faulty (eqb-false _ _ f)))

  -- The end

  checking : code_of (token_at text a).word ≡ 5
      → Leads text (spot_of p ds) p.state.at (cond (eqb p.asserts 0) (faulty_at p.state fault_kind.Unasserted (token_at text a).from) (moved_to p.state (token_at text a).next))
      (at_place text (names_of ds) asserted (wanting (the 2) (the 10 ∷ [])))
  checking e =
      by_test (λ (v : State). Leads text (spot_of p ds) p.state.at v (at_place text (names_of ds) asserted (wanting (the 2) (the 10 ∷ []))))
      (eqb p.asserts 0)
      (λ z. stopped (at_place text (names_of ds) asserted (wanting (the 2) (the 10 ∷ []))) fault_kind.Unasserted opened clean (rw (e, z)))
      (λ z. let l = passed (moved_to p.state (token_at text a).next) opened clean (rw (e, z)) (ap is_end (coded text a 4 e)) clean refl in rw e at l)

  checks : code_of (token_at text a).word ≡ 5 → (room : List ℕ) → Leads-to (check_of text p (token_at text a) room)
  unfolding check_of ended_rule
  checks c room =
      let s = cond (eqb p.asserts 0) (faulty_at p.state fault_kind.Unasserted (token_at text a).from) (moved_to p.state (token_at text a).next) in
      let u = expected text s 2 in
      let v = expected text u 10 in
      let l = wanted text (names_of ds) asserted s 2 (the 10 ∷ []) (omega arith) (checking c) in
      let m = ended text (names_of ds) asserted u l in
      by_test Leads-to (eqb (fault_in v) 0)
      (λ f. let g = eqb-true _ _ f in
      by_test Leads-to (eqb p.asserts 1 && p.bare) (λ n. ending refl refl (m.clean g)) (λ n. ending refl g (m.clean g)))
      (λ f. refusing (eqb-false _ _ f) (m.faulty (eqb-false _ _ f)))

  -- Commands

  command_by_lem : (room : List ℕ) → Leads-to (command_by text p (token_at text a) room)
  unfolding command_by
  command_by_lem room =
      let w = (token_at text a).word in
      by_test Leads-to (eqb (code_of w) 3 && eqb p.asserts 0)
      (λ e. declares (eqb-true _ _ (and_left (eqb (code_of w) 3) (eqb p.asserts 0) e))
      (eqb-true _ _ (and_right (eqb (code_of w) 3) (eqb p.asserts 0) e)) room)
      (λ e. by_test Leads-to (eqb (code_of w) 4) (λ f. asserts (eqb-true _ _ f) room)
      (λ f. by_test Leads-to (eqb (code_of w) 5) (λ g. checks (eqb-true _ _ g) room)
      (λ g. refusing (λ z. omega arith)
      ((stopped (spot_of p ds) fault_kind.Unexpected opened clean (rw (twice (eqb p.asserts 0), e, f, g))).faulty (λ z. omega arith)))))

module _ (text : List ℕ) (small : Storable text) (p : Progress) (ds : List Declared) (r : Names text p ds) (on : p.ended ≡ false) (clean : fault_in p.state ≡ 0) where
  commands_lead : (room : List ℕ) → Outcome text (spot_of p ds) p.state.at (command_of text p room).progress
  unfolding command_of
  commands_lead room =
      by_test (λ (v : Step). Outcome text (spot_of p ds) p.state.at v.progress) (eqb (code_of (token_at text p.state.at).word) 1)
      (λ e. command_by_lem text small p ds r on clean (record { here = coded text p.state.at 0 (eqb-true _ _ e); after = refl }) room)
      (λ e. refusing (λ z. omega arith) ((stopped (spot_of p ds) fault_kind.Unexpected (here text (spot_of p ds) p.state clean) clean (rw e)).faulty (λ z. omega arith)))

faulty_halts : (p : Progress) → (fault_in p.state ≡ 0 → ⊥) → halted p ≡ true
faulty_halts p n = rw (ne_eqb (fault_in p.state) 0 n) (go p.ended)
  where
    go : (b : Bool) → b || true ≡ true
    go true = refl
    go false = refl

module _ (text : List ℕ) (small : Storable text) where
  Follows : ℕ → Type 0
  Follows left =
      (v : Step) (ds : List Declared) → Names text v.progress ds → v.progress.ended ≡ false → fault_in v.progress.state ≡ 0
      → length text < left + v.progress.state.at
      → Tells (commands_of left text v).progress.state (first text (spot_of v.progress ds) v.progress.state.at)

  follows_on : (left : ℕ) → Follows left → (a : Spot) (at : ℕ) → length text < suc left + at → (w : Step) → Outcome text a at w.progress
      → Tells (commands_of left text w).progress.state (first text a at)
  unfolding Follows
  follows_on left next a at fuel w (refusing n e) =
      rw (stays left text w (faulty_halts w.progress n), e) (record { number = refl; place = λ z. refl })
  follows_on left next a at fuel w (going ds r on f far e) =
      rw e (next w ds r on f (omega arith))
  follows_on left next a at fuel w (ending over f e) =
      rw (stays left text w (rw over), e) (record { number = sym f; place = λ n. absurd (n f) })

  follows_commands : (left : ℕ) → Follows left
  unfolding Follows
  follows_commands zero v ds r on f fuel = absurd (omega (arith, r.inside))
  follows_commands (suc left) v ds r on f fuel =
      rw (goes left text v on f)
      (follows_on left (follows_commands left) (spot_of v.progress ds) v.progress.state.at fuel (command_of text v.progress v.room)
      (commands_lead text small v.progress ds r on f v.room))

pub first-refusal : FirstRefusal
unfolding rule_of Follows first
first-refusal text small =
    subst (λ (n : ℕ). Tells (commands_of n text (record { progress = start; room = replicate 3072 0 })).progress.state
    (first_refusal (spelling text))) (sym (add-one (length text)))
    (follows_commands text small (suc (length text)) (record { progress = start; room = replicate 3072 0 }) []
    (record { to = 0; declarations = undeclared; names_are = refl; until = λ z. refl; inside = omega arith; few = omega arith }) refl refl
    (omega arith))
