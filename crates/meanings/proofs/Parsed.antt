-- Parsing answers a table just where a text of the language has one.
-- Assumes nothing.
use Rattle.std.specs.Prelude.{Ok, Err}
use Rattle.parser.specs.Expressions.{fault_in}
use mathlib.Core.Path.{◌≡◌, refl, sym, ap, ◌∙◌}
use mathlib.Core.Bool.{Bool, true, false, cond}
use mathlib.Core.List.{List, ◌++◌}
use Prim.Native.Nat.{ℕ, ◌*◌, ◌≤◌}
use native.Mathlib.Omega.{arith}
use lib.Dec.{eqb, ltb}
use lib.ListN.{length, drop}
use borrow.Author.Tests.{eq-eqb, ne_eqb, eqb-true, le-ltb, ltb-true, ltb-false}
use Rattle.table.specs.Answers.{Acceptance, accepted}
use Rattle.table.specs.Terms.{words, terms}
use Rattle.table.specs.Admission.{and_then, admission}
use Rattle.table.proofs.Admitted.{admission-sound}
use Rattle.parser.specs.Parsing.{Parsing}
use Rattle.parser.specs.declared.states.State.{State}
use Rattle.parser.specs.Rules.{rule_of}
use Rattle.parser.specs.Parsing.{not_parsed, built, tabled, parsing, given_by}
use Rattle.parser.specs.Grammar.{Rule, Reads}
use Rattle.parser.specs.Trees.{meets, rule_terms}
use Rattle.parser.specs.Laws.{numbers_of, Storable, Tabled}
use Rattle.parser.proofs.Accepts.{never}
use Rattle.parser.proofs.Sound.{sound}
use Rattle.parser.proofs.Complete.{complete}
use Rattle.parser.proofs.Unique.{one_reading}
use Rattle.meanings.specs.Laws.{ParsesTo, ParsesRule, ParsedJust}
use Rattle.meanings.proofs.Layouts.{terms_are}

-- An answer that is a table

abbrev is_parsed : Parsing → Bool
is_parsed (Ok n) = true
is_parsed (Err r) = false

-- the answer of a count by the three things that decide it
abbrev decided : ℕ → Bool → Acceptance → Bool → Parsing
decided count many a short = cond many (not_parsed 2 0) (and_then Err a (cond short (not_parsed 21 count) (Ok (count * words))))

record Answered (t : List ℕ) (count room n : ℕ) : Type 0 where
  few : count ≤ 512
  admitted : admission t ≡ accepted
  size : n ≡ count * words
  enough : count * words ≤ room

answered : (t : List ℕ) (count room n : ℕ) → tabled t count room ≡ Ok n → Answered t count room n
answered t count room n e = go (ltb 512 count) refl (admission t) refl (ltb room (count * words)) refl e
  where
    go : (many : Bool) → ltb 512 count ≡ many → (a : Acceptance) → admission t ≡ a → (short : Bool) → ltb room (count * words) ≡ short
        → decided count many a short ≡ Ok n → Answered t count room n
    go true f a g short h e = absurd (never (ap is_parsed e))
    go false f (Err r) g short h e = absurd (never (ap is_parsed e))
    go false f (Ok _) g true h e = absurd (never (ap is_parsed e))
    go false f (Ok _) g false h e =
        record { few = ltb-false 512 count f; admitted = g; size = ap given_by (sym e); enough = ltb-false room (count * words) h }

-- The answer of a text by its state

module _ (text : List ℕ) (room : ℕ) where
  abbrev state : State
  state = (rule_of text).progress.state

  abbrev answer_if : Bool → Parsing
  answer_if clean = cond clean (tabled (built text) state.count room) (not_parsed (fault_in state) state.at)

  clean_answer : fault_in state ≡ 0 → parsing text room ≡ tabled (built text) state.count room
  clean_answer e = ap answer_if (eq-eqb (fault_in state) 0 e)

  faulty_answer : (fault_in state ≡ 0 → ⊥) → parsing text room ≡ not_parsed (fault_in state) state.at
  faulty_answer n = ap answer_if (ne_eqb (fault_in state) 0 n)

  parsed_clean : (n : ℕ) → parsing text room ≡ Ok n → fault_in state ≡ 0
  parsed_clean n e = go (eqb (fault_in state) 0) refl e
    where
      go : (b : Bool) → eqb (fault_in state) 0 ≡ b → answer_if b ≡ Ok n → fault_in state ≡ 0
      go true f e = eqb-true (fault_in state) 0 f
      go false f e = absurd (never (ap is_parsed e))

-- By the rule's terms

module _ (text : List ℕ) (r : Rule) (c : Tabled text r) (room : ℕ) where
  abbrev table : List ℕ
  table = numbers_of (rule_terms r)

  abbrev count : ℕ
  count = length (rule_terms r)

  terms-answer : parsing text room ≡ tabled table count room
  terms-answer = clean_answer text room c.clean ∙ go (ltb 512 count) refl
    where
      go : (many : Bool) → ltb 512 count ≡ many → tabled (built text) (state text room).count room ≡ tabled table count room
      go true e =
          ap (λ (n : ℕ). tabled (built text) n room) (c.over (ltb-true 512 count e))
          ∙ sym (ap (λ (many : Bool). decided count many (admission table) (ltb room (count * words))) e)
      go false e =
          let few = ltb-false 512 count e in
          ap (λ (t : List ℕ). tabled t (state text room).count room) (c.table few) ∙ ap (λ (n : ℕ). tabled table n room) (c.counted few)

module _ (text : List ℕ) (r : Rule) (small : Storable text) (d : Reads text r) (m : meets r ≡ true) where
  pub built_is : (room n : ℕ) → parsing text room ≡ Ok n → built text ≡ numbers_of (rule_terms r)
  built_is room n e =
      let c = complete text r small d m in
      let a = answered (numbers_of (rule_terms r)) (length (rule_terms r)) room n (sym (terms-answer text r c room) ∙ e) in
      c.table a.few

  pub parses_to : ParsesTo text r
  parses_to =
      record {
        answer = terms-answer text r (complete text r small d m);
        left = λ room n e. ap (λ (t : List ℕ). t ++ drop n room) (built_is (length room) n e);
      }

pub parses_rule : ParsesRule
parses_rule text r small d =
    record {
      met = parses_to text r small d;
      unmet = λ m room.
          let s = state text room in
          let faulty : fault_in s ≡ 0 → ⊥ = λ f. let a = sound text small f in never
          (sym m ∙ ap meets (one_reading text r a.rule d a.reads) ∙ a.met) in
          record { refusal = record { number = (fault_in s); place = s.at }; is = faulty_answer text room faulty };
    }

-- Just there

pub parsed_just : ParsedJust
parsed_just text small room n =
    record {
      sound = λ e.
          let a = sound text small (parsed_clean text room n e) in
          let t = parses_to text a.rule small a.reads a.met in
          let b = answered (numbers_of (rule_terms a.rule)) (length (rule_terms a.rule)) room n (sym (t.answer room) ∙ e) in
          record {
            rule = a.rule;
            reads = a.reads;
            met = a.met;
            admitted = b.admitted;
            count = b.size;
            enough = omega (arith, b.size, b.enough);
          };
      complete = λ t.
          let xs = rule_terms t.rule in
          let few : terms (numbers_of xs) ≤ 512 = (admission-sound 512 (numbers_of xs) t.admitted).few in
          let small_count = le-ltb 512 (length xs) (omega (arith, terms_are xs)) in
          let held = le-ltb room (length xs * words) (omega (arith, t.count, t.enough)) in
          (parses_to text t.rule small t.reads t.met).answer room ∙ rw (small_count, t.admitted, held, t.count);
    }
