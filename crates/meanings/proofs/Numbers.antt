-- Parsing refuses by these numbers alone: of the table's, 1, 3, 4, 5 and 8 do not occur.
-- Assumes nothing.
use Rattle.std.specs.Prelude.{Ok, Err}
use Rattle.parser.specs.Expressions.{fault_in}
use mathlib.Core.Path.{◌≡◌, refl, sym, ap, ◌∙◌, subst}
use mathlib.Core.Bool.{Bool, true, false, cond, ◌&&◌}
use mathlib.Core.List.{List, []}
use Prim.Native.Nat.{ℕ, zero, suc, pred, ◌+◌, ◌*◌, ◌%◌, ◌≤◌, ◌<◌}
use Prim.{tt}
use native.Mathlib.Nat.{mul-mod_left}
use native.Mathlib.Omega.{arith}
use lib.Dec.{eqb, ltb, leb}
use lib.ListN.{length, get_or, take, drop, take-append-drop, get_or-append, get_or-eq_default}
use lib.Seq.{length-take-le}
use borrow.Author.Tests.{eq-eqb, ne_eqb, ltb-true, ltb-false}
use Rattle.ops.proofs.Booleans.{never}
use Rattle.table.specs.Answers.{Acceptance, accepted}
use Rattle.table.specs.Terms.{words, terms, term_at, sort_at, boolean}
use Rattle.table.specs.Folds.{any_below}
use Rattle.table.specs.Refusals.{between}
use Rattle.table.specs.Faults.{is_variable, fields, typed, valued_as, conflicts, clash, size, refuse_unless, fault_if, fault}
use Rattle.table.specs.Admission.{refused, and_then, admission_within, admission}
use Rattle.table.proofs.Refusals.{Fault, refuse_by, scan_by, either_of}
use Rattle.table.proofs.Refusals.Fault.{none}
use Rattle.parser.specs.Parsing.{Parsing}
use Rattle.parser.specs.Rules.{Step, rule_of}
use Rattle.parser.specs.Parsing.{not_parsed, tabled}
use Rattle.parser.proofs.Choices.{by_test}
use Rattle.meanings.specs.Numbers.{parse_numbers, NotParsedBy, ParsingNumbers}
use Rattle.meanings.proofs.NumbersTables.{same-term, Clean, Table}
use Rattle.meanings.proofs.NumbersExpressions.{not_clean}
use Rattle.meanings.proofs.NumbersCommands.{Fine, Good, rule_good}
use Rattle.meanings.proofs.NumbersCommands.Good.{refused as rule-refused, good}

-- No 8: the variables' slots are their own numbers

module _ (t : List ℕ) (clean : (k : ℕ) → Clean k (term_at t k)) where
  apart : (j k : ℕ) → j < k → is_variable (term_at t k) ≡ true → is_variable (term_at t j) && conflicts (term_at t j) (term_at t k) ≡ false
  apart j k less v = go (is_variable (term_at t j)) refl
    where
      go : (b : Bool) → is_variable (term_at t j) ≡ b → b && conflicts (term_at t j) (term_at t k) ≡ false
      go true e = rw (ne_eqb (term_at t j).p (term_at t k).p (λ same. omega (arith, (clean j).slotted e, (clean k).slotted v)))
      go false e = refl

  none_below : (n k : ℕ) → n ≤ k → is_variable (term_at t k) ≡ true
      → any_below n (λ j. is_variable (term_at t j) && conflicts (term_at t j) (term_at t k)) ≡ false
  unfolding any_below
  none_below zero k h v = refl
  none_below (suc n) k h v = rw (none_below n k (omega arith) v, apart n k (omega arith) v)

  no-clash : (k : ℕ) → clash t k ≡ false
  unfolding clash
  no-clash k = go (is_variable (term_at t k)) refl
    where
      go : (b : Bool) → is_variable (term_at t k) ≡ b → b && any_below k (λ j. is_variable (term_at t j) && conflicts (term_at t j) (term_at t k)) ≡ false
      go true e = none_below k k (omega arith) e
      go false e = refl

  -- of a term 6, 7 and 9
  pub fault_is : (k : ℕ) → fault t k ≡ refuse_unless 6 (typed t (term_at t k))
      (refuse_unless 7 (valued_as (fields (term_at t k)) (term_at t k)) (refuse_unless 9 (leb (size t k) 16) 0))
  unfolding fault fault_if
  fault_is k = rw (no-clash k, (clean k).numbered, (clean k).sorts, (clean k).fielded)

  fault_by : (k : ℕ) → Fault parse_numbers (fault t k)
  fault_by k =
      let x = term_at t k in
      rw (fault_is k) (refuse_by 6 refl (typed t x) (refuse_by 7 refl (valued_as (fields x) x) (refuse_by 9 refl (leb (size t k) 16) none)))

  -- of the whole 2 and 10 besides
  admission_by : (c : ℕ) → length t ≡ c * 6 → 1 ≤ c → (Q : Acceptance → Type 0) → Q accepted
      → ((number place : ℕ) → parse_numbers number ≡ true → Q (refused number place)) → Q (admission t)
  unfolding admission_within
  admission_by c long some Q admitted by =
      let last = pred (terms t) in
      rw (ne_eqb (length t) 0 (λ e. omega arith), ap (λ (n : ℕ). n % 6) long ∙ mul-mod_left c 6)
      (either_of Q (ltb 512 (terms t)) (by 2 0 refl)
      (scan_by parse_numbers Q by (fault t) fault_by (terms t) 0 (either_of Q (boolean (sort_at t last)) admitted (by 10 last refl))))

-- The front of the room, and past it

front_word : (n : ℕ) (l : List ℕ) (i : ℕ) → n ≤ length l → i < n → get_or (take n l) i 0 ≡ get_or l i 0
front_word n l i b h =
    sym (get_or-append (take n l) (drop n l) 0 i (omega (arith, length-take-le n l b))) ∙ ap (λ (r : List ℕ). get_or r i 0) (take-append-drop n l)

nothing_clean : (k : ℕ) → Clean k (term_at [] 0)
nothing_clean k = record { numbered = refl; sorts = refl; fielded = refl; slotted = λ e. never e }

module _ (names c : ℕ) (room : List ℕ) (t : Table names c room) (few : c ≤ 512) where
  front_long : length (take (c * 6) room) ≡ c * 6
  front_long = length-take-le (c * 6) room (omega (arith, t.long))

  pub front_clean : (k : ℕ) → Clean k (term_at (take (c * 6) room) k)
  front_clean k = go (ltb k c) refl
    where
      go : (b : Bool) → ltb k c ≡ b → Clean k (term_at (take (c * 6) room) k)
      go true e =
          let less = ltb-true k c e in
          subst (Clean k) (sym (same-term (take (c * 6) room) room k k
          (λ i f. front_word (c * 6) room (k * 6 + i) (omega (arith, t.long)) (omega arith)))) (t.clean few k less)
      go false e =
          let past = ltb-false k c e in
          subst (Clean k) (sym (same-term (take (c * 6) room) [] k 0
          (λ i f. get_or-eq_default (take (c * 6) room) 0 (omega (arith, front_long))))) (nothing_clean k)

-- a text that is read without a fault
pub rule_fine : (text : List ℕ) → (fault_in (rule_of text).progress.state) ≡ 0 → Fine 1 (rule_of text)
rule_fine text e = go (rule_good text)
  where
    go : Good 1 (rule_of text) → Fine 1 (rule_of text)
    go (rule-refused b) = absurd (not_clean (rule_of text).progress.state b e)
    go (good g) = g

-- The whole

abbrev Known : Parsing → Type 0
Known = NotParsedBy parse_numbers

tabled-known : (v : Step) → Fine 1 v → (room : ℕ)
    → Known (tabled (take (v.progress.state.count * words) v.room) v.progress.state.count room)
tabled-known v g room =
    let c = v.progress.state.count in
    let t = take (c * words) v.room in
    by_test Known (ltb 512 c) (λ e. refl)
    (λ e. let few : c ≤ 512 = ltb-false 512 c e in
    admission_by t (front_clean v.progress.names c v.room g.table few) c (front_long v.progress.names c v.room g.table few)
    g.some
    (λ a. Known (and_then Err a (cond (ltb room (c * words)) (not_parsed 21 c) (Ok (c * words)))))
    (by_test Known (ltb room (c * words)) (λ f. refl) (λ f. tt)) (λ number place f. f))

faulty_known : (f : ℕ) → between 31 35 f ≡ true → parse_numbers f ≡ true
faulty_known f e = rw e

parsing-known : (v : Step) → Good 1 v → (room : ℕ)
    → Known (cond (eqb (fault_in v.progress.state) 0) (tabled (take (v.progress.state.count * words) v.room) v.progress.state.count room)
    (not_parsed (fault_in v.progress.state) v.progress.state.at))
parsing-known v (rule-refused b) room = rw (ne_eqb (fault_in v.progress.state) 0 (not_clean v.progress.state b))
    (faulty_known (fault_in v.progress.state) b)
parsing-known v (good g) room = rw (eq-eqb (fault_in v.progress.state) 0 g.clean) (tabled-known v g room)

pub parsing-numbers : ParsingNumbers
parsing-numbers text room = parsing-known (rule_of text) (rule_good text) room
