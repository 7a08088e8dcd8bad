-- Each of the numbers occurs. Short texts by computation; the two long ones by the answer to a rule.
-- Assumes nothing.
use mathlib.Core.Path.{◌≡◌, refl, sym, ap, ◌∙◌, subst}
use mathlib.Core.Bool.{Bool, true, false, not, ◌||◌}
use mathlib.Core.List.{List, [], ◌∷◌, ◌++◌}
use Prim.Native.Nat.{ℕ, zero, suc, ◌+◌, ◌≤◌, ◌<◌}
use Prim.{tt}
use native.Mathlib.Omega.{arith}
use lib.Dec.{ltb, leb}
use lib.ListN.{length, get_or-append}
use borrow.Author.Tests.{lt-leb, le-ltb, ne_eqb, ltb-true, ltb-false}
use Rattle.ops.proofs.Booleans.{never, and_shut}
use Rattle.smtlib.specs.Bytes.{bytes, same_bytes, place_in}
use Rattle.smtlib.specs.Numerals.{value_of}
use Rattle.smtlib.proofs.Operators.{passes, passed}
use Rattle.table.specs.Folds.{every, any_below}
use Rattle.table.specs.declared.words.Term.{Term}
use Rattle.table.specs.Terms.{term_at}
use Rattle.table.specs.Faults.{typed, clash, size_within, fault_if, fault}
use Rattle.table.specs.Admission.{scan, admission_within}
use Rattle.table.specs.Code.Writing.{placed}
use Rattle.parser.specs.Words.{among, symbol, private, marked, plain_of, word_of, ahead, word_from, token_at}
use Rattle.parser.specs.Names.{closing, index_from}
use Rattle.parser.specs.Expressions.{constant_term, head_of, joined_to, term_of, closed_state, operands_by, expression_of}
use Rattle.parser.specs.Rules.{variable_term, expected, width_of, vector_of, array_of, sort_of, new_name, declaration_of, joined_rule, assert_of, ended_rule}
use Rattle.parser.specs.Rules.{check_of, command_by, command_of, commands_of, rule_of}
use Rattle.parser.specs.Parsing.{not_parsed, tabled, parsing}
use Rattle.parser.specs.Grammar.{Declared}
use Rattle.parser.specs.Trees.{size, variables, asserted, rule_terms}
use Rattle.parser.specs.Laws.{numbers_of, Storable}
use Rattle.parser.proofs.Complete.{complete}
use Rattle.parser.proofs.Written.{numbers-length}
use Rattle.meanings.specs.Numbers.{parse_numbers, Sample, short_samples, long_samples, samples, times, declaring, AllAnswered, occurs, EachOccurs}
use Rattle.meanings.proofs.NumbersTables.{Clean}
use Rattle.meanings.proofs.Numbers.{rule_fine, front_clean}
use Rattle.parser.proofs.Complete.{variables-length}
use Rattle.meanings.proofs.Parsed.{parses_rule}
use Rattle.meanings.proofs.NumbersLengths.{rule_length}
use Rattle.meanings.proofs.NumbersMany.{booleans, trues, many_rule, many_text, many-reads, many_meets, declaring-long, times_long}
use Rattle.meanings.proofs.NumbersSlots.{numbers_at, variables_at, slots_over}

-- 2: 257 asserts and 256 joins

asserts_over : parsing (many_text 0 257) 0 ≡ not_parsed 2 0
unfolding declaring size
asserts_over =
    let r = many_rule 0 257 in
    let e : length (rule_terms r) ≡ 513 = rule_length r in
    let small : Storable (many_text 0 257) = omega (arith, times_long 257 (bytes "(check-sat)")) in
    ((parses_rule (many_text 0 257) r small (many-reads 0 257)).met (many_meets 0 256)).answer 0 ∙ ap (λ (n : ℕ). tabled (numbers_of (rule_terms r)) n 0) e

-- 7: from 257 declarations on

booleans_length : (n k : ℕ) → length (booleans n k) ≡ n
booleans_length zero k = refl
booleans_length (suc n) k = ap suc (booleans_length n (suc k))

module _ (n : ℕ) (many : 256 < n) (few : n ≤ 270) where
  abbrev text : List ℕ
  text = many_text n 1

  abbrev ds : List Declared
  ds = booleans n 0

  abbrev xs : List Term
  xs = rule_terms (many_rule n 1)

  small : Storable text
  small = omega (arith, declaring-long n 0 (times 1 (bytes "(assert true)") (bytes "(check-sat)")) (omega arith), times_long 1 (bytes "(check-sat)"))

  xs_length : length xs ≡ n + 1
  unfolding size
  xs_length = rule_length (many_rule n 1) ∙ omega (arith, booleans_length n 0)

  xs_first : (k : ℕ) → k ≤ 256 → term_at (numbers_of xs) k ≡ variable_term 0 0 k false
  xs_first k h =
      let vs = variables ds 0 ds in
      let e : 0 + k ≡ k = omega arith in
      numbers_at xs k (omega (arith, xs_length))
      ∙ get_or-append vs (asserted ds (length ds) (trues 1)) (constant_term 0 0) k
      (omega (arith, variables-length ds 0 ds, booleans_length n 0))
      ∙ variables_at ds 0 n 0 k (omega arith) ∙ ap (λ (i : ℕ). variable_term 0 0 i false) e

  xs_clean : (k : ℕ) → Clean k (term_at (numbers_of xs) k)
  xs_clean k =
      let c = complete text (many_rule n 1) small (many-reads n 1) (many_meets n 0) in
      let g = rule_fine text c.clean in
      let short : length xs ≤ 512 = omega (arith, xs_length) in
      let p = (rule_of text).progress in
      subst (λ (l : List ℕ). Clean k (term_at l k)) (c.table short)
      (front_clean p.names p.state.count (rule_of text).room g.table (omega (arith, c.counted short)) k)

  slots_many : parsing text 0 ≡ not_parsed 7 256
  slots_many =
      let a = slots_over (numbers_of xs) xs_clean (length xs) (numbers-length xs) (omega (arith, xs_length)) (omega (arith, xs_length)) xs_first in
      ((parses_rule text (many_rule n 1) small (many-reads n 1)).met (many_meets n 0)).answer 0 ∙ rw (le-ltb 512 (length xs) (omega (arith, xs_length)), a)

long-answered : AllAnswered long_samples
unfolding times declaring
long-answered = (asserts_over, (slots_many 257 (omega arith) (omega arith), tt))

-- The others

short-answered : AllAnswered short_samples
unfolding times same_bytes place_in value_of every among symbol private marked plain_of word_of ahead word_from token_at closing index_from placed head_of
    joined_to term_of closed_state operands_by expression_of expected width_of vector_of array_of sort_of new_name declaration_of joined_rule assert_of ended_rule
    check_of command_by command_of commands_of rule_of any_below typed clash size_within fault_if fault scan admission_within
short-answered = (refl, (refl, (refl, (refl, (refl, (refl, (refl, (refl, (refl, tt)))))))))

-- All, and no number is left out

both_answered : (ss ss' : List Sample) → AllAnswered ss → AllAnswered ss' → AllAnswered (ss ++ ss')
both_answered [] ss' a b = b
both_answered (s ∷ ss) ss' a b = (a.0, both_answered ss ss' a.1 b)

none_over : (n : ℕ) → 35 < n → parse_numbers n ≡ false
none_over n h =
    rw (
      lt-leb n 35 h,
      and_shut (leb 31 n),
      ne_eqb n 2 (λ e. omega arith),
      ne_eqb n 6 (λ e. omega arith),
      ne_eqb n 7 (λ e. omega arith),
      ne_eqb n 9 (λ e. omega arith),
      ne_eqb n 10 (λ e. omega arith),
      ne_eqb n 21 (λ e. omega arith),
    )

either_way : (n : ℕ) → n < 36 → not (parse_numbers n) || occurs samples n ≡ true
unfolding passes
either_way n h = passed 36 (λ k. not (parse_numbers k) || occurs samples k) n refl h

told : (a b : Bool) → not a || b ≡ true → a ≡ true → b ≡ true
told true b e p = e
told false b e p = never p

every-number : (n : ℕ) → parse_numbers n ≡ true → occurs samples n ≡ true
every-number n p = go (ltb n 36) refl
  where
    go : (b : Bool) → ltb n 36 ≡ b → occurs samples n ≡ true
    go true e = told (parse_numbers n) (occurs samples n) (either_way n (ltb-true n 36 e)) p
    go false e = never (sym (none_over n (ltb-false n 36 e)) ∙ p)

pub each-occurs : EachOccurs
each-occurs = (both_answered short_samples long_samples short-answered long-answered, every-number)
