-- A text by computation: its derivation, its table, its meaning; and the same rule with other names.
-- Assumes nothing.
use Rattle.std.specs.Prelude.{Ok, None}
use mathlib.Core.Path.{◌≡◌, refl, sym, ap, subst, ◌∙◌}
use mathlib.Core.Bool.{Bool, true, cond, ◌&&◌, and-true}
use mathlib.Core.List.{List, [], ◌∷◌}
use Prim.Native.Nat.{ℕ, zero, suc, pred, ◌≤◌, ◌<◌}
use native.Mathlib.Omega.{arith}
use lib.Dec.{eqb}
use borrow.Author.Tests.{le-leb, lt-ltb}
use Rattle.ops.specs.Meaning as Ops
use Rattle.ops.specs.Meaning.{bit, holds}
use Rattle.ops.proofs.Booleans.{never}
use Rattle.smtlib.specs.Bytes.{bytes, part, same_bytes, place_in}
use Rattle.smtlib.specs.Numerals.{value_of}
use Rattle.table.specs.Terms.{terms}
use Rattle.table.specs.Folds.{every, any_below}
use Rattle.table.specs.Faults.{typed, clash, size_within, fault_if, fault}
use Rattle.table.specs.Admission.{scan, admission_within, admission}
use Rattle.setting.specs.Interpretation.{Interpretation, FitInputs}
use Rattle.evaluate.specs.Values.{value_at}
use Rattle.parser.specs.declared.words.Word.TheVariants.{Name}
use Rattle.parser.specs.Words.{among, symbol as simple, private, marked, plain_of, word_of, ahead, word_from, token_at}
use Rattle.parser.specs.Parsing.{built, parsing}
use Rattle.parser.specs.Grammar.{Rule, Stands, Named, Reads}
use Rattle.parser.specs.Grammar.Tree.{literal, symbol, apply}
use Rattle.parser.specs.Grammar.Trees.{nil, cons}
use Rattle.parser.specs.Grammar.Vector.{vector as vectored}
use Rattle.parser.specs.Grammar.Sorting.{bool, vector}
use Rattle.parser.specs.Grammar.Expression.{constant, name, list}
use Rattle.parser.specs.Grammar.Operands.{none, more}
use Rattle.parser.specs.Grammar.Declarations.{none as undeclared, more as declared}
use Rattle.parser.specs.Grammar.Asserts.{none as unasserted, more as asserted}
use Rattle.parser.specs.Trees.{names_of, distinct, knows, within, count, counted, every_tree, meets, size, root, roots, sort_in, tree_terms, variables}
use Rattle.parser.specs.Trees.{joins, rule_terms}
use Rattle.parser.specs.Laws.{numbers_of, Storable}
use Rattle.meanings.specs.Meaning.{tree_value}
use Rattle.meanings.specs.Renaming.{renamed_tree, renamed, Renames, OneParsing}
use Rattle.meanings.proofs.Parsed.{built_is, parsed_just}
use Rattle.meanings.proofs.Conjunctions.{bit-holds, rule_means_asserts}
use Rattle.meanings.proofs.Renaming.{renames_computed, renamed_alike}
use Rattle.table.specs.Answers.{accepted}

-- the word that stands at a place
word_at : (text : List ℕ) (from : ℕ) → Stands text from (token_at text from).word (token_at text from).next
word_at text from = record { here = refl; after = refl }

-- a name that is no sort's word
name_at : (text : List ℕ) (from : ℕ) → (token_at text from).word ≡ Name None
    → Named text from (part text (token_at text from).from (token_at text from).next) (token_at text from).next
name_at text from e = record { sort = None; stands = record { here = e; after = refl }; bytes_are = refl }

abbrev text : List ℕ
text = bytes "(declare-const a Bool)(declare-const x1 (_ BitVec 2))(assert a)(assert (= x1 #b10))(check-sat)"

abbrev rule : Rule
rule =
    record {
      declarations = record { name = bytes "a"; sort = record { m = 0; n = 0 } } ∷ record { name = bytes "x1"; sort = record { m = 0; n = 2 } } ∷ [];
      asserts = symbol (bytes "a") ∷ apply 6 (cons (symbol (bytes "x1")) (cons (literal 2 2) nil)) ∷ [];
    }

reads : Reads text rule
unfolding same_bytes place_in value_of every among simple private plain_of word_of ahead word_from token_at
reads =
    let at = word_at text in
    let named = name_at text in
    record {
      declared_to = 53;
      asserted_to = 83;
      opened_to = 84;
      checked_to = 93;
      closed_to = 94;
      declarations =
          declared (at 0) (at 1) (named 14 refl) (bool (at 16)) (at 21)
          (declared (at 22) (at 23) (named 36 refl) (vector (vectored (at 39) (at 41) (at 42) (at 49) (at 51))) (at 52) undeclared);
      asserts =
          asserted (at 53) (at 54) (name (named 60 refl)) (at 62)
          (asserted (at 63) (at 64) (list (at 70) (at 72) (more (name (named 73 refl)) (more (constant (at 76)) none)) (at 81)) (at 82) unasserted);
      opened = at 83;
      checked = at 84;
      closed = at 93;
      ended = refl;
    }

small : Storable text
small = omega arith

met : meets rule ≡ true
unfolding same_bytes place_in distinct knows within count counted every_tree
met = refl

-- the five terms
table : numbers_of (rule_terms rule)
    ≡ 1 ∷ 0 ∷ 0 ∷ 0 ∷ 0 ∷ 0 ∷ 1 ∷ 0 ∷ 2 ∷ 1 ∷ 1 ∷ 0 ∷ 0 ∷ 0 ∷ 2 ∷ 2 ∷ 0 ∷ 0 ∷ 6 ∷ 0 ∷ 0 ∷ 1 ∷ 2 ∷ 0 ∷ 3 ∷ 0 ∷ 0 ∷ 0 ∷ 3 ∷ 0 ∷ []
unfolding same_bytes place_in every marked size root roots sort_in tree_terms variables joins numbers_of
table = refl

admitted : admission (numbers_of (rule_terms rule)) ≡ accepted
unfolding same_bytes place_in every marked size root roots sort_in tree_terms variables joins numbers_of any_below typed clash size_within fault_if fault scan admission_within
admitted = refl

pub parsed : (room : ℕ) → 30 ≤ room → parsing text room ≡ Ok 30
unfolding size tree_terms variables joins
parsed room h =
    (parsed_just text small room 30).complete (record { rule = rule; reads = reads; met = met; admitted = admitted; count = refl; enough = h })

-- In every interpretation that fits: a is true and x1 is 2.

fits_inputs : (I : Interpretation) → (I 0).num ≤ 1 → (I 1).num < 4 → FitInputs (numbers_of (rule_terms rule)) I
fits_inputs I a x = subst (λ (w : List ℕ). FitInputs w I) (sym table) go
  where
    go : FitInputs (1 ∷ 0 ∷ 0 ∷ 0 ∷ 0 ∷ 0 ∷ 1 ∷ 0 ∷ 2 ∷ 1 ∷ 1 ∷ 0 ∷ 0 ∷ 0 ∷ 2 ∷ 2 ∷ 0 ∷ 0 ∷ 6 ∷ 0 ∷ 0 ∷ 1 ∷ 2 ∷ 0 ∷ 3 ∷ 0 ∷ 0 ∷ 0 ∷ 3 ∷ 0 ∷ []) I
    go zero h v = record { num = λ s. le-leb (I 0).num 1 a; cell = λ s. never s }
    go (suc zero) h v = record { num = λ s. lt-ltb (I 1).num 4 x; cell = λ s. never s }
    go (suc (suc zero)) h v = never v
    go (suc (suc (suc zero))) h v = never v
    go (suc (suc (suc (suc zero)))) h v = never v
    go (suc (suc (suc (suc (suc k))))) h v = absurd (omega arith)

pub means : (I : Interpretation) → (I 0).num ≤ 1 → (I 1).num < 4
    → (value_at (built text) I (pred (terms (built text)))).num ≡ bit (holds (I 0).num && eqb (I 1).num 2)
unfolding same_bytes place_in size tree_terms variables joins every_tree tree_value sort_in Ops.apply
means I a x =
    let e = parsed 30 (omega arith) in
    let is = built_is text rule small reads met 30 30 e in
    rule_means_asserts text small 30 30 e rule reads I (subst (λ (w : List ℕ). FitInputs w I) (sym is) (fits_inputs I a x))
    ∙ ap (λ (b : Bool). bit (holds (I 0).num && b)) (and-true (holds (bit (eqb (I 1).num 2))) ∙ bit-holds (eqb (I 1).num 2))

-- With other names

abbrev other : List ℕ
other = bytes "(declare-const safe Bool)\n(declare-const x07 (_ BitVec 2))\n(assert safe)\n(assert (= x07 #b10))\n(check-sat)\n"

abbrev rename : List ℕ → List ℕ
rename w = cond (same_bytes w (bytes "a")) (bytes "safe") (cond (same_bytes w (bytes "x1")) (bytes "x07") w)

other_reads : Reads other (renamed rename rule)
unfolding same_bytes place_in value_of every among simple private plain_of word_of ahead word_from token_at renamed_tree
other_reads =
    let at = word_at other in
    let named = name_at other in
    record {
      declared_to = 58;
      asserted_to = 94;
      opened_to = 96;
      checked_to = 105;
      closed_to = 106;
      declarations =
          declared (at 0) (at 1) (named 14 refl) (bool (at 19)) (at 24)
          (declared (at 25) (at 27) (named 40 refl) (vector (vectored (at 44) (at 46) (at 47) (at 54) (at 56))) (at 57) undeclared);
      asserts =
          asserted (at 58) (at 60) (name (named 66 refl)) (at 71)
          (asserted (at 72) (at 74) (list (at 80) (at 82) (more (name (named 83 refl)) (more (constant (at 87)) none)) (at 92)) (at 93) unasserted);
      opened = at 94;
      checked = at 96;
      closed = at 105;
      ended = refl;
    }

renaming : Renames rename (names_of rule.declarations)
unfolding same_bytes place_in distinct every marked
renaming = renames_computed rename (names_of rule.declarations) refl

pub same-parsing : OneParsing text other
same-parsing = renamed_alike rename rule renaming met text other small (omega arith) reads other_reads
