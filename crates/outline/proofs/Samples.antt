-- Texts by computation: the bytes of each term, and where a text stands.
-- Assumes nothing.
use mathlib.Core.Path.{◌≡◌, refl}
use mathlib.Core.List.{List, [], ◌∷◌}
use Prim.Native.Nat.{ℕ}
use Rattle.smtlib.specs.Bytes.{bytes, same_bytes, place_in}
use Rattle.smtlib.specs.Numerals.{value_of}
use Rattle.table.specs.Folds.{every}
use Rattle.parser.specs.Words.{among, symbol, private, plain_of, word_of, ahead, word_from, token_at}
use Rattle.outline.specs.declared.scan.Command.TheVariants.{DeclareConst}
use Rattle.outline.specs.Scanning.{words_from, step, scanned, context_at}
use Rattle.outline.specs.Spans.{open_before, span_in, span_of, enclosing}

places : List ℕ → ℕ → List ℕ
places text term = (span_of text term).from ∷ (span_of text term).to ∷ []

-- a declared name; a bare name that is joined with itself; no term
bare : places (bytes "(declare-const a Bool)(assert a)(check-sat)") 0 ∷ places (bytes "(declare-const a Bool)(assert a)(check-sat)") 1 ∷ places (bytes "(assert a)") 0 ∷ []
    ≡ (15 ∷ 16 ∷ []) ∷ (22 ∷ 32 ∷ []) ∷ (10 ∷ 10 ∷ []) ∷ []
unfolding places same_bytes place_in value_of every among symbol private plain_of word_of ahead word_from token_at words_from step open_before span_in
bare = refl

-- a constant; a list in a list, and the list; the second assert's constant, and its join
joined : places (bytes "(assert (not (not true))) (assert true)") 0 ∷ places (bytes "(assert (not (not true))) (assert true)") 1
    ∷ places (bytes "(assert (not (not true))) (assert true)") 2 ∷ places (bytes "(assert (not (not true))) (assert true)") 3
    ∷ places (bytes "(assert (not (not true))) (assert true)") 4 ∷ []
    ≡ (18 ∷ 22 ∷ []) ∷ (13 ∷ 23 ∷ []) ∷ (8 ∷ 24 ∷ []) ∷ (34 ∷ 38 ∷ []) ∷ (26 ∷ 39 ∷ []) ∷ []
unfolding places same_bytes place_in value_of every among symbol private plain_of word_of ahead word_from token_at words_from step open_before span_in
joined = refl

-- in the sort of a declaration: two parentheses, four words; the innermost is the second
inside : ((context_at (bytes "(declare-const a (Array ") 18).command ≡ DeclareConst)
    × ((context_at (bytes "(declare-const a (Array ") 18).depth ∷ (context_at (bytes "(declare-const a (Array ") 18).words
    ∷ enclosing (bytes "(declare-const a (Array ") 18 ∷ [] ≡ 2 ∷ 4 ∷ 17 ∷ [])
unfolding same_bytes place_in value_of every among symbol private plain_of word_of ahead word_from token_at words_from step scanned open_before
inside = (refl, refl)
