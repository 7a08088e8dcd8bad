-- The numbers that words carry: operators 2 to 16, constants' widths up to 32, widths 1 to 32.
-- Assumes nothing.
use mathlib.Core.Path.{◌≡◌, refl}
use mathlib.Core.Bool.{Bool, true, false, cond, not, ◌&&◌}
use mathlib.Core.List.{List, [], ◌∷◌}
use Prim.Native.Nat.{ℕ, ◌≤◌, ◌<◌, suc}
use Prim.{tt}
use native.Mathlib.Omega.{arith}
use lib.Dec.{eqb, ltb, leb}
use lib.ListN.{length, get_or}
use borrow.Author.Tests.{ltb-true, leb-true}
use Rattle.ops.specs.Numbers.{last_op}
use Rattle.smtlib.specs.Bytes.{bytes, part, same_bytes, place_in, is_in}
use Rattle.smtlib.specs.Numerals.{value_of}
use Rattle.smtlib.specs.Symbols.{operators, operator_of}
use Rattle.smtlib.proofs.Cuts.{and_right}
use Rattle.table.specs.Folds.{every}
use Rattle.parser.specs.declared.words.Word.{Word}
use Rattle.parser.specs.declared.words.Word.TheVariants.{Open, Close, Keyword, Operator, Literal, Width, Name, Other, End}
use Rattle.parser.specs.declared.words.Token.{Token}
use Rattle.parser.specs.Words.{white, inside, past, digit, between, keywords, binary, width, is_name, plain_of, word_of, word_from, token_at}
use Rattle.parser.proofs.Choices.{by_test}
use Rattle.parser.proofs.WordKinds.{binary-says}

-- what a word's numbers are
abbrev pub Bounded : Word → Type 0
Bounded Open = Unit {0}
Bounded Close = Unit {0}
Bounded (Keyword k) = Unit {0}
Bounded (Operator op) = (2 ≤ op) × (op ≤ last_op)
Bounded (Literal n v) = n ≤ 32
Bounded (Width n) = n ≤ 32
Bounded (Name k) = Unit {0}
Bounded Other = Unit {0}
Bounded End = Unit {0}

-- the first two places of the row have no name
operator_bounded : (w : List ℕ) → ltb 0 (operator_of w) ≡ true → Bounded (Operator (operator_of w))
unfolding place_in same_bytes
operator_bounded [] e = absurd (omega (arith, ltb-true 0 0 e))
operator_bounded (b ∷ y) e = go (is_in operators (b ∷ y)) refl (ltb-true 0 (operator_of (b ∷ y)) e)
  where
    go : (t : Bool) → is_in operators (b ∷ y) ≡ t → 0 < cond t (place_in operators (b ∷ y)) 0
        → (2 ≤ cond t (place_in operators (b ∷ y)) 0) × (cond t (place_in operators (b ∷ y)) 0 ≤ last_op)
    go true f h = (omega arith, omega (arith, ltb-true (place_in operators (b ∷ y)) (suc last_op) f))
    go false f h = absurd (omega arith)

plain_bounded : (w : List ℕ) → Bounded (plain_of w)
unfolding plain_of
plain_bounded w =
    by_test Bounded (binary w) (λ e. (binary-says w e).short)
    (λ e. by_test Bounded (width w)
    (λ f. leb-true _ 32 (and_right (every digit w && between 1 2 (length w) && not (eqb (get_or w 0 0) 48)) (leb (value_of 10 0 w) 32) f))
    (λ f. by_test Bounded (is_name w) (λ g. tt) (λ g. tt)))

word_bounded : (w : List ℕ) → Bounded (word_of w)
unfolding word_of
word_bounded w =
    by_test Bounded (is_in keywords w) (λ e. tt)
    (λ e. by_test Bounded (ltb 0 (operator_of w)) (operator_bounded w)
    (λ f. by_test Bounded (same_bytes w (bytes "true")) (λ g. omega arith)
    (λ g. by_test Bounded (same_bytes w (bytes "false")) (λ h. omega arith) (λ h. plain_bounded w))))

bounded_from : (text : List ℕ) (from : ℕ) → Bounded (word_from text from).word
unfolding word_from
bounded_from text from =
    by_test (λ (t : Token). Bounded t.word) (eqb (get_or text from 0) 40) (λ e. tt)
    (λ e. by_test (λ (t : Token). Bounded t.word) (eqb (get_or text from 0) 41) (λ f. tt)
    (λ f. word_bounded (part text from (past inside text from))))

pub bounded : (text : List ℕ) (at : ℕ) → Bounded (token_at text at).word
unfolding token_at
bounded text at =
    by_test (λ (t : Token). Bounded t.word) (ltb (past white text at) (length text)) (λ e. bounded_from text (past white text at)) (λ e. tt)
