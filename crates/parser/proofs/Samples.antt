-- Words, tokens and expressions by computation.
-- Assumes nothing.
use Rattle.parser.specs.declared.states.Fault.TheVariants as fault_kind
use Rattle.std.specs.Prelude.{Some, None}
use mathlib.Core.Path.{◌≡◌, refl}
use mathlib.Core.Bool.{true, false}
use mathlib.Core.List.{List, [], ◌∷◌}
use Prim.Native.Nat.{ℕ}
use Rattle.smtlib.specs.Bytes.{◌⧺◌, bytes, same_bytes, place_in}
use Rattle.smtlib.specs.Numerals.{value_of}
use Rattle.table.specs.Folds.{every}
use Rattle.parser.specs.declared.words.Word.TheVariants.{Open, Close, Keyword, Operator, Literal, Width, Name, Other, End}
use Rattle.parser.specs.declared.words.Keyword.TheVariants.{DeclareConst, Assert, CheckSat, Underscore}
use Rattle.parser.specs.declared.words.SortName.TheVariants as sort_name
use Rattle.parser.specs.declared.states.State.{State}
use Rattle.parser.specs.Words.{among, symbol, private, marked, plain_of, word_of, ahead, word_from, token_at}
use Rattle.parser.specs.Names.{closing, index_from}
use Rattle.parser.specs.Expressions.{head_of, joined_to, closed_state, operands_by, expression_of}

-- each of some texts by a function
of : {A : Type 0} → (List ℕ → A) → List (List ℕ) → List A
of f [] = []
of f (w ∷ ws) = f w ∷ of f ws

keywords : of word_of (bytes "declare-const" ∷ bytes "assert" ∷ bytes "check-sat" ∷ bytes "_" ∷ []) ≡ Keyword DeclareConst ∷ Keyword Assert ∷ Keyword CheckSat ∷ Keyword Underscore ∷ []
unfolding of same_bytes place_in word_of
keywords = refl

operators : of word_of (bytes "not" ∷ bytes "bvadd" ∷ bytes "=>" ∷ bytes "store" ∷ []) ≡ Operator 2 ∷ Operator 11 ∷ Operator 5 ∷ Operator 16 ∷ []
unfolding of same_bytes place_in word_of
operators = refl

constants : of word_of (bytes "true" ∷ bytes "false" ∷ bytes "#b0" ∷ bytes "#b0101" ∷ []) ≡ Literal 0 1 ∷ Literal 0 0 ∷ Literal 1 0 ∷ Literal 4 5 ∷ []
unfolding of same_bytes place_in value_of every among symbol private plain_of word_of
constants = refl

-- 32 digits, and 33
longest : of word_of (bytes "#b11111111111111111111111111111111" ∷ bytes "#b111111111111111111111111111111111" ∷ []) ≡ Literal 32 4294967295 ∷ Other ∷ []
unfolding of same_bytes place_in value_of every among symbol private plain_of word_of
longest = refl

no_constants : of word_of (bytes "#b" ∷ bytes "#b2" ∷ bytes "#x1" ∷ []) ≡ Other ∷ Other ∷ Other ∷ []
unfolding of same_bytes place_in value_of every among symbol private plain_of word_of
no_constants = refl

widths : of word_of (bytes "1" ∷ bytes "32" ∷ bytes "33" ∷ bytes "08" ∷ bytes "0" ∷ bytes "100" ∷ []) ≡ Width 1 ∷ Width 32 ∷ Other ∷ Other ∷ Other ∷ Other ∷ []
unfolding of same_bytes place_in value_of every among symbol private plain_of word_of
widths = refl

names : of word_of (bytes "x0" ∷ bytes "a.b" ∷ bytes "xor" ∷ bytes "Bool" ∷ bytes "BitVec" ∷ bytes "Array" ∷ []) ≡ Name None ∷ Name None ∷ Name None ∷ Name (Some sort_name.Bool) ∷ Name (Some sort_name.BitVec) ∷ Name (Some sort_name.Array) ∷ []
unfolding of same_bytes place_in value_of every among symbol private plain_of word_of
names = refl

no_names : of word_of (bytes "|a|" ∷ bytes "@a" ∷ bytes ".a" ∷ bytes "2a" ∷ bytes "let" ∷ bytes "!" ∷ bytes "check-sat-assuming" ∷ []) ≡ Other ∷ Other ∷ Other ∷ Other ∷ Other ∷ Other ∷ Other ∷ []
unfolding of same_bytes place_in value_of every among symbol private plain_of word_of
no_names = refl

marks : of marked (bytes "x0" ∷ bytes "x01" ∷ bytes "x" ∷ bytes "x1a" ∷ bytes "X1" ∷ bytes "y0" ∷ []) ≡ true ∷ true ∷ false ∷ false ∷ false ∷ false ∷ []
unfolding of every marked
marks = refl

-- a space, "(assert", a tab, "x0)", a line feed
text : List ℕ
text = bytes " (assert\tx0)\n"

tokens : token_at text 0 ∷ token_at text 2 ∷ token_at text 8 ∷ token_at text 11 ∷ token_at text 12 ∷ []
    ≡ record { word = Open; from = 1; next = 2 } ∷ record { word = Keyword Assert; from = 2; next = 8 } ∷ record { word = Name None; from = 9; next = 11 }
    ∷ record { word = Close; from = 11; next = 12 } ∷ record { word = End; from = 13; next = 13 } ∷ []
unfolding text same_bytes place_in value_of every among symbol private plain_of word_of ahead word_from token_at
tokens = refl

-- byte 11 is no white space
unbroken : token_at (97 ∷ 11 ∷ 98 ∷ []) 0 ≡ record { word = Other; from = 0; next = 3 }
unfolding same_bytes place_in value_of every among symbol private plain_of word_of ahead word_from token_at
unbroken = refl

-- Expressions, after a declaration

-- an expression at byte 22, where a is declared; no table is looked at
read : List ℕ → State
read expression = (expression_of 64 (bytes "(declare-const a Bool)" ⧺ expression) 1 (record { at = 22; count = 1; root = 0; fault = None }) []).state

-- a name is its declaration's term; a constant and a list add their own
operands : of read (bytes "a" ∷ bytes "#b01" ∷ bytes "(not a)" ∷ bytes "(and a true)" ∷ [])
    ≡ record { at = 23; count = 1; root = 0; fault = None } ∷ record { at = 26; count = 2; root = 1; fault = None }
    ∷ record { at = 29; count = 2; root = 1; fault = None } ∷ record { at = 34; count = 3; root = 2; fault = None } ∷ []
unfolding of read same_bytes place_in value_of every among symbol private plain_of word_of ahead word_from token_at closing index_from head_of joined_to closed_state operands_by expression_of
operands = refl

-- at one word the lower number: an operand too many that is undeclared 32, no word 31, a list 34; too few at the parenthesis
refusals : of read (bytes "(not a zz)" ∷ bytes "(not a #x1)" ∷ bytes "(not a (zz))" ∷ bytes "(and a)" ∷ [])
    ≡ record { at = 29; count = 1; root = 0; fault = Some fault_kind.Undeclared } ∷ record { at = 29; count = 1; root = 0; fault = Some fault_kind.Unexpected }
    ∷ record { at = 29; count = 1; root = 0; fault = Some fault_kind.Miscounted } ∷ record { at = 28; count = 1; root = 0; fault = Some fault_kind.Miscounted } ∷ []
unfolding of read same_bytes place_in value_of every among symbol private plain_of word_of ahead word_from token_at closing index_from head_of joined_to closed_state operands_by expression_of
refusals = refl

-- a parenthesis where no level is left; as an operand too many too
depth : (expression_of 0 (bytes "(not a)") 0 (record { at = 0; count = 0; root = 0; fault = None }) []).state ∷ (expression_of 1 (bytes "(not true (") 0 (record { at = 0; count = 0; root = 0; fault = None }) []).state ∷ []
    ≡ record { at = 0; count = 0; root = 0; fault = Some fault_kind.TooDeep } ∷ record { at = 10; count = 1; root = 0; fault = Some fault_kind.TooDeep } ∷ []
unfolding same_bytes place_in value_of every among symbol private plain_of word_of ahead word_from token_at closing index_from head_of joined_to closed_state operands_by expression_of
depth = refl
