-- The words of a text: Req 02, "A word is one parenthesis or a longest run of bytes that are neither white space nor
-- parentheses". What each word is: a parenthesis, one of the language's own words, an operator, a constant, a width, a
-- name, or none of these.
-- Assumes nothing.
use Rattle.std.specs.Prelude.{◌≡◌, Bool, false, cond, not, ◌&&◌, ◌||◌, List, [], ◌∷◌, ℕ, zero, suc, ◌+◌, ◌-◌, ◌≤◌, ◌<◌, eqb, ltb, leb, length, take, drop, get_or, Option, Some, None}
use Rattle.smtlib.specs.Bytes.{bytes, part, same_bytes, place_in, is_in}
use Rattle.smtlib.specs.Numerals.{value_of}
use Rattle.smtlib.specs.Symbols.{operator_of}
use Rattle.table.specs.Folds.{every}
use Rattle.parser.specs.declared.words.Keyword.{Keyword as OwnWord}
use Rattle.parser.specs.declared.words.Keyword.TheVariants.{DeclareConst, Assert, CheckSat, Underscore}
use Rattle.parser.specs.declared.words.SortName.{SortName}
use Rattle.parser.specs.declared.words.SortName.TheVariants as sort_name
use Rattle.parser.specs.declared.words.Word.{Word}
use Rattle.parser.specs.declared.words.Word.TheVariants.{Open, Close, Keyword, Operator, Literal, Width, Name}
use Rattle.parser.specs.declared.words.Word.TheVariants.{Other, End}
use Rattle.parser.specs.declared.words.Token.{Token}
use Rattle.parser.specs.declared.words.Words.{Words}

-- Bytes

-- space, tab, line feed, carriage return
abbrev pub white : ℕ → Bool
white b = eqb b 32 || eqb b 9 || eqb b 10 || eqb b 13

-- neither white space nor a parenthesis
abbrev pub inside : ℕ → Bool
inside b = not (white b) && not (eqb b 40) && not (eqb b 41)

abbrev pub between : ℕ → ℕ → ℕ → Bool
between low high b = leb low b && leb b high

abbrev pub digit : ℕ → Bool
digit b = between 48 57 b

abbrev pub letter : ℕ → Bool
letter b = between 65 90 b || between 97 122 b

-- a byte is one of a text's
unfoldable pub among : List ℕ → ℕ → Bool
among [] b = false
among (x ∷ xs) b = eqb b x || among xs b

-- of a simple symbol: letters, digits and these
abbrev pub symbolic : ℕ → Bool
symbolic b = letter b || digit b || among (bytes "~!@$%^&*_-+=<>.?/") b

-- Words

-- the language's own words
abbrev pub keywords : List (List ℕ)
keywords = bytes "declare-const" ∷ bytes "assert" ∷ bytes "check-sat" ∷ bytes "_" ∷ []

-- each by its place among them
abbrev pub keyword_at : ℕ → OwnWord
keyword_at zero = DeclareConst
keyword_at (suc zero) = Assert
keyword_at (suc (suc zero)) = CheckSat
keyword_at (suc (suc (suc n))) = Underscore

abbrev pub keyword_number : OwnWord → ℕ
keyword_number DeclareConst = 0
keyword_number Assert = 1
keyword_number CheckSat = 2
keyword_number Underscore = 3

-- SMT-LIB's other reserved words
abbrev pub reserved : List (List ℕ)
reserved =
    bytes "!" ∷ bytes "as" ∷ bytes "BINARY" ∷ bytes "DECIMAL" ∷ bytes "exists" ∷ bytes "HEXADECIMAL" ∷ bytes "forall"
    ∷ bytes "let" ∷ bytes "match" ∷ bytes "NUMERAL" ∷ bytes "par" ∷ bytes "STRING" ∷ []

-- and its other commands
abbrev pub commands : List (List ℕ)
commands =
    bytes "check-sat-assuming" ∷ bytes "declare-datatype" ∷ bytes "declare-datatypes" ∷ bytes "declare-fun"
    ∷ bytes "declare-sort" ∷ bytes "define-fun" ∷ bytes "define-fun-rec" ∷ bytes "define-funs-rec"
    ∷ bytes "define-sort" ∷ bytes "echo" ∷ bytes "exit" ∷ bytes "get-assertions" ∷ bytes "get-assignment"
    ∷ bytes "get-info" ∷ bytes "get-model" ∷ bytes "get-option" ∷ bytes "get-proof" ∷ bytes "get-unsat-assumptions"
    ∷ bytes "get-unsat-core" ∷ bytes "get-value" ∷ bytes "pop" ∷ bytes "push" ∷ bytes "reset"
    ∷ bytes "reset-assertions" ∷ bytes "set-info" ∷ bytes "set-logic" ∷ bytes "set-option" ∷ []

-- a simple symbol: no digit first
unfoldable pub symbol : List ℕ → Bool
symbol [] = false
symbol (b ∷ bs) = not (digit b) && every symbolic (b ∷ bs)

-- with @ or . first it is reserved
unfoldable pub private : List ℕ → Bool
private [] = false
private (b ∷ bs) = eqb b 64 || eqb b 46

-- a simple symbol that is not reserved and no command
abbrev pub is_name : List ℕ → Bool
is_name w = symbol w && not (private w) && not (is_in reserved w) && not (is_in commands w)

-- #b and 1 to 32 binary digits
abbrev pub binary : List ℕ → Bool
binary w =
    same_bytes (take 2 w) (bytes "#b") && between 1 32 (length w - 2) && every (λ b. between 48 49 b) (drop 2 w)

-- 1 to 32 without leading zeros
abbrev pub width : List ℕ → Bool
width w = every digit w && between 1 2 (length w) && not (eqb (get_or w 0 0) 48) && leb (value_of 10 0 w) 32

abbrev pub keyword_of : List ℕ → Option OwnWord
keyword_of w = cond (is_in keywords w) (Some (keyword_at (place_in keywords w))) None

-- its value
abbrev pub decimal_width : List ℕ → Option ℕ
decimal_width w = cond (width w) (Some (value_of 10 0 w)) None

-- the names that are also sorts' words
abbrev pub sort_words : List (List ℕ)
sort_words = bytes "Bool" ∷ bytes "BitVec" ∷ bytes "Array" ∷ []

-- each by its place among them
abbrev pub sort_name_at : ℕ → SortName
sort_name_at zero = sort_name.Bool
sort_name_at (suc zero) = sort_name.BitVec
sort_name_at (suc (suc n)) = sort_name.Array

-- 1, 2, 3; other names 0
abbrev pub name_number : Option SortName → ℕ
name_number None = 0
name_number (Some sort_name.Bool) = 1
name_number (Some sort_name.BitVec) = 2
name_number (Some sort_name.Array) = 3

abbrev pub name_at : ℕ → Option SortName
name_at zero = None
name_at (suc k) = Some (sort_name_at k)

abbrev pub sort_named : List ℕ → Option SortName
sort_named w = cond (is_in sort_words w) (Some (sort_name_at (place_in sort_words w))) None

-- a name that is marked: x, then digits, at least one
unfoldable pub marked : List ℕ → Bool
marked [] = false
marked (b ∷ bs) = eqb b 120 && ltb 0 (length bs) && every digit bs

-- a constant in digits, a width, a name, or none of these
unfoldable pub plain_of : List ℕ → Word
plain_of w =
    cond (binary w) (Literal (length w - 2) (value_of 2 0 (drop 2 w)))
    (cond (width w) (Width (value_of 10 0 w))
    (cond (is_name w) (Name (sort_named w))
    Other))

-- what a run of bytes is
unfoldable pub word_of : List ℕ → Word
word_of w =
    cond (is_in keywords w) (Keyword (keyword_at (place_in keywords w)))
    (cond (ltb 0 (operator_of w)) (Operator (operator_of w))
    (cond (same_bytes w (bytes "true")) (Literal 0 1)
    (cond (same_bytes w (bytes "false")) (Literal 0 0)
    (plain_of w))))

-- The words of a text

-- how many bytes in front pass a test
unfoldable pub ahead : (ℕ → Bool) → List ℕ → ℕ
ahead test [] = 0
ahead test (b ∷ bs) =
    let rest = suc (ahead test bs) in
    cond (test b) rest 0

-- the first place from at on whose byte fails a test
abbrev pub past : (ℕ → Bool) → List ℕ → ℕ → ℕ
past test text at = at + ahead test (drop at text)

-- the word that begins at a place: a parenthesis, or a longest run of other bytes
unfoldable pub word_from : List ℕ → ℕ → Token
word_from text from =
    let b = get_or text from 0 in
    let end = past inside text from in
    cond (eqb b 40) (record { word = Open; from = from; next = from + 1 })
    (cond (eqb b 41) (record { word = Close; from = from; next = from + 1 })
    (record { word = word_of (part text from end); from = from; next = end }))

-- the word at a place, after white space; at the end its place is the text's length
unfoldable pub token_at : List ℕ → ℕ → Token
token_at text at =
    let from = past white text at in
    cond (ltb from (length text)) (word_from text from) (record { word = End; from = from; next = from })

abbrev pub words_of : Token → Token → Words
words_of first second = record { first = first; second = second }

-- the word at a place and the one after it
abbrev pub words_at : List ℕ → ℕ → Words
words_at text at = words_of (token_at text at) (token_at text (token_at text at).next)

-- A word other than the end takes a byte at least, and lies in the text; the end is at the text's end.
pub record Moves (text : List ℕ) (at : ℕ) : Type 0 where
  pub begins : at ≤ (token_at text at).from
  pub moves : (token_at text at).from < (token_at text at).next
  pub within : (token_at text at).next ≤ length text

abbrev pub WordsMove : Type 0
WordsMove = (text : List ℕ) (at : ℕ) → ((token_at text at).word ≡ End → ⊥) → Moves text at

abbrev pub EndAtEnd : Type 0
EndAtEnd =
    (text : List ℕ) (at : ℕ) → at ≤ length text → (token_at text at).word ≡ End
    → ((token_at text at).from ≡ length text) × ((token_at text at).next ≡ length text)
