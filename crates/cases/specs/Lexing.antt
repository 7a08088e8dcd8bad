-- The tokens of a text. A line feed ends a comment, which a semicolon starts; white space and a semicolon end a token.
-- Assumes nothing.
use Rattle.std.specs.Prelude.{Bool, true, false, cond, ◌&&◌, ◌||◌, List, [], ◌∷◌, ℕ, ◌+◌, ◌-◌, ◌*◌, eqb, ltb, Option, Some, None}
use Rattle.cases.specs.declared.lexer.Lexer.{Lexer}
use Rattle.cases.specs.declared.lexer.Lexer.TheVariants.{Blank, Comment, Digits, Word}
use Rattle.cases.specs.declared.lexer.Token.{Token}
use Rattle.cases.specs.declared.lexer.Token.TheVariants.{Number, Heading, Unknown, TooLarge}
use Rattle.cases.specs.declared.part.Part.TheVariants.{Table, Values, Cells, Allowance, Sheet}
use Rattle.cases.specs.Bytes.{white, ends, digit, letter}

-- a number with one digit more; at 2^32 (4294967296) or more it stays
abbrev pub next_value : ℕ → ℕ → ℕ
next_value value b = cond (digit b && ltb value 4294967296) (value * 10 + (b - 48)) value

-- a word with one letter more, a 1 to z 26: up to twelve lower-case letters it is a number of its own in base 32, and every other
-- word is 2^60
abbrev pub next_word : ℕ → ℕ → ℕ
next_word word b = cond (letter b && ltb word 36028797018963968) (word * 32 + (b - 96)) 1152921504606846976

-- a token's first byte
abbrev pub begun : ℕ → Lexer
begun b = cond (digit b) (Digits (next_value 0 b)) (Word (next_word 0 b))

-- a token with one byte more; digits and another byte are a word that is no heading
abbrev pub inside : Lexer → ℕ → Lexer
inside Blank b = begun b
inside Comment b = begun b
inside (Digits value) b = cond (digit b) (Digits (next_value value b)) (Word 1152921504606846976)
inside (Word word) b = Word (next_word word b)

abbrev pub in_comment : Lexer → Bool
in_comment Blank = false
in_comment Comment = true
in_comment (Digits value) = false
in_comment (Word word) = false

-- after one byte more
abbrev pub lexed : Lexer → ℕ → Lexer
lexed l b =
    cond (eqb b 10) Blank
    (cond (in_comment l || eqb b 59) Comment
    (cond (white b) Blank
    (inside l b)))

-- the number of a word, from its letters
abbrev pub spelt : ℕ → List ℕ → ℕ
spelt word [] = word
spelt word (b ∷ bs) = spelt (next_word word b) bs

-- the words table, values, cells, allowance, sheet
abbrev pub table_word : ℕ
table_word = spelt 0 (116 ∷ 97 ∷ 98 ∷ 108 ∷ 101 ∷ [])

abbrev pub values_word : ℕ
values_word = spelt 0 (118 ∷ 97 ∷ 108 ∷ 117 ∷ 101 ∷ 115 ∷ [])

abbrev pub cells_word : ℕ
cells_word = spelt 0 (99 ∷ 101 ∷ 108 ∷ 108 ∷ 115 ∷ [])

abbrev pub allowance_word : ℕ
allowance_word = spelt 0 (97 ∷ 108 ∷ 108 ∷ 111 ∷ 119 ∷ 97 ∷ 110 ∷ 99 ∷ 101 ∷ [])

abbrev pub sheet_word : ℕ
sheet_word = spelt 0 (115 ∷ 104 ∷ 101 ∷ 101 ∷ 116 ∷ [])

abbrev pub heading : ℕ → Token
heading word =
    cond (eqb word table_word) (Heading Table)
    (cond (eqb word values_word) (Heading Values)
    (cond (eqb word cells_word) (Heading Cells)
    (cond (eqb word allowance_word) (Heading Allowance)
    (cond (eqb word sheet_word) (Heading Sheet)
    Unknown))))

abbrev pub number_of : ℕ → Token
number_of value = cond (ltb value 4294967296) (Number value) TooLarge

-- the token whose bytes were read, if one was begun
abbrev pub classified : Lexer → Option Token
classified Blank = None
classified Comment = None
classified (Digits value) = Some (number_of value)
classified (Word word) = Some (heading word)

-- the token that a byte ends, and that the end of a whole text does
abbrev pub token_at : Lexer → ℕ → Option Token
token_at l b = cond (ends b) (classified l) None

abbrev pub token_at_end : Lexer → Bool → Option Token
token_at_end l whole = cond whole (classified l) None

-- what ends at each byte of a text and at its end
unfoldable pub lex : Bool → Lexer → List ℕ → List (Option Token)
lex whole l [] = token_at_end l whole ∷ []
lex whole l (b ∷ bs) = token_at l b ∷ lex whole (lexed l b) bs
