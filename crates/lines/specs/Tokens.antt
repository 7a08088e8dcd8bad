-- The tokens of a line, byte by byte.
-- Assumes nothing.
use Rattle.std.specs.Prelude.{Bool, cond, ◌&&◌, ℕ, ◌+◌, ◌-◌, ◌*◌, leb, ltb}
use Prim.Native.String as S
use Prim.Native.String.{String}
use Prim.Native.Char.{code}
use Rattle.lines.specs.declared.tokens.Token.{Token}
use Rattle.lines.specs.declared.tokens.Token.TheVariants.{Nothing, Number, Word, Unknown}

abbrev pub digit : ℕ → Bool
digit b = leb 48 b && leb b 57

-- a lower-case letter, _ or `
abbrev pub letter : ℕ → Bool
letter b = leb 95 b && leb b 122

-- a number with one digit more, where it was below 2^32
abbrev pub with_digit : ℕ → ℕ → Token
with_digit value b = cond (digit b && ltb value 4294967296) (Number (value * 10 + (b - 48))) Unknown

-- a word with one letter more, where it was below 2^55: up to twelve letters are a number of their own in base 32
abbrev pub with_letter : ℕ → ℕ → Token
with_letter word b = cond (letter b && ltb word 36028797018963968) (Word (word * 32 + (b - 94))) Unknown

abbrev pub begun : ℕ → Token
begun b = cond (digit b) (with_digit 0 b) (with_letter 0 b)

abbrev pub with_byte : Token → ℕ → Token
with_byte Nothing b = begun b
with_byte (Number value) b = with_digit value b
with_byte (Word word) b = with_letter word b
with_byte Unknown b = Unknown

-- a word's number, after the letters before
abbrev pub spelt_on : ℕ → String → ℕ
spelt_on word S.[] = word
spelt_on word (S.◌∷◌ c s) = spelt_on (word * 32 + (code c - 94)) s

abbrev pub spelt : String → ℕ
spelt s = spelt_on 0 s
