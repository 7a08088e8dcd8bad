-- Texts, worked out from the definitions.
-- Assumes nothing.
use mathlib.Core.Path.{◌≡◌, refl}
use mathlib.Core.Bool.{false}
use mathlib.Core.List.{List, [], ◌∷◌}
use Prim.Native.Nat.{ℕ}
use Rattle.std.specs.Prelude.{Some, None, Ok, Err}
use Rattle.cases.specs.declared.error.ErrorKind.TheVariants.{UnknownWord, PartGivenTwice, ByteOrderMark}
use Rattle.cases.specs.Lexing.{lex}
use Rattle.cases.specs.Parsing.{parse}
use Rattle.cases.specs.Places.{feeds, back_to}
use Rattle.cases.specs.Numbers.{numbers_in}
use Rattle.cases.specs.Lines.{lines_from, lines_of, heading_line, odd_after, odd_line}
use Rattle.cases.specs.Reading.{parsing, numbers_of}

-- `; a`, `allowance 7;`, `cells 1 2 3`, `values table 4`, each on a line
given : List ℕ
given = (59 ∷ 32 ∷ 97 ∷ 10 ∷ 97 ∷ 108 ∷ 108 ∷ 111 ∷ 119 ∷ 97 ∷ 110 ∷ 99 ∷ 101 ∷ 32 ∷ 55 ∷ 59 ∷ 10 ∷ 99 ∷ 101 ∷ 108 ∷ 108 ∷ 115 ∷ 32 ∷ 49 ∷ 32 ∷ 50 ∷ 32 ∷ 51 ∷ 10 ∷ 118 ∷ 97 ∷ 108 ∷ 117 ∷ 101 ∷ 115 ∷ 32 ∷ 116 ∷ 97 ∷ 98 ∷ 108 ∷ 101 ∷ 32 ∷ 52 ∷ [])

given_parsed : parsing given 9 ≡ Ok (record { table = record { from = 4; to = 5 }; values = record { from = 4; to = 4 }; cells = record { from = 1; to = 4 }; sheet = None; allowance = 0; count = 5 })
unfolding given lex numbers_in parse feeds back_to
given_parsed = refl

given_numbers : numbers_of given ≡ 7 ∷ 1 ∷ 2 ∷ 3 ∷ 4 ∷ []
unfolding given lex numbers_in
given_numbers = refl

-- `table 1`, `table`
twice : List ℕ
twice = (116 ∷ 97 ∷ 98 ∷ 108 ∷ 101 ∷ 32 ∷ 49 ∷ 10 ∷ 116 ∷ 97 ∷ 98 ∷ 108 ∷ 101 ∷ [])

twice_not_parsed : parsing twice 9 ≡ Err (record { kind = PartGivenTwice; line = 2; column = Some 1; from = 8; to = 13 })
unfolding twice lex parse feeds back_to
twice_not_parsed = refl

-- `table`, `sheet 1 0`, `values cells allowance 6`, each on a line: the sheet's numbers, the last line of which is cut, and their lines
marks : List ℕ
marks = (116 ∷ 97 ∷ 98 ∷ 108 ∷ 101 ∷ 10 ∷ 115 ∷ 104 ∷ 101 ∷ 101 ∷ 116 ∷ 32 ∷ 49 ∷ 32 ∷ 48 ∷ 10 ∷ 118 ∷ 97 ∷ 108 ∷ 117 ∷ 101 ∷ 115 ∷ 32 ∷ 99 ∷ 101 ∷ 108 ∷ 108 ∷ 115 ∷ 32 ∷ 97 ∷ 108 ∷ 108 ∷ 111 ∷ 119 ∷ 97 ∷ 110 ∷ 99 ∷ 101 ∷ 32 ∷ 54 ∷ [])

marks_parsed : parsing marks 9 ≡ Ok (record { table = record { from = 0; to = 0 }; values = record { from = 2; to = 2 }; cells = record { from = 2; to = 2 }; sheet = Some (record { from = 0; to = 2 }); allowance = 2; count = 3 })
unfolding marks lex numbers_in parse feeds back_to
marks_parsed = refl

marks_lines : lines_of false 5 marks ≡ 2 ∷ 2 ∷ []
unfolding marks lex lines_from
marks_lines = refl

-- `sheet sheet`
sheet_twice : parsing (115 ∷ 104 ∷ 101 ∷ 101 ∷ 116 ∷ 32 ∷ 115 ∷ 104 ∷ 101 ∷ 101 ∷ 116 ∷ []) 9 ≡ Err (record { kind = PartGivenTwice; line = 1; column = Some 7; from = 6; to = 11 })
unfolding lex parse feeds back_to
sheet_twice = refl

-- a byte-order mark before `table`; and a space and an `x` on the second line
mark-told : parsing (239 ∷ 187 ∷ 191 ∷ 116 ∷ 97 ∷ 98 ∷ 108 ∷ 101 ∷ 10 ∷ []) 9 ≡ Err (record { kind = ByteOrderMark; line = 1; column = Some 1; from = 0; to = 8 })
unfolding lex parse feeds back_to
mark-told = refl

column_told : parsing (10 ∷ 32 ∷ 120 ∷ 59 ∷ 10 ∷ []) 9 ≡ Err (record { kind = UnknownWord; line = 2; column = Some 2; from = 2; to = 3 })
unfolding lex parse feeds back_to
column_told = refl

-- the lines of the numbers of the cells; that of the word of the table
cells_lines : lines_of false 3 given ≡ 3 ∷ 3 ∷ 3 ∷ []
unfolding given lex lines_from
cells_lines = refl

table_word_lem : heading_line given 1 ≡ Some 4
unfolding given lex lines_from
table_word_lem = refl

-- `table 1 2 3 4 5 6`, `7 ; 8`, `9`
odd-told : odd_line (116 ∷ 97 ∷ 98 ∷ 108 ∷ 101 ∷ 32 ∷ 49 ∷ 32 ∷ 50 ∷ 32 ∷ 51 ∷ 32 ∷ 52 ∷ 32 ∷ 53 ∷ 32 ∷ 54 ∷ 10 ∷ 55 ∷ 32 ∷ 59 ∷ 32 ∷ 56 ∷ 10 ∷ 57 ∷ []) ≡ Some (record { line = 2; count = 1 })
unfolding lex lines_from odd_after
odd-told = refl
