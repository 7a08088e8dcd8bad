-- On which lines the words and numbers of a part stand.
-- Assumes nothing.
use Rattle.std.specs.Prelude.{Bool, true, false, cond, not, ◌&&◌, List, [], ◌∷◌, ℕ, ◌+◌, ◌%◌, ◌≤◌, eqb, slice_get, ⊤, Option, Some, None}
use Rattle.cases.specs.declared.part.Part.{Part}
use Rattle.cases.specs.declared.lexer.Lexer.TheVariants.{Blank}
use Rattle.cases.specs.declared.lexer.Token.{Token}
use Rattle.cases.specs.declared.lexer.Token.TheVariants.{Number, Heading, Unknown, TooLarge}
use Rattle.cases.specs.declared.lines.OddLine.{OddLine}
use Rattle.cases.specs.Parts.{number, number_or_none}
use Rattle.cases.specs.Places.{feed}
use Rattle.cases.specs.Lexing.{lex}
use Rattle.cases.specs.Reading.{seen, wholly}

-- the part that is being read after a token; none before any heading
abbrev pub part_after : Option Part → Option Token → Option Part
part_after now None = now
part_after now (Some (Number n)) = now
part_after now (Some (Heading part)) = Some part
part_after now (Some Unknown) = now
part_after now (Some TooLarge) = now

-- a part's heading; or a number while the part is being read; by the part's number, which is 0 before any heading
abbrev pub belongs : Bool → ℕ → Option Part → Option Token → Bool
belongs heading part now None = false
belongs heading part now (Some (Number n)) = not heading && eqb (number_or_none now) part
belongs heading part now (Some (Heading begun)) = heading && eqb (number begun) part
belongs heading part now (Some Unknown) = false
belongs heading part now (Some TooLarge) = false

-- the lines of a part's headings, or of its numbers, in order: text is what is left from a byte on, line and part are those at this
-- byte, and the first token ends here
unfoldable pub lines_from : Bool → ℕ → Option Part → ℕ → List ℕ → List (Option Token) → List ℕ
lines_from heading part now line text [] = []
lines_from heading part now line [] (token ∷ tokens) = cond (belongs heading part now token) (line ∷ []) []
lines_from heading part now line (b ∷ bs) (token ∷ tokens) =
    let later = lines_from heading part (part_after now token) (line + feed b) bs tokens in
    cond (belongs heading part now token) (line ∷ later) later

abbrev pub lines_within : Bool → ℕ → List ℕ → Bool → List ℕ
lines_within heading part text whole = lines_from heading part None 1 text (lex whole Blank text)

-- of a text
abbrev pub lines_of : Bool → ℕ → List ℕ → List ℕ
lines_of heading part text = lines_within heading part (seen text) (wholly text)

-- the line of number k of a part, and that of the word that begins it
abbrev pub number_line : List ℕ → ℕ → ℕ → Option ℕ
number_line text part k = slice_get (lines_of false part text) k

abbrev pub heading_line : List ℕ → ℕ → Option ℕ
heading_line text part = slice_get (lines_of true part text) 0

-- a count is no multiple of six
abbrev pub uneven : OddLine → Bool
uneven last = not (eqb (last.count % 6) 0)

-- a line that stands in a list after the last one, which was counted: it is another, and the count of the last is no multiple of six; it
-- is counted
abbrev pub odd : Option OddLine → ℕ → Bool
odd None line = false
odd (Some last) line = not (eqb line last.line) && uneven last

abbrev pub counted : Option OddLine → ℕ → Option OddLine
counted None line = Some (record { line = line; count = 1 })
counted (Some last) line = Some (record { line = line; count = cond (eqb line last.line) (last.count + 1) 1 })

abbrev pub closed : Option OddLine → Option OddLine
closed None = None
closed (Some last) = cond (uneven last) (Some last) None

-- at most n were counted
abbrev pub few : Option OddLine → ℕ → Type 0
few None n = ⊤
few (Some last) n = last.count ≤ n

-- of lines in order, the first that stands there a number of times that is no multiple of six, and how often; the last was counted
-- before
unfoldable pub odd_after : Option OddLine → List ℕ → Option OddLine
odd_after last [] = closed last
odd_after last (line ∷ lines) =
    let later = odd_after (counted last line) lines in
    cond (odd last line) last later

-- the first line of the table whose count of numbers is no multiple of six
abbrev pub odd_line : List ℕ → Option OddLine
odd_line text = odd_after None (lines_of false 1 text)
