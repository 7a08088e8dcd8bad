-- Lines and columns of a text, and whether it is a typed rule.
-- Assumes nothing.
use Rattle.std.specs.Prelude.{Bool, true, false, cond, not, ◌||◌, List, [], ◌∷◌, ℕ, min, eqb, take}
use Rattle.cases.specs.Bytes.{white}
use Rattle.cases.specs.Places.{line_at, column_at}
use Rattle.cases.specs.Reading.{byte_limit}
use Rattle.parser.specs.Words.{past}
use Rattle.outline.specs.declared.lines.Stand.{Stand}
use Rattle.outline.specs.declared.lines.Stand.TheVariants.{Begin, Inside, Note}

-- the line of a place, and its column, both from 1; of a text and a place within the limit on bytes
abbrev pub line_of : List ℕ → ℕ → ℕ
line_of text place = line_at (take byte_limit text) place

abbrev pub column_of : List ℕ → ℕ → ℕ
column_of text place = column_at text (min place byte_limit)

abbrev pub unfed : ℕ → Bool
unfed b = not (eqb b 10)

-- the line feed that ends the line of a place; the end where there is none
abbrev pub line_end : List ℕ → ℕ → ℕ
line_end text place = past unfed text place

-- where a byte stands in its line: at the begin, after a byte, or in a line that begins with a semicolon

-- the byte is in a line that begins with a semicolon
abbrev pub noted : Stand → ℕ → Bool
noted Begin b = eqb b 59
noted Inside b = false
noted Note b = true

abbrev pub line_after : Stand → ℕ → Stand
line_after s b = cond (eqb b 10) Begin (cond (noted s b) Note Inside)

-- the first byte that is neither white space nor in such a line is a parenthesis
unfoldable pub rule_from : Stand → List ℕ → Bool
rule_from s [] = false
rule_from s (b ∷ bs) =
    let rest = rule_from (line_after s b) bs in
    cond (white b || noted s b) rest (eqb b 40)

abbrev pub is_rule : List ℕ → Bool
is_rule text = rule_from Begin text
