-- Names that are declared: the name of each declaration at the front of a text, and the place of a word among them.
-- Assumes nothing.
use Rattle.std.specs.Prelude.{Bool, cond, ◌&&◌, List, [], ◌∷◌, ℕ, zero, suc, ◌+◌, ◌-◌, eqb, ltb, drop}
use Rattle.smtlib.specs.Bytes.{same_bytes, part}
use Rattle.parser.specs.Words.{white, inside, past}

-- the third word of what begins at a place is a declaration's name: its first byte, and the place after it
abbrev pub name_from : List ℕ → ℕ → ℕ
name_from text at = past white text (past inside text (past white text (past white text at + 1)))

abbrev pub name_to : List ℕ → ℕ → ℕ
name_to text at = past inside text (name_from text at)

-- how many parentheses are open after a byte
abbrev pub depth_after : ℕ → ℕ → ℕ
depth_after depth b = cond (eqb b 40) (depth + 1) (cond (eqb b 41) (depth - 1) depth)

-- how many bytes there are up to the parenthesis that closes, so many being open, and itself
unfoldable pub closing : ℕ → List ℕ → ℕ
closing depth [] = 0
closing depth (b ∷ bs) =
    let further = suc (closing (depth_after depth b) bs) in
    cond (eqb b 41 && eqb depth 1) 1 further

-- the place after a declaration
abbrev pub declaration_end : List ℕ → ℕ → ℕ
declaration_end text at = name_to text at + closing 1 (drop (name_to text at) text)

-- the place of a word among the names of left declarations, the first of which begins at a place; left where it is none of them
unfoldable pub index_from : ℕ → List ℕ → ℕ → List ℕ → ℕ
index_from zero text at w = 0
index_from (suc left) text at w =
    let rest = suc (index_from left text (declaration_end text at) w) in
    cond (same_bytes (part text (name_from text at) (name_to text at)) w) 0 rest

-- among the first names of a text
abbrev pub index_of : List ℕ → ℕ → List ℕ → ℕ
index_of text names w = index_from names text 0 w

abbrev pub declared : List ℕ → ℕ → List ℕ → Bool
declared text names w = ltb (index_of text names w) names
