-- Where a byte stands: its line and column, and the first byte of a token.
-- Assumes nothing.
use Rattle.std.specs.Prelude.{Bool, true, false, cond, List, [], ◌∷◌, ℕ, zero, suc, ◌+◌, ◌-◌, eqb, ltb, take, get_or}
use Rattle.cases.specs.Bytes.{ends}

abbrev pub lower : ℕ → ℕ → ℕ
lower a b = cond (ltb a b) a b

-- the line feeds among bytes
abbrev pub feed : ℕ → ℕ
feed b = cond (eqb b 10) 1 0

unfoldable pub feeds : List ℕ → ℕ
feeds [] = 0
feeds (b ∷ bs) = feed b + feeds bs

-- the line of the byte at: 1 and the line feeds before it
abbrev pub line_at : List ℕ → ℕ → ℕ
line_at text at = 1 + feeds (take at text)

-- what stops the way back to a line's first byte, or to a token's
abbrev pub stops : Bool → ℕ → Bool
stops lines b = cond lines (eqb b 10) (ends b)

-- back from a place to the one after the last byte before it that stops; to 0 where none does
unfoldable pub back_to : Bool → List ℕ → ℕ → ℕ
back_to lines text zero = 0
back_to lines text (suc k) = cond (stops lines (get_or text k 0)) (suc k) (back_to lines text k)

abbrev pub line_start : List ℕ → ℕ → ℕ
line_start text at = back_to true text at

-- of the token that ends before the byte at
abbrev pub token_start : List ℕ → ℕ → ℕ
token_start text at = back_to false text at

-- the column of the byte at: 1 and the bytes of its line before it
abbrev pub column_at : List ℕ → ℕ → ℕ
column_at text at = 1 + (at - line_start text at)
