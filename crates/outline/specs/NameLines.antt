-- The declared names, a line each.
-- Assumes nothing.
use Rattle.std.specs.Prelude.{cond, List, [], ◌∷◌, ◌++◌, ℕ, zero, suc, ◌-◌, leb, length}
use Rattle.smtlib.specs.Bytes.{part}
use Rattle.outline.specs.Spans.{span_of}

-- name k and a line feed: the name is term k as it was typed
abbrev pub name_line : List ℕ → ℕ → List ℕ
name_line text k = part text (span_of text k).from (span_of text k).to ++ (10 ∷ [])

-- the lines of n names from k on, as many as fit wholly into so many bytes
unfoldable pub lines_from : List ℕ → ℕ → ℕ → ℕ → List ℕ
lines_from text k zero room = []
lines_from text k (suc n) room =
    let line = name_line text k in
    let rest = lines_from text (suc k) n (room - length line) in
    cond (leb (length line) room) (line ++ rest) []

abbrev pub names_in : List ℕ → ℕ → ℕ → List ℕ
names_in text names room = lines_from text 0 names room
