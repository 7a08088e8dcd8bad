-- Names by their lines, and where the values of names, of cells and of the allowance stand in a text.
-- Assumes nothing.
use Rattle.std.specs.Prelude.{Bool, true, false, cond, not, ◌&&◌, ◌||◌, List, [], ◌∷◌, ℕ, zero, suc, ◌+◌, ◌-◌, min, eqb, ltb, length, get_or, Option, Some, None, is_some}
use Rattle.smtlib.specs.Bytes.{bytes, part, same_bytes}
use Rattle.outline.specs.Lines.{line_end}
use Rattle.outline.specs.declared.scan.Span.{Span}
use Rattle.assignments.specs.declared.tokens.Kind.{Kind}
use Rattle.assignments.specs.declared.tokens.Kind.TheVariants.{Mark, Keep}
use Rattle.assignments.specs.declared.seek.Met.{Met}
use Rattle.assignments.specs.declared.seek.Met.TheVariants.{Nothing, Word, Both, Marking}
use Rattle.assignments.specs.Tokens.{tokens, word, kind_of, assigns, equals_kind, allowance_kind, decimal_from}

-- at most n lines from a place on
unfoldable pub lines_from : ℕ → List ℕ → ℕ → List (List ℕ)
lines_from zero names at = []
lines_from (suc n) names at =
    let end = line_end names at in
    let rest = lines_from n names (end + 1) in
    cond (ltb at (length names)) (part names at end ∷ rest) []

-- the names from a place on, and all: name k is line k
abbrev pub names_left : List ℕ → ℕ → List (List ℕ)
names_left names at = lines_from (length names) names at

abbrev pub names_of : List ℕ → List (List ℕ)
names_of names = names_left names 0

-- one more; 2^32 - 1 is the most that is counted, and no slot
abbrev pub more : ℕ → ℕ
more n = min (n + 1) 4294967295

abbrev pub slot_at : ℕ → Option ℕ
slot_at k = cond (ltb k 4294967295) (Some k) None

-- the number of the line that a name is, from k on
unfoldable pub slot_from : List (List ℕ) → List ℕ → ℕ → Option ℕ
slot_from [] w k = None
slot_from (x ∷ xs) w k =
    let rest = slot_from xs w (more k) in
    cond (same_bytes x w) (slot_at k) rest

-- the slot of a name; none where it is not declared
abbrev pub slot_of : List ℕ → List ℕ → Option ℕ
slot_of names w = slot_from (names_of names) w 0

-- what was met of a word and the equals sign after it; after mark or keep a word is the name that is marked
abbrev pub begins : Kind → Met
begins Mark = Marking
begins Keep = Marking
begins k = Nothing

abbrev pub met_word : List ℕ → List ℕ → Met
met_word sought w = cond (same_bytes w sought) Word (begins (kind_of w))

abbrev pub met_after : List ℕ → Met → List ℕ → Met
met_after sought Word w = cond (equals_kind (kind_of w)) Both (met_word sought w)
met_after sought Marking w = Nothing
met_after sought met w = met_word sought w

-- the word is a value: after both; or, where no equals sign is asked for, after the word, and neither = nor [
abbrev pub valued : Bool → Met → List ℕ → Bool
valued true Both w = true
valued false Word w = not (assigns (kind_of w))
valued equals met w = false

-- the place of value k after a word; the text's length where there is none
unfoldable pub place_from : List ℕ → List ℕ → Bool → ℕ → Met → List Span → ℕ
place_from text sought equals k met [] = length text
place_from text sought equals k met (t ∷ ts) =
    let v = valued equals met (word text t) in
    let rest = place_from text sought equals (cond v (k - 1) k) (met_after sought met (word text t)) ts in
    cond (v && eqb k 0) t.from rest

abbrev pub place_after : List ℕ → List ℕ → Bool → ℕ → ℕ
place_after text sought equals k = place_from text sought equals k Nothing (tokens text)

-- of name k, of cell k, of the allowance
abbrev pub value_place : List ℕ → List ℕ → ℕ → ℕ
value_place names text slot = place_after text (get_or (names_of names) slot []) true 0

abbrev pub cell_place : List ℕ → ℕ → ℕ
cell_place text k = place_after text (bytes "]") true k

abbrev pub allowance_place : List ℕ → ℕ
allowance_place text = place_after text (bytes "allowance") false 0

-- table, sheet, values, cells
abbrev pub heading : List ℕ → Bool
heading w = same_bytes w (bytes "table") || same_bytes w (bytes "sheet") || same_bytes w (bytes "values") || same_bytes w (bytes "cells")

-- allowance, or a decimal number
abbrev pub neutral : List ℕ → Bool
neutral w = allowance_kind (kind_of w) || is_some (decimal_from 0 w)

-- the first token that is not neutral is a heading, and neither = nor [ follows; found: it was the token before
unfoldable pub by_parts_from : List ℕ → Bool → List Span → Bool
by_parts_from text found [] = found
by_parts_from text found (t ∷ ts) =
    let w = word text t in
    let rest = by_parts_from text (not (neutral w)) ts in
    cond found (not (assigns (kind_of w))) (cond (neutral w || heading w) rest false)

abbrev pub by_parts : List ℕ → Bool
by_parts text = by_parts_from text false (tokens text)
