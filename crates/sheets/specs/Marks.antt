-- Which inputs are marked: a table's own marks, and those that hold under a mark sheet (paper 02, request 06).
-- Assumes nothing.
use Rattle.std.specs.Prelude.{◌≡◌, Bool, true, false, cond, ◌&&◌, List, ℕ, ◌+◌, ◌*◌, ◌/◌, ◌<◌, eqb, leb, length, get_or}
use Rattle.table.specs.declared.words.Term.{Term}
use Rattle.table.specs.Terms.{terms, term_at}
use Rattle.table.specs.Faults.{is_variable}
use Rattle.table.specs.Folds.{any_below}
use Rattle.sheets.specs.declared.lines.Line.{Line}

-- the marks of a table's own variables
abbrev pub own_marks : Term → Bool
own_marks x = eqb x.q 1

-- a sheet is a row of lines of three numbers: mark 1 or keep 0, lowest slot, highest slot; the count of its whole lines
abbrev pub line_at : List ℕ → ℕ → Line
line_at sheet k = record { kind = get_or sheet (k * 3) 0; lowest = get_or sheet (k * 3 + 1) 0; highest = get_or sheet (k * 3 + 2) 0 }

abbrev pub line_count : List ℕ → ℕ
line_count sheet = length sheet / 3

-- a line names the slots from its lowest to its highest
abbrev pub names : Line → ℕ → Bool
names line slot = leb line.lowest slot && leb slot line.highest

abbrev pub keep : ℕ
keep = 0

abbrev pub mark : ℕ
mark = 1

-- a line of a kind names the slot
abbrev pub speaks : ℕ → ℕ → Line → Bool
speaks kind slot line = eqb line.kind kind && names line slot

-- one of the sheet's lines does
abbrev pub says : List ℕ → ℕ → ℕ → Bool
says sheet kind slot = any_below (line_count sheet) (λ k. speaks kind slot (line_at sheet k))

-- a slot in any mark line is marked; in keep lines only, unmarked; in none, as the table says
abbrev pub marks_under : List ℕ → Term → Bool
marks_under sheet x = cond (says sheet mark x.p) true (cond (says sheet keep x.p) false (own_marks x))

-- a sheet that leaves the marks of a table's variables as they are
abbrev pub LeavesMarks : List ℕ → List ℕ → Type 0
LeavesMarks w sheet = (k : ℕ) → k < terms w → is_variable (term_at w k) ≡ true → marks_under sheet (term_at w k) ≡ own_marks (term_at w k)
