-- What a sheet says of each slot, as the code keeps it by slot: 2 a line marks it, 1 a line keeps it and none marks it, 0 none names it.
-- Assumes nothing.
use Rattle.std.specs.Prelude.{◌≡◌, Bool, true, false, cond, List, ℕ, zero, suc, ◌<◌, eqb, ltb, length, get_or}
use Rattle.table.specs.declared.words.Term.{Term}
use Rattle.sheets.specs.declared.lines.Line.{Line}
use Rattle.sheets.specs.Marks.{own_marks, line_at, names, mark, keep}

-- the weight of a kind: mark is above keep
abbrev pub weight : ℕ → ℕ
weight kind = cond (eqb kind mark) 2 (cond (eqb kind keep) 1 0)

-- the higher of two
abbrev pub higher : ℕ → ℕ → ℕ
higher a b = cond (ltb a b) b a

-- what stands at a slot, after a line
abbrev pub over_by : ℕ → Line → ℕ → ℕ
over_by before line slot = cond (names line slot) (higher before (weight line.kind)) before

-- what stands there after the first k lines
unfoldable pub said_below : List ℕ → ℕ → ℕ → ℕ
said_below sheet zero slot = 0
said_below sheet (suc k) slot = over_by (said_below sheet k slot) (line_at sheet k) slot

-- a row that has it for each slot
pub record Said (sheet : List ℕ) (k : ℕ) (row : List ℕ) : Type 0 where
  pub size : length row ≡ 256
  pub is : (slot : ℕ) → slot < 256 → get_or row slot 0 ≡ said_below sheet k slot

-- a row after a line: each slot by what stood there
pub record Over (before row : List ℕ) (line : Line) : Type 0 where
  pub size : length row ≡ length before
  pub is : (slot : ℕ) → slot < 256 → get_or row slot 0 ≡ over_by (get_or before slot 0) line slot

-- whether a variable is marked, by what stands at its slot
abbrev pub mark_by : ℕ → Bool → Bool
mark_by said own = cond (eqb said 2) true (cond (eqb said 1) false own)

abbrev pub marks_by : List ℕ → Term → Bool
marks_by row x = cond (ltb x.p 256) (mark_by (get_or row x.p 0) (own_marks x)) (own_marks x)
