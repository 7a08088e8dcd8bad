-- What holds of every text.
-- Assumes nothing.
use Rattle.std.specs.Prelude.{◌≡◌, false, List, ℕ, ◌+◌, ◌-◌, ◌≤◌, length, Some, Ok, Err}
use Rattle.cases.specs.declared.error.ErrorKind.TheVariants.{RoomFull}
use Rattle.cases.specs.declared.error.ParseError.{ParseError}
use Rattle.cases.specs.declared.Case.{Case}
use Rattle.cases.specs.Parsing.{table_limit, others_limit, size}
use Rattle.cases.specs.Lines.{lines_of}
use Rattle.cases.specs.Reading.{parsing, numbers_of, Placed}

-- the room has the text's numbers, which the case counts, the parts are among them, and both limits are kept
pub record Held (text : List ℕ) (room : ℕ) (c : Case) : Type 0 where
  pub held : length (numbers_of text) ≤ room
  pub count : c.count ≡ length (numbers_of text)
  pub placed : Placed c (length (numbers_of text))
  pub table : size (Some c.table) ≤ table_limit
  pub others : c.count - size (Some c.table) ≤ others_limit

-- it is so where a text is read
abbrev pub RunsInside : Type 0
RunsInside = (text : List ℕ) (room : ℕ) (c : Case) → parsing text room ≡ Ok c → Held text room c

-- a room for as many numbers as the limits let through is never too short: there is no fault 6
abbrev pub NeverShort : Type 0
NeverShort = (text : List ℕ) (room : ℕ) → table_limit + others_limit ≤ room → (e : ParseError) → parsing text room ≡ Err e → e.kind ≡ RoomFull → ⊥

-- each number of the table that was read has a line
abbrev pub TableLines : Type 0
TableLines = (text : List ℕ) (room : ℕ) (c : Case) → parsing text room ≡ Ok c → length (lines_of false 1 text) ≡ size (Some c.table)
