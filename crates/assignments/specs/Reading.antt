-- What reading a setting answers, and what it leaves in the rooms.
-- Assumes nothing.
use Rattle.std.specs.Prelude.{Bool, true, false, cond, List, ℕ, zero, suc, ◌+◌, ◌-◌, ◌*◌, ltb, length, set, Option, Some, None, unwrap_or, Result, Ok, Err}
use Rattle.outline.specs.declared.scan.Span.{Span}
use Rattle.outline.specs.Lines.{line_of, column_of}
use Rattle.assignments.specs.declared.state.Expects.{Expects}
use Rattle.assignments.specs.declared.state.Expects.TheVariants.{Statement}
use Rattle.assignments.specs.declared.state.State.{State}
use Rattle.assignments.specs.declared.state.Failure.{Failure}
use Rattle.assignments.specs.declared.Setting.{Setting}
use Rattle.assignments.specs.declared.Error.{Error}
use Rattle.assignments.specs.declared.Fault.{Fault}
use Rattle.assignments.specs.declared.Fault.TheVariants.{NotDeclared, GivenTwice, CellGivenTwice, EqualsOrBracketExpected, ValueExpected, NumberTooLarge, NoArray, BracketExpected}
use Rattle.assignments.specs.declared.Fault.TheVariants.{AllowanceGivenTwice, IndexExpected, ValueMissing, CellsFull, StatementUnfinished, SheetFull}
use Rattle.assignments.specs.declared.tokens.Number.{Number}
use Rattle.assignments.specs.Tokens.{tokens, token_at, word, number_of, value_of as number_value}
use Rattle.assignments.specs.Seeking.{value_place}
use Rattle.assignments.specs.Statements.{start, run, Work}

-- the faults by their numbers
abbrev pub fault_number : Fault → ℕ
fault_number NotDeclared = 1
fault_number GivenTwice = 2
fault_number CellGivenTwice = 3
fault_number EqualsOrBracketExpected = 4
fault_number ValueExpected = 5
fault_number NumberTooLarge = 6
fault_number NoArray = 7
fault_number BracketExpected = 8
fault_number AllowanceGivenTwice = 9
fault_number IndexExpected = 10
fault_number ValueMissing = 11
fault_number CellsFull = 12
fault_number StatementUnfinished = 13
fault_number SheetFull = 14

-- at most 2^32 - 1
abbrev pub capped : ℕ → ℕ
capped n = cond (ltb n 4294967295) n 4294967295

-- the count of names: their line feeds
abbrev pub name_count : List ℕ → ℕ
name_count names = capped (line_of names (length names) - 1)

-- the first of n names from k on that has no value
unfoldable pub missing_from : List ℕ → List ℕ → ℕ → ℕ → Option ℕ
missing_from names text zero k = None
missing_from names text (suc n) k =
    let rest = missing_from names text n (k + 1) in
    cond (ltb (value_place names text k) (length text)) rest (Some k)

abbrev pub missing : List ℕ → List ℕ → Option ℕ
missing names text = missing_from names text (name_count names) 0

-- the value of a name
abbrev pub value_if : Option Number → ℕ
value_if (Some n) = number_value n
value_if None = 0

abbrev pub value_of : List ℕ → List ℕ → ℕ → ℕ
value_of names text slot = value_if (number_of (word text (token_at text (value_place names text slot))))

-- the room with the values of the names below n, each at its slot
unfoldable pub values_in : List ℕ → List ℕ → ℕ → List ℕ → List ℕ
values_in names text zero room = room
values_in names text (suc n) room = set (values_in names text n room) n (value_of names text n)

-- a fault at a token: its line and column, from 1; at the end there is no token, and no column
abbrev pub error_at : List ℕ → Fault → Span → Error
error_at text fault t = record { kind = fault; line = line_of text t.from; column = Some (column_of text t.from); from = t.from; to = t.to }

abbrev pub error_at_end : List ℕ → Fault → ℕ → Error
error_at_end text fault place = record { kind = fault; line = line_of text (length text); column = None; from = place; to = place }

-- allowance is 8192 where none is given
abbrev pub setting_of : ℕ → State → Setting
setting_of count s = record { values = count; cells = capped (3 * s.cells); sheet = capped (3 * s.lines); allowance = unwrap_or s.allowance 8192 }

-- the first fault; the text ends in a statement; a name has no value: from and to are its slot
abbrev pub between_statements : Expects → Bool
between_statements Statement = true
between_statements e = false

abbrev pub unless_missing : List ℕ → List ℕ → State → Option ℕ → Result Setting Error
unless_missing names text s (Some slot) = Err (error_at_end text ValueMissing slot)
unless_missing names text s None = Ok (setting_of (name_count names) s)

abbrev pub answer : List ℕ → List ℕ → Result State Failure → Result Setting Error
answer names text (Ok s) =
    cond (between_statements s.expects) (unless_missing names text s (missing names text))
    (Err (error_at_end text StatementUnfinished (length text)))
answer names text (Err f) = Err (error_at text f.fault f.token)

abbrev pub worked : List ℕ → List ℕ → List ℕ → List ℕ → List ℕ → Work
worked names table text cells sheet = run names table text start cells sheet (tokens text)

abbrev pub reading : List ℕ → List ℕ → List ℕ → List ℕ → List ℕ → Result Setting Error
reading names table text cells sheet = answer names text (worked names table text cells sheet).state

-- how many values are written: none after a fault
abbrev pub given_by : Result Setting Error → ℕ
given_by (Ok s) = s.values
given_by (Err e) = 0

-- the values where the setting is read; after a fault they are as they were
abbrev pub values_after : Result Setting Error → List ℕ → List ℕ → List ℕ → List ℕ
values_after r names text room = values_in names text (given_by r) room
