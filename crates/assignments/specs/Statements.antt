-- The statements of a setting, token by token. The first fault ends them.
-- Assumes nothing.
use Rattle.std.specs.Prelude.{Bool, true, false, cond, ◌&&◌, ◌||◌, List, [], ◌∷◌, ℕ, zero, suc, ◌+◌, ◌*◌, ◌/◌, eqb, ltb, leb, length, get_or, set, Option, Some, None, Result, Ok, Err}
use Rattle.table.specs.Terms.{array, sort_at}
use Rattle.outline.specs.declared.scan.Span.{Span}
use Rattle.assignments.specs.declared.Fault.{Fault}
use Rattle.assignments.specs.declared.Fault.TheVariants.{NotDeclared, GivenTwice, CellGivenTwice, EqualsOrBracketExpected, ValueExpected, NumberTooLarge, NoArray, BracketExpected}
use Rattle.assignments.specs.declared.Fault.TheVariants.{AllowanceGivenTwice, IndexExpected, CellsFull, SheetFull}
use Rattle.assignments.specs.declared.tokens.Kind.{Kind}
use Rattle.assignments.specs.declared.tokens.Kind.TheVariants.{Equals, Open, Close, Allowance, Mark, Keep}
use Rattle.assignments.specs.declared.tokens.Number.{Number}
use Rattle.assignments.specs.declared.tokens.Number.TheVariants.{Decimal, Binary, TooLarge}
use Rattle.assignments.specs.declared.state.Cell.{Cell}
use Rattle.assignments.specs.declared.state.Expects.{Expects}
use Rattle.assignments.specs.declared.state.Expects.TheVariants.{Statement, NameRest, Index, Close as CellClose, CellEquals, Value, AllowanceRest, MarkRest, KeepRest}
use Rattle.assignments.specs.declared.state.Entry.{Entry}
use Rattle.assignments.specs.declared.state.Entry.TheVariants.{Cell as CellEntry, Line}
use Rattle.assignments.specs.declared.state.State.{State}
use Rattle.assignments.specs.declared.state.Failure.{Failure}
use Rattle.assignments.specs.Tokens.{word, kind_of, assigns, equals_kind, number_of, value_of}
use Rattle.assignments.specs.Seeking.{more, slot_of, place_after}

-- before the first token
abbrev pub start : State
start = record { expects = Statement; token = record { from = 0; to = 0 }; entry = None; cells = 0; lines = 0; allowance = None }

-- a fault at a token ends the statements
abbrev pub fails : Fault → Span → Result State Failure
fails fault t = Err (record { fault = fault; token = t })

-- another token is expected
abbrev pub moved : State → Expects → State
moved s expects = record s { expects = expects; entry = None }

-- a statement begins with a token
abbrev pub named : State → Expects → Span → State
named s expects t = record s { expects = expects; token = t; entry = None }

-- a value: that of a cell is ready to be written
abbrev pub cell_entry : Option Cell → ℕ → Option Entry
cell_entry (Some cell) value = Some (CellEntry cell value)
cell_entry None value = None

abbrev pub valued_by : State → Option Cell → ℕ → State
valued_by s cell value = record s { expects = Statement; entry = cell_entry cell value }

abbrev pub limited_by : State → ℕ → State
limited_by s allowance = record s { expects = Statement; entry = None; allowance = Some allowance }

-- a line of the sheet is ready to be written, of mark or of keep; it names one slot
abbrev pub marked : State → Bool → ℕ → State
marked s mark slot = record s { expects = Statement; entry = Some (Line mark slot) }

-- a statement begins: with allowance, mark or keep; or with a name, which is declared
abbrev pub begun : State → Span → Kind → Option ℕ → Result State Failure
begun s t Allowance slot = Ok (named s (AllowanceRest slot) t)
begun s t Mark slot = Ok (named s (MarkRest slot) t)
begun s t Keep slot = Ok (named s (KeepRest slot) t)
begun s t k (Some slot) = Ok (named s (NameRest slot) t)
begun s t k None = fails NotDeclared t

-- after a name: = where it was not given before, or [ where it is an array
abbrev pub name_then : State → Span → Kind → ℕ → Bool → Bool → Result State Failure
name_then s t Equals slot given is_array = cond given (fails GivenTwice s.token) (Ok (moved s (Value None)))
name_then s t Open slot given is_array = cond is_array (Ok (moved s (Index slot))) (fails NoArray t)
name_then s t k slot given is_array = fails EqualsOrBracketExpected t

-- ] after an index; = after a cell
abbrev pub closed : State → Span → Kind → Cell → Result State Failure
closed s t Close cell = Ok (moved s (CellEquals cell))
closed s t k cell = fails BracketExpected t

abbrev pub assigned : State → Span → Kind → Cell → Result State Failure
assigned s t Equals cell = Ok (moved s (Value (Some cell)))
assigned s t k cell = fails EqualsOrBracketExpected t

-- a value of a cell, or else of a name
abbrev pub value_then : State → Span → Option Number → Option Cell → Result State Failure
value_then s t (Some TooLarge) cell = fails NumberTooLarge t
value_then s t (Some n) cell = Ok (valued_by s cell (value_of n))
value_then s t None cell = fails ValueExpected t

-- the allowance, which is given once
abbrev pub allowed : State → Option ℕ → ℕ → Result State Failure
allowed s (Some before) allowance = fails AllowanceGivenTwice s.token
allowed s None allowance = Ok (limited_by s allowance)

abbrev pub allowance_then : State → Span → Option Number → Result State Failure
allowance_then s t (Some TooLarge) = fails NumberTooLarge t
allowance_then s t (Some (Decimal v)) = allowed s s.allowance v
allowance_then s t n = fails ValueExpected t

-- the name after mark or keep: the room has a line more, else the fault is at the word; it is declared
abbrev pub mark_name : State → Span → Bool → Option ℕ → Result State Failure
mark_name s t mark (Some slot) = Ok (marked s mark slot)
mark_name s t mark None = fails NotDeclared t

abbrev pub mark_then : State → Span → Bool → Option ℕ → Bool → Result State Failure
mark_then s t mark slot full = cond full (fails SheetFull s.token) (mark_name s t mark slot)

-- a cell of a slot and an index is among the first n of the room
unfoldable pub listed_in : List ℕ → ℕ → ℕ → ℕ → Bool
listed_in cells zero slot index = false
listed_in cells (suc n) slot index =
    let rest = listed_in cells n slot index in
    (eqb (get_or cells (3 * n) 0) slot && eqb (get_or cells (3 * n + 1) 0) index) || rest

-- the name was given a value before the place where it stands
abbrev pub given_before : List ℕ → State → Bool
given_before text s = ltb (place_after text (word text s.token) true 0) s.token.from

-- what follows a name, which is declared; whether it was given before is asked at = alone
abbrev pub after_name : List ℕ → List ℕ → State → Span → Option ℕ → Result State Failure
after_name table text s t (Some slot) =
    name_then s t (kind_of (word text t)) slot (equals_kind (kind_of (word text t)) && given_before text s) (array (sort_at table slot))
after_name table text s t None = fails NotDeclared s.token

-- what follows allowance, mark or keep: where it is = or [ the word is a name after all
abbrev pub after_word : List ℕ → List ℕ → State → Span → Option ℕ → Result State Failure → Result State Failure
after_word table text s t slot rest = cond (assigns (kind_of (word text t))) (after_name table text s t slot) rest

abbrev pub after_allowance : List ℕ → List ℕ → State → Span → Option ℕ → Result State Failure
after_allowance table text s t slot = after_word table text s t slot (allowance_then s t (number_of (word text t)))

abbrev pub after_mark : List ℕ → List ℕ → List ℕ → Bool → State → Span → Bool → Option ℕ → Result State Failure
after_mark names table text full s t mark slot = after_word table text s t slot (mark_then s t mark (slot_of names (word text t)) full)

-- an index: its cell is a new one, and the room has a cell more
abbrev pub indexed : List ℕ → State → Span → Cell → Result State Failure
indexed cells s t cell =
    cond (listed_in cells s.cells cell.slot cell.index) (fails CellGivenTwice t)
    (cond (leb (length cells / 3) s.cells) (fails CellsFull t)
    (Ok (moved s (CellClose cell))))

abbrev pub index_then : List ℕ → State → Span → ℕ → Option Number → Result State Failure
index_then cells s t slot (Some (Decimal v)) = indexed cells s t (record { slot = slot; index = v })
index_then cells s t slot (Some (Binary v)) = indexed cells s t (record { slot = slot; index = v })
index_then cells s t slot (Some TooLarge) = fails NumberTooLarge t
index_then cells s t slot n = fails IndexExpected t

-- an index at its token
abbrev pub index_at : List ℕ → List ℕ → State → Span → ℕ → Result State Failure
index_at text cells s t slot = index_then cells s t slot (number_of (word text t))

-- one token more, by what is expected; full: the sheet's room has no line more
abbrev pub step_by : List ℕ → List ℕ → List ℕ → List ℕ → Bool → State → Span → Expects → Result State Failure
step_by names table text cells full s t Statement = begun s t (kind_of (word text t)) (slot_of names (word text t))
step_by names table text cells full s t (NameRest slot) = after_name table text s t (Some slot)
step_by names table text cells full s t (Index slot) = index_at text cells s t slot
step_by names table text cells full s t (CellClose cell) = closed s t (kind_of (word text t)) cell
step_by names table text cells full s t (CellEquals cell) = assigned s t (kind_of (word text t)) cell
step_by names table text cells full s t (Value cell) = value_then s t (number_of (word text t)) cell
step_by names table text cells full s t (AllowanceRest slot) = after_allowance table text s t slot
step_by names table text cells full s t (MarkRest slot) = after_mark names table text full s t true slot
step_by names table text cells full s t (KeepRest slot) = after_mark names table text full s t false slot

unfoldable pub step : List ℕ → List ℕ → List ℕ → List ℕ → Bool → State → Span → Result State Failure
step names table text cells full s t = step_by names table text cells full s t s.expects

-- a room with three numbers after n times three; past its end nothing is written
abbrev pub put_three : List ℕ → ℕ → ℕ → ℕ → ℕ → List ℕ
put_three room n a b c = set (set (set room (3 * n) a) (3 * n + 1) b) (3 * n + 2) c

-- the room with the cell that is ready, the sheet with the line that is, of mark 1 and of keep 0; each is counted, up to 2^32 - 1
abbrev pub with_cell : List ℕ → ℕ → Option Entry → List ℕ
with_cell cells n (Some (CellEntry cell value)) = put_three cells n cell.slot cell.index value
with_cell cells n e = cells

abbrev pub put_cell : List ℕ → State → List ℕ
put_cell cells s = with_cell cells s.cells s.entry

abbrev pub with_line : List ℕ → ℕ → Option Entry → List ℕ
with_line sheet n (Some (Line mark slot)) = put_three sheet n (cond mark 1 0) slot slot
with_line sheet n e = sheet

abbrev pub put_line : List ℕ → State → List ℕ
put_line sheet s = with_line sheet s.lines s.entry

abbrev pub counted_by : State → Option Entry → State
counted_by s (Some (CellEntry cell value)) = record s { entry = None; cells = more s.cells }
counted_by s (Some (Line mark slot)) = record s { entry = None; lines = more s.lines }
counted_by s None = record s { entry = None }

abbrev pub counted : State → State
counted s = counted_by s s.entry

-- the sheet's room has no line more
abbrev pub no_line : List ℕ → State → Bool
no_line sheet s = leb (length sheet / 3) s.lines

-- how far a setting is read, or its first fault; the room of the cells, and that of the sheet
pub record Work : Type 0 where
  pub state : Result State Failure
  pub cells : List ℕ
  pub sheet : List ℕ

abbrev pub work_of : Result State Failure → List ℕ → List ℕ → Work
work_of r cells sheet = record { state = r; cells = cells; sheet = sheet }

-- where one token more is no fault, the rest
abbrev pub unless_failed : Result State Failure → List ℕ → List ℕ → (State → Work) → Work
unless_failed (Ok q) cells sheet rest = rest q
unless_failed (Err f) cells sheet rest = work_of (Err f) cells sheet

-- the tokens in order, up to the first fault
unfoldable pub run : List ℕ → List ℕ → List ℕ → State → List ℕ → List ℕ → List Span → Work
run names table text s cells sheet [] = work_of (Ok s) cells sheet
run names table text s cells sheet (t ∷ ts) =
    unless_failed (step names table text cells (no_line sheet s) s t) cells sheet
    (λ q. run names table text (counted q) (put_cell cells q) (put_line sheet q) ts)
