-- The parts of a case. A heading begins its part, and the numbers after it are the part's.
-- Assumes nothing.
use Rattle.std.specs.Prelude.{Bool, cond, List, [], ◌∷◌, ℕ, suc, ◌+◌, ◌-◌, eqb, ltb, leb, set, get_or, ⊤, Option, Some, None, Result, Ok, Err, ok_or, option_map}
use Rattle.cases.specs.declared.part.Part.{Part}
use Rattle.cases.specs.declared.part.Part.TheVariants.{Table, Values, Cells, Allowance, Sheet}
use Rattle.cases.specs.declared.error.ErrorKind.{ErrorKind}
use Rattle.cases.specs.declared.error.ErrorKind.TheVariants.{UnknownWord, LargeNumber, NumberBeforeParts, PartGivenTwice, SecondAllowance, RoomFull, NoTable, NoValues, NoCells, NoAllowance, EmptyAllowance, LongText, TableFull, OthersFull}
use Rattle.cases.specs.declared.lexer.Token.{Token}
use Rattle.cases.specs.declared.lexer.Token.TheVariants.{Number, Heading, Unknown, TooLarge}
use Rattle.cases.specs.declared.parser.Run.{Run}
use Rattle.cases.specs.declared.parser.Fault.{Fault}
use Rattle.cases.specs.declared.parser.Parser.{Parser}
use Rattle.cases.specs.declared.Case.{Case}
use Rattle.cases.specs.Parts.{index}

-- the most numbers of the table, and of sheet, values, cells and allowance together
abbrev pub table_limit : ℕ
table_limit = 480000

abbrev pub others_limit : ℕ
others_limit = 200000

-- what follows, unless something was wrong
abbrev pub then_on : {A B E : Type 0} → Result A E → (A → Result B E) → Result B E
then_on (Ok a) f = f a
then_on (Err e) f = Err e

-- no part was given yet
abbrev pub start : Parser
start = record { part = None; total = 0; runs = None ∷ None ∷ None ∷ None ∷ None ∷ [] }

-- a part's numbers, where it was given
abbrev pub run_of : Parser → Part → Option Run
run_of p part = get_or p.runs (index part) None

-- how many numbers a part has
abbrev pub size : Option Run → ℕ
size None = 0
size (Some run) = run.to - run.from

abbrev pub size_of : Parser → Part → ℕ
size_of p part = size (run_of p part)

-- how many the parts but the table have: all that are not the table's
abbrev pub others : Parser → ℕ
others p = p.total - size_of p Table

-- a part takes a further number: the table and the other parts together have their limits, and an allowance takes one
abbrev pub others_fault : Parser → Result ⊤ ErrorKind
others_fault p = cond (leb others_limit (others p)) (Err OthersFull) (Ok tt)

abbrev pub limit : Parser → Part → Result ⊤ ErrorKind
limit p Table = cond (leb table_limit (size_of p Table)) (Err TableFull) (Ok tt)
limit p Values = others_fault p
limit p Cells = others_fault p
limit p Allowance = cond (ltb 0 (size_of p Allowance)) (Err SecondAllowance) (others_fault p)
limit p Sheet = others_fault p

-- a part begins after the numbers read so far; its numbers go up to one more
abbrev pub begun : Parser → Part → Parser
begun p part = record { part = Some part; total = p.total; runs = set p.runs (index part) (Some (record { from = p.total; to = p.total })) }

abbrev pub until : ℕ → Run → Run
until to run = record { from = run.from; to = to }

abbrev pub extended : Parser → Part → Parser
extended p part =
    record { part = p.part; total = p.total + 1; runs = set p.runs (index part) (option_map (until (p.total + 1)) (run_of p part)) }

-- a heading, unless its part was given before
abbrev pub headed_at : Parser → Part → Option Run → Result Parser ErrorKind
headed_at p part None = Ok (begun p part)
headed_at p part (Some run) = Err PartGivenTwice

abbrev pub headed : Parser → Part → Result Parser ErrorKind
headed p part = headed_at p part (run_of p part)

-- a number of the part that is being read, unless there is none yet, or the part takes no further one, or the room has not so many
abbrev pub number_fault : Parser → Part → ℕ → Result ⊤ ErrorKind
number_fault p part room = then_on (limit p part) (λ _. cond (ltb p.total room) (Ok tt) (Err RoomFull))

abbrev pub counted_in : Parser → ℕ → Option Part → Result Parser ErrorKind
counted_in p room None = Err NumberBeforeParts
counted_in p room (Some part) = then_on (number_fault p part room) (λ _. Ok (extended p part))

abbrev pub counted : Parser → ℕ → Result Parser ErrorKind
counted p room = counted_in p room p.part

-- a token: neither a number nor a heading (told as another kind where it begins with a byte-order mark: Reading.antt); a number of 2^32
-- or more
abbrev pub taken_by : ℕ → Parser → Token → Result Parser ErrorKind
taken_by room p (Number n) = counted p room
taken_by room p (Heading part) = headed p part
taken_by room p Unknown = Err UnknownWord
taken_by room p TooLarge = Err LargeNumber

abbrev pub found_at : ℕ → Result Parser ErrorKind → Result Parser Fault
found_at at (Ok p) = Ok p
found_at at (Err kind) = Err (record { kind = kind; at = at })

-- a token that the byte at ends
abbrev pub taken : ℕ → ℕ → Parser → Option Token → Result Parser Fault
taken room at p None = Ok p
taken room at p (Some token) = found_at at (taken_by room p token)

-- the tokens in order, the first of which ends at the byte at; the first fault stands
unfoldable pub parse : ℕ → ℕ → Parser → List (Option Token) → Result Parser Fault
parse room at p [] = Ok p
parse room at p (token ∷ tokens) = then_on (taken room at p token) (λ q. parse room (suc at) q tokens)

-- the parts of a parsed text, and the count of its numbers; the text is not whole, or a part is missing, of which the sheet is none, or
-- the allowance has no number
abbrev pub case_of : Parser → Bool → ℕ → Result Case ErrorKind
case_of p whole count =
    cond whole
    (then_on (ok_or (run_of p Table) NoTable) (λ table.
    then_on (ok_or (run_of p Values) NoValues) (λ values.
    then_on (ok_or (run_of p Cells) NoCells) (λ cells.
    then_on (ok_or (run_of p Allowance) NoAllowance) (λ allowance.
    cond (eqb allowance.from allowance.to) (Err EmptyAllowance)
    (Ok (record { table = table; values = values; cells = cells; sheet = run_of p Sheet; allowance = allowance.from; count = count })))))))
    (Err LongText)
