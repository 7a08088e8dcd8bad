-- What reading the text of a case answers, and what it leaves in the room for the numbers.
-- Assumes nothing.
use Rattle.std.specs.Prelude.{Bool, cond, ◌&&◌, List, ◌++◌, ℕ, ◌≤◌, ◌<◌, eqb, ltb, leb, length, take, drop, get_or, ⊤, Option, Some, None, Result, Ok, Err}
use Rattle.cases.specs.declared.error.ErrorKind.{ErrorKind}
use Rattle.cases.specs.declared.error.ErrorKind.TheVariants.{ByteOrderMark}
use Rattle.cases.specs.declared.error.ParseError.{ParseError}
use Rattle.cases.specs.declared.lexer.Lexer.TheVariants.{Blank}
use Rattle.cases.specs.declared.parser.Run.{Run}
use Rattle.cases.specs.declared.parser.Fault.{Fault}
use Rattle.cases.specs.declared.parser.Parser.{Parser}
use Rattle.cases.specs.declared.Case.{Case}
use Rattle.cases.specs.Places.{line_at, column_at, token_start}
use Rattle.cases.specs.Lexing.{lex}
use Rattle.cases.specs.Parsing.{start, parse, case_of}
use Rattle.cases.specs.Numbers.{numbers_in}

-- at most 4294967295
abbrev pub capped : ℕ → ℕ
capped n = cond (ltb n 4294967295) n 4294967295

-- a byte-order mark, EF BB BF, begins the text
abbrev pub marked : List ℕ → Bool
marked text = eqb (get_or text 0 0) 239 && eqb (get_or text 1 0) 187 && eqb (get_or text 2 0) 191

-- something is missing at the end: there is no token at fault
abbrev pub error_at_end : List ℕ → ErrorKind → ParseError
error_at_end text kind = record { kind = kind; line = line_at text (length text); column = None; from = length text; to = length text }

-- the token from a byte up to another is at fault: its byte-order mark where it begins the text with one
abbrev pub error_between : List ℕ → ErrorKind → ℕ → ℕ → ParseError
error_between text kind from to =
    record { kind = cond (eqb from 0 && marked text) ByteOrderMark kind; line = line_at text from; column = Some (column_at text from); from = from; to = to }

-- the token that ends before the fault's byte
abbrev pub error_at_token : List ℕ → Fault → ParseError
error_at_token text fault = error_between text fault.kind (token_start text fault.at) fault.at

-- the case of a text, or what is missing at its end
abbrev pub ended : List ℕ → Result Case ErrorKind → Result Case ParseError
ended text (Ok c) = Ok c
ended text (Err kind) = Err (error_at_end text kind)

-- a parsed text, by its first fault
abbrev pub answer : List ℕ → Bool → ℕ → Result Parser Fault → Result Case ParseError
answer text whole count (Ok p) = ended text (case_of p whole count)
answer text whole count (Err fault) = Err (error_at_token text fault)

-- the bytes that are read, which are the whole text or not: their numbers in order
abbrev pub numbers_within : List ℕ → Bool → List ℕ
numbers_within text whole = numbers_in (lex whole Blank text)

-- their case, with room for so many numbers
abbrev pub parsed_within : List ℕ → Bool → ℕ → Result Case ParseError
parsed_within text whole room = answer text whole (length (numbers_within text whole)) (parse room 0 start (lex whole Blank text))

abbrev pub parsing_within : List ℕ → Bool → ℕ → Result Case ParseError
parsing_within text whole room = parsed_within text whole (capped room)

abbrev pub room_within : Result Case ParseError → List ℕ → Bool → List ℕ → List ℕ
room_within (Ok c) text whole room = numbers_within text whole ++ drop (length (numbers_within text whole)) room
room_within (Err e) text whole room = room

-- the most bytes of a text; of a longer one so many are read
abbrev pub byte_limit : ℕ
byte_limit = 4194304

abbrev pub seen : List ℕ → List ℕ
seen text = take byte_limit text

abbrev pub wholly : List ℕ → Bool
wholly text = leb (length text) byte_limit

-- the text's numbers in order
abbrev pub numbers_of : List ℕ → List ℕ
numbers_of text = numbers_within (seen text) (wholly text)

-- where there is no fault the count is that of the text's numbers
abbrev pub parsing : List ℕ → ℕ → Result Case ParseError
parsing text room = parsing_within (seen text) (wholly text) room

-- the front of the room holds the text's numbers, its rest is untouched; after a fault it is as it was
abbrev pub room_after : Result Case ParseError → List ℕ → List ℕ → List ℕ
room_after r text room = room_within r (seen text) (wholly text) room

-- a part's places are among the first n
pub record Within (run : Run) (n : ℕ) : Type 0 where
  pub low : run.from ≤ run.to
  pub high : run.to ≤ n

-- so are those of a part that may be missing
abbrev pub WithinIf : Option Run → ℕ → Type 0
WithinIf None n = ⊤
WithinIf (Some run) n = Within run n

-- the parts of a case are among the first n numbers
pub record Placed (c : Case) (n : ℕ) : Type 0 where
  pub table : Within c.table n
  pub values : Within c.values n
  pub cells : Within c.cells n
  pub sheet : WithinIf c.sheet n
  pub allowance : c.allowance < n

-- the token at fault is among the first n bytes
pub record Spanned (e : ParseError) (n : ℕ) : Type 0 where
  pub low : e.from ≤ e.to
  pub high : e.to ≤ n

-- of a room for so many numbers, and a text of so many bytes
abbrev pub Inside : Result Case ParseError → ℕ → ℕ → Type 0
Inside (Ok c) room bytes = Placed c room
Inside (Err e) room bytes = Spanned e bytes
