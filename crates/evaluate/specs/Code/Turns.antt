-- A turn of evaluating: what a term asks, its number from the answer, and how the run goes on to the next read.
-- Assumes nothing.
use Rattle.std.specs.Prelude.{◌≡◌, Bool, true, false, cond, List, ℕ, zero, suc, ◌-◌, ◌<◌, ltb, length, get_or, take, set}
use Rattle.ops.specs.Numbers.{op_of}
use Rattle.ops.specs.Meaning.{apply}
use Rattle.table.specs.declared.words.Term.{Term}
use Rattle.table.specs.Terms.{terms, term_at, sort_at, scalar}
use Rattle.table.specs.Faults.{is_variable, is_constant, is_read}
use Rattle.table.specs.Folds.{first_from}
use Rattle.evaluate.specs.declared.turns.Turn.{Turn}
use Rattle.evaluate.specs.Code.Reads.{found_at}

-- a term that asks among no cells: the other is the answer
abbrev pub told : Bool → ℕ → ℕ → Turn
told pending at other = record { pending = pending; at = at; count = 0; slot = 0; index = 0; other = other }

-- a read asks for its value: what its array stores at the index is told; else the variable's cell there is sought among count
-- cells, and else it is the slot's own value
abbrev pub turn_by : Bool → ℕ → List ℕ → Bool → ℕ → ℕ → ℕ → Turn
turn_by true number values pending at count index = told pending at number
turn_by false slot values pending at count index = record { pending = pending; at = at; count = count; slot = slot; index = index; other = get_or values slot 0 }

-- what term at asks, of a table of so many terms; front holds the numbers of the terms before it
unfoldable pub turn_of : List ℕ → List ℕ → ℕ → ℕ → List ℕ → ℕ → Turn
turn_of w values count terms front at =
    let x = term_at w at in
    let index = get_or front x.q 0 in
    let found = found_at w front x.p index in
    cond (is_read x) (turn_by found.stored found.number values (ltb at terms) at count index) (told (ltb at terms) at 0)

-- x is the term after those whose numbers are in front
pub record Next (w front : List ℕ) (x : Term) : Type 0 where
  pub inside : length front < terms w
  pub is : x ≡ term_at w (length front)

-- the fields of x name terms of front
pub record Behind (front : List ℕ) (x : Term) : Type 0 where
  pub p : x.p < length front
  pub q : x.q < length front
  pub r : x.r < length front

-- a variable's number: its slot's value, 0 for an array
abbrev pub variable_number : List ℕ → Term → ℕ
variable_number values x = cond (scalar x.sort) (get_or values x.p 0) 0

-- an operator's number, from those of its operands
abbrev pub operated_number : List ℕ → List ℕ → Term → ℕ
operated_number w front x = apply (op_of x.op) (sort_at w x.p).n (get_or front x.p 0) (get_or front x.q 0) (get_or front x.r 0)

-- the number of term x: of a read the answer to what it asks
unfoldable pub number_of : List ℕ → List ℕ → List ℕ → Term → ℕ → ℕ
number_of w values front x answer =
    cond (is_read x) answer
    (cond (is_constant x) x.p
    (cond (is_variable x) (variable_number values x)
    (operated_number w front x)))

-- Only a read asks for a cell: over other terms a run goes on.

-- the room after the terms from at on, through at most left of them, up to one where it stops; write is what a term does to the room
unfoldable pub on_from : (ℕ → Bool) → (List ℕ → ℕ → List ℕ) → ℕ → List ℕ → ℕ → List ℕ
on_from stops write zero room at = room
on_from stops write (suc left) room at =
    let rest = on_from stops write left (write room at) (suc at) in
    cond (stops at) room rest

-- up to the next read, of a table of so many terms: which term that is, and the room
abbrev pub is_read_at : List ℕ → ℕ → Bool
is_read_at w k = is_read (term_at w k)

abbrev pub next_read : List ℕ → ℕ → ℕ → ℕ
next_read w terms at = first_from (is_read_at w) (terms - at) at

abbrev pub onward : List ℕ → (List ℕ → ℕ → List ℕ) → ℕ → List ℕ → ℕ → List ℕ
onward w write terms room at = on_from (is_read_at w) write (terms - at) room at

-- term at writes its number: from the answer, which only a read asks for
abbrev pub numbered : List ℕ → List ℕ → ℕ → List ℕ → ℕ → List ℕ
numbered w values answer room at = set room at (number_of w values (take at room) (term_at w at) answer)
