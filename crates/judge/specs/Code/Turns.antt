-- What a term of a judgement asks, one cell at a turn.
-- Assumes nothing.
use Rattle.std.specs.Prelude.{Bool, false, cond, ◌&&◌, List, [], ℕ, ◌+◌, ltb, length, get_or, take, drop, set, replicate}
use Rattle.std.proofs.lemmas.List.Edits.{sets}
use Rattle.table.specs.declared.words.Term.{Term}
use Rattle.table.specs.Terms.{term_at}
use Rattle.table.specs.Faults.{is_read}
use Rattle.evaluate.specs.declared.turns.Turn.{Turn as Asked}
use Rattle.evaluate.specs.Code.Turns as evaluating
use Rattle.evaluate.specs.Code.Turns.{next_read, onward}
use Rattle.judge.specs.declared.turns.Turn.{Turn}
use Rattle.judge.specs.Code.Leaves.{leaves_at}
use Rattle.judge.specs.Code.Labelled.{truth_in, noted, plain_noted}
use Rattle.judge.specs.Code.Reach.{reach_at, held_at}

-- a term that asks once, as in evaluating
abbrev pub alone : Asked → Turn
alone t =
    record { pending = t.pending; at = t.at; count = t.count; slot = t.slot; index = t.index; other = t.other; met = 0; more = false; array = 0; leaves = 0; cells = replicate 17 0 }

-- a read that a store answers: it asks for nothing
abbrev pub held : Bool → ℕ → ℕ → Turn
held pending at array = record { pending = pending; at = at; count = 0; slot = 0; index = 0; other = 0; met = 0; more = false; array = array; leaves = 0; cells = replicate 17 0 }

-- a read that asks for the cell of its array's variable of number met; of the numbers in cells those before met are cells, the others
-- slots
abbrev pub asks_for : List ℕ → Bool → ℕ → ℕ → ℕ → ℕ → ℕ → ℕ → List ℕ → Turn
asks_for row pending at count index met array leaves cells =
    record {
      pending = pending;
      at = at;
      count = count;
      slot = get_or cells met 0;
      index = index;
      other = get_or row (get_or cells met 0) 0;
      met = met;
      more = ltb (met + 1) leaves;
      array = array;
      leaves = leaves;
      cells = cells;
    }

-- the slots of an array's variables, as a read has them before the first cell
abbrev pub slots_of : List ℕ → ℕ → List ℕ
slots_of w array = sets (replicate 17 0) 0 (leaves_at w array)

-- the array that term at reaches, where it is a read at a free index
abbrev pub array_of : List ℕ → List ℕ → List ℕ → ℕ → ℕ
array_of w front truths at = reach_at w front truths (get_or front (term_at w at).q 0) (term_at w at).p

-- a read whose index is free asks for the cells there of the variables of the array that it reaches, by which its value and its truth are
-- found: met says how many are had, in cells; one whose index is not free has a false condition and asks for its value alone, as in
-- evaluating, and so does any other term
unfoldable pub turn_of : List ℕ → List ℕ → ℕ → ℕ → List ℕ → List ℕ → List ℕ → ℕ → ℕ → Turn
turn_of w row count terms front truths cells at met =
    let x = term_at w at in
    let index = get_or front x.q 0 in
    let array = array_of w front truths at in
    let asked = cond (held_at w front truths index array) (held (ltb at terms) at array) (asks_for row (ltb at terms) at count index met array (length (leaves_at w array)) cells) in
    cond (is_read x && truth_in truths x.q) asked (alone (evaluating.turn_of w row count terms front at))

-- what a term asks first
abbrev pub asks_first : List ℕ → List ℕ → ℕ → ℕ → List ℕ → List ℕ → ℕ → Turn
asks_first w row count terms front truths at = turn_of w row count terms front truths (slots_of w (array_of w front truths at)) at 0

-- the same at a place of the room: the numbers before it stand at its front, the truths from number terms on
abbrev pub turn_here : List ℕ → List ℕ → ℕ → ℕ → List ℕ → ℕ → Turn
turn_here w row count terms room at = asks_first w row count terms (take at room) (take at (drop terms room)) at

-- the first of all
abbrev pub first_turn : List ℕ → List ℕ → ℕ → ℕ → Turn
first_turn w row count terms = asks_first w row count terms [] [] 0

-- After an answer: the cells that are had. Where the read asks for more, the turn is of the same term and the room stays; else its
-- term and those after it, up to the next read, note their values and truths, and the turn is of that read.
abbrev pub gathered : Turn → ℕ → List ℕ
gathered turn answer = set turn.cells turn.met answer

abbrev pub asks_more : List ℕ → Turn → ℕ → Turn
asks_more row turn answer = asks_for row turn.pending turn.at turn.count turn.index (turn.met + 1) turn.array turn.leaves (gathered turn answer)

abbrev pub note_on : List ℕ → (Term → Bool) → List ℕ → ℕ → ℕ → List ℕ → List ℕ → ℕ → List ℕ
note_on w marked row terms array cells room at = onward w (plain_noted w marked row terms) terms (noted w marked row terms array cells room at) (at + 1)

abbrev pub next_room : List ℕ → (Term → Bool) → List ℕ → ℕ → Turn → ℕ → List ℕ → List ℕ
next_room w marked row terms turn answer room =
    cond turn.more room (note_on w marked row terms turn.array (gathered turn answer) room turn.at)

abbrev pub next_turn : List ℕ → List ℕ → ℕ → ℕ → Turn → ℕ → List ℕ → Turn
next_turn w row count terms turn answer room = cond turn.more (asks_more row turn answer) (turn_here w row count terms room (next_read w terms (turn.at + 1)))
