-- What the code computes of a term: value and truth together, from the numbers and truths of the terms before it.
-- Assumes nothing.
use Rattle.std.specs.Prelude.{Bool, true, false, not, cond, ◌&&◌, List, ℕ, zero, suc, ◌+◌, eqb, length, get_or, take, drop, set}
use Rattle.ops.specs.Numbers.{op_of}
use Rattle.ops.specs.Meaning.{bit, holds}
use Rattle.ops.specs.Condition.{chosen, settles}
use Rattle.table.specs.declared.words.Term.{Term}
use Rattle.table.specs.Terms.{term_at, sort_at}
use Rattle.table.specs.Faults.{is_variable, is_constant, is_read, is_store, is_choice}
use Rattle.evaluate.specs.Code.Turns.{operated_number, number_of}
use Rattle.judge.specs.declared.reads.Labelled.{Labelled}
use Rattle.judge.specs.Code.Leaves.{leaves_at}

abbrev pub truth_in : List ℕ → ℕ → Bool
truth_in truths k = holds (get_or truths k 0)

-- a store x over what is read beneath, at index j whose condition is cj
abbrev pub overlaid : List ℕ → List ℕ → Term → ℕ → Bool → Labelled → Labelled
overlaid front truths x j cj below =
    record {
      value = cond (eqb (get_or front x.q 0) j) (get_or front x.r 0) below.value;
      free = chosen (truth_in truths x.q && cj) (eqb (get_or front x.q 0) j) (truth_in truths x.r) below.free (eqb (get_or front x.r 0) below.value);
    }

-- whether a free test picks store x, and what the store holds
abbrev pub picked_by : List ℕ → List ℕ → Term → ℕ → Bool → Bool
picked_by front truths x j cj = truth_in truths x.q && cj && eqb (get_or front x.q 0) j

abbrev pub stored_by : List ℕ → List ℕ → Term → Labelled
stored_by front truths x = record { value = get_or front x.r 0; free = truth_in truths x.r }

-- a choice x between what is read in its two branches
abbrev pub either_of : List ℕ → List ℕ → Term → Labelled → Labelled → Labelled
either_of front truths x q r =
    record {
      value = cond (holds (get_or front x.p 0)) q.value r.value;
      free = chosen (truth_in truths x.p) (holds (get_or front x.p 0)) q.free r.free (eqb q.value r.value);
    }

-- the read of array term a at j, through at most left terms; cells holds what the variables hold there that it meets, from number
-- first on
unfoldable pub labelled_within : ℕ → List ℕ → List ℕ → List ℕ → List ℕ → ℕ → Bool → ℕ → ℕ → Labelled
labelled_within zero w front truths cells j cj a first = record { value = 0; free = false }
labelled_within (suc left) w front truths cells j cj a first =
    let x = term_at w a in
    let below = labelled_within left w front truths cells j cj x.p first in
    let q = labelled_within left w front truths cells j cj x.q first in
    let r = labelled_within left w front truths cells j cj x.r (first + length (leaves_at w x.q)) in
    cond (is_store x) (overlaid front truths x j cj below)
    (cond (is_choice x) (either_of front truths x q r) (record { value = get_or cells first 0; free = truth_in truths a && cj }))

abbrev pub labelled_at : List ℕ → List ℕ → List ℕ → List ℕ → ℕ → Bool → ℕ → ℕ → Labelled
labelled_at w front truths cells j cj a first = labelled_within (suc a) w front truths cells j cj a first

-- the truth of an operator
abbrev pub settled_by : List ℕ → List ℕ → List ℕ → Term → Bool
settled_by w front truths x =
    not (is_choice x) && settles (op_of x.op) (sort_at w x.p).n (get_or front x.p 0) (get_or front x.q 0) (get_or front x.r 0) (truth_in truths x.p) (truth_in truths x.q) (truth_in truths x.r)

-- both of it
abbrev pub operated_labelled : List ℕ → List ℕ → List ℕ → Term → Labelled
operated_labelled w front truths x = record { value = operated_number w front x; free = settled_by w front truths x }

-- the truth of a term that is no read; which terms are marked is a parameter
abbrev pub truth_of : List ℕ → (Term → Bool) → List ℕ → List ℕ → Term → Bool
truth_of w marked front truths x = cond (is_constant x) true (cond (is_variable x) (not (marked x)) (settled_by w front truths x))

-- a read, whose index's condition is cj, from the array term that it reaches and the cells that it asked for: where cj is false, the
-- read's condition is too, and the first of the cells is its value
abbrev pub labelled_by : Bool → List ℕ → List ℕ → List ℕ → Term → ℕ → List ℕ → Labelled
labelled_by cj w front truths x array cells = cond cj (labelled_at w front truths cells (get_or front x.q 0) cj array 0) (record { value = get_or cells 0 0; free = false })

abbrev pub read_labelled : List ℕ → List ℕ → List ℕ → Term → ℕ → List ℕ → Labelled
read_labelled w front truths x array cells = labelled_by (truth_in truths x.q) w front truths x array cells

-- any other term
abbrev pub plain_labelled : List ℕ → (Term → Bool) → List ℕ → List ℕ → List ℕ → Term → Labelled
plain_labelled w marked row front truths x = record { value = number_of w row front x 0; free = truth_of w marked front truths x }

unfoldable pub labelled_of : List ℕ → (Term → Bool) → List ℕ → List ℕ → List ℕ → Term → ℕ → List ℕ → Labelled
labelled_of w marked row front truths x array cells = cond (is_read x) (read_labelled w front truths x array cells) (plain_labelled w marked row front truths x)

-- what a turn at term at reads: the numbers before it stand at the front of the room, the truths from number terms on
abbrev pub read_here : List ℕ → ℕ → List ℕ → ℕ → ℕ → List ℕ → Labelled
read_here w terms room at array cells = read_labelled w (take at room) (take at (drop terms room)) (term_at w at) array cells

abbrev pub plain_here : List ℕ → (Term → Bool) → List ℕ → ℕ → List ℕ → ℕ → Labelled
plain_here w marked row terms room at = plain_labelled w marked row (take at room) (take at (drop terms room)) (term_at w at)

abbrev pub labelled_here : List ℕ → (Term → Bool) → List ℕ → ℕ → List ℕ → ℕ → ℕ → List ℕ → Labelled
labelled_here w marked row terms room at array cells = labelled_of w marked row (take at room) (take at (drop terms room)) (term_at w at) array cells

-- and writes: its value, and its truth
abbrev pub entered_as : ℕ → Bool → ℕ → List ℕ → ℕ → List ℕ
entered_as value free terms room at = set (set room at value) (terms + at) (bit free)

abbrev pub entered : Labelled → ℕ → List ℕ → ℕ → List ℕ
entered r terms room at = entered_as r.value r.free terms room at

-- term at notes its value and its truth, a read those from its cells
abbrev pub noted : List ℕ → (Term → Bool) → List ℕ → ℕ → ℕ → List ℕ → List ℕ → ℕ → List ℕ
noted w marked row terms array cells room at = entered (labelled_here w marked row terms room at array cells) terms room at

abbrev pub plain_noted : List ℕ → (Term → Bool) → List ℕ → ℕ → List ℕ → ℕ → List ℕ
plain_noted w marked row terms room at = entered (plain_here w marked row terms room at) terms room at
