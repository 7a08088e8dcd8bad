-- A run over a table, whatever it writes to the room and whatever its turns ask: what is known at each turn.
-- Assumes nothing.
use mathlib.Core.Path.{◌≡◌, refl, sym, ap, subst, ◌∙◌}
use mathlib.Core.Bool.{Bool, true, false, cond}
use mathlib.Core.List.{List}
use Prim.Native.Nat.{ℕ, ◌≤◌, ◌<◌}
use native.Mathlib.Omega.{arith}
use lib.Dec.{ltb}
use lib.ListN.{get_or}
use borrow.Author.Tests.{ltb-true, ltb-false}
use Rattle.table.specs.Terms.{terms, term_at}
use Rattle.table.specs.Faults.{is_read}
use Rattle.table.specs.WellFormed.{WellFormed}
use Rattle.setting.specs.declared.cells.Cell.{Cell}
use Rattle.setting.specs.Cells.{look_from}
use Rattle.setting.specs.Interpretation.{Interpretation, interpret}
use Rattle.evaluate.specs.declared.reads.Found.{Found}
use Rattle.evaluate.specs.declared.turns.Turn.{Turn}
use Rattle.evaluate.specs.Values.{numbers}
use Rattle.evaluate.specs.Code.Reads.{found_at}
use Rattle.evaluate.specs.Code.Turns.{told, turn_by, turn_of}
use Rattle.evaluate.proofs.Meaning.{value_read}

-- what a turn at term i of n says of itself, with so many cells
pub record Turning (n count i : ℕ) (turn : Turn) : Type 0 where
  pub going : turn.pending ≡ ltb i n
  pub place : turn.at ≡ i
  pub most : turn.count ≤ count

turning_told : (n count i other : ℕ) → Turning n count i (told (ltb i n) i other)
turning_told n count i other = record { going = refl; place = refl; most = omega arith }

turning_by : (stored : Bool) (number : ℕ) (row : List ℕ) (n count i index : ℕ) → Turning n count i (turn_by stored number row (ltb i n) i count index)
turning_by true number row n count i index = turning_told n count i number
turning_by false number row n count i index = record { going = refl; place = refl; most = omega arith }

module _ (w row front : List ℕ) (count n i : ℕ) where
  abbrev found : Found
  found = found_at w front (term_at w i).p (get_or front (term_at w i).q 0)

  -- what a read asks
  abbrev asks_read : Turn
  asks_read = turn_by found.stored found.number row (ltb i n) i count (get_or front (term_at w i).q 0)

  pub turning : Turning n count i (turn_of w row count n front i)
  unfolding turn_of
  turning = by (is_read (term_at w i))
    where
      by : (b : Bool) → Turning n count i (cond b asks_read (told (ltb i n) i 0))
      by true = turning_by found.stored found.number row n count i (get_or front (term_at w i).q 0)
      by false = turning_told n count i 0

  asks_is : is_read (term_at w i) ≡ true → turn_of w row count n front i ≡ asks_read
  unfolding turn_of
  asks_is r = rw r

-- a value row and cells
abbrev pub in_cells : List ℕ → (ℕ → Cell) → ℕ → Interpretation
in_cells row cells count = interpret row (λ slot j other. look_from cells count 0 slot j other)

-- what is looked up for a turn
abbrev pub looked : (ℕ → Cell) → Turn → ℕ
looked cells t = look_from cells t.count 0 t.slot t.index t.other

looked_by : (cells : ℕ → Cell) (stored : Bool) (number : ℕ) (row : List ℕ) (on : Bool) (i count index : ℕ)
    → looked cells (turn_by stored number row on i count index) ≡ cond stored number (look_from cells count 0 number index (get_or row number 0))
unfolding look_from
looked_by cells true number row on i count index = refl
looked_by cells false number row on i count index = refl

-- the answer to a read is its value
pub answer_is : (limit : ℕ) (w row : List ℕ) (cells : ℕ → Cell) (count n : ℕ) (f : WellFormed limit w) (i : ℕ) (b : i < terms w) (turn : Turn) → turn ≡ turn_of w row count n (numbers w (in_cells row cells count) i) i
    → (answer : ℕ) → answer ≡ looked cells turn → is_read (term_at w i) ≡ true → answer ≡ value_read limit w row (λ slot j other. look_from cells count 0 slot j other) f i b
answer_is limit w row cells count n f i b turn asks answer answered r =
    let front = numbers w (in_cells row cells count) i in
    let x = term_at w i in
    let index = get_or front x.q 0 in
    answered
    ∙ ap (looked cells) (asks ∙ asks_is w row front count n i r)
    ∙ looked_by cells (found_at w front x.p index).stored (found_at w front x.p index).number row (ltb i n) i count index

-- room_at i is what the room holds before term i of n, turn_at i what that term asks
module _ (n : ℕ) (room_at : ℕ → List ℕ) (turn_at : ℕ → Turn) where
  -- the run has come to term i
  pub record Running (room : List ℕ) (turn : Turn) : Type 0 where
    pub i : ℕ
    pub within : i ≤ n
    pub is : room ≡ room_at i
    pub asks : turn ≡ turn_at i

  module _ (count : ℕ) (says : (i : ℕ) → Turning n count i (turn_at i)) (room : List ℕ) (turn : Turn) (h : Running room turn) where
    here : Turning n count h.i turn
    here = subst (Turning n count h.i) (sym h.asks) (says h.i)

    pub at_is : turn.at ≡ h.i
    at_is = here.place

    pub count-here : turn.count ≤ count
    count-here = here.most

    pub inside : turn.pending ≡ true → h.i < n
    inside on = ltb-true h.i n (sym here.going ∙ on)

    pub going : turn.pending ≡ true → turn.at < n
    going on = omega (arith, at_is, inside on)

    pub ended : turn.pending ≡ false → room ≡ room_at n
    ended off =
        let past : n ≤ h.i = ltb-false h.i n (sym here.going ∙ off) in
        let e : h.i ≡ n = let b : h.i ≤ n = h.within in omega arith in
        h.is ∙ ap room_at e
