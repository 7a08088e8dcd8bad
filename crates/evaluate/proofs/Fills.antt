-- The run of evaluating: the front of the room holds the values so far.
-- Assumes nothing.
use mathlib.Core.Path.{◌≡◌, refl, sym, ap, ◌∙◌}
use mathlib.Core.Bool.{true}
use mathlib.Core.List.{List, [], ◌++◌}
use Prim.Native.Nat.{ℕ, ◌+◌, ◌≤◌, ◌<◌}
use native.Mathlib.Omega.{arith}
use lib.ListN.{length, take, drop, set}
use lib.Seq.{take_at}
use Rattle.ops.proofs.Booleans.{never}
use Rattle.table.specs.Folds.{fold}
use Rattle.table.specs.Terms.{terms, term_at}
use Rattle.table.specs.Faults.{is_read}
use Rattle.table.specs.WellFormed.{WellFormed}
use Rattle.setting.specs.declared.cells.Cell.{Cell}
use Rattle.setting.specs.Cells.{look_from}
use Rattle.setting.specs.Interpretation.{Interpretation}
use Rattle.evaluate.specs.declared.turns.Turn.{Turn}
use Rattle.evaluate.specs.Values.{value_at, numbers}
use Rattle.evaluate.specs.Code.Turns.{turn_of, number_of, is_read_at, next_read, onward, numbered}
use Rattle.evaluate.proofs.Folds.{length-numbers, numbers_more}
use Rattle.table.proofs.Fronts.{front_more, front_length}
use Rattle.evaluate.proofs.Meaning.{value_read, number_is}
use Rattle.evaluate.proofs.Onward.{Arrived, arrived}
use Rattle.evaluate.proofs.Runs.{in_cells, Running, Turning, turning, at_is, inside, answer_is}

module _ (w row : List ℕ) (cells : ℕ → Cell) (count n : ℕ) (begin : List ℕ) where
  abbrev I : Interpretation
  I = in_cells row cells count

  -- the room before term i, which began as begin, and what the term asks
  abbrev pub filled : ℕ → List ℕ
  filled i = numbers w I i ++ drop i begin

  abbrev pub asking : ℕ → Turn
  asking i = turn_of w row count n (numbers w I i) i

  abbrev pub Filling : List ℕ → Turn → Type 0
  Filling = Running n filled asking

  pub asks : (i : ℕ) → Turning n count i (asking i)
  asks i = turning w row (numbers w I i) count n i

  pub started : (turn : Turn) → turn ≡ turn_of w row count n [] 0 → Filling begin turn
  unfolding fold
  started turn e = record { i = 0; within = omega arith; is = refl; asks = e }

  front_is : (i : ℕ) → take i (filled i) ≡ numbers w I i
  front_is i = take_at (numbers w I i) (drop i begin) i (length-numbers w I i)

  module _ (limit : ℕ) (f : WellFormed limit w) (all : n ≡ terms w) (enough : n ≤ length begin) where
    -- a term writes its value
    wrote : (i answer : ℕ) (b : i < terms w) → (is_read (term_at w i) ≡ true → answer ≡ value_read limit w row (λ slot j other. look_from cells count 0 slot j other) f i b)
        → numbered w row answer (filled i) i ≡ filled (i + 1)
    wrote i answer b h =
        ap (λ (l : List ℕ). set (filled i) i (number_of w row l (term_at w i) answer)) (front_is i)
        ∙ ap (set (filled i) i) (number_is limit w row (λ slot j other. look_from cells count 0 slot j other) f i b answer h)
        ∙ front_more (numbers w I i) begin i (value_at w I i).num (length-numbers w I i) (omega arith)
        ∙ ap (λ (l : List ℕ). l ++ drop (i + 1) begin) (sym (numbers_more w I i))

    -- from term i on to the next read
    module _ (i : ℕ) (within : i ≤ n) (room next : List ℕ) (after : Turn) (is : room ≡ filled i)
        (e : next ≡ onward w (numbered w row 0) n room i) (t : after ≡ turn_of w row count n (take (next_read w n i) next) (next_read w n i)) where
      there : Arrived (is_read_at w) (numbered w row 0) filled n (λ k b s. wrote k 0 (omega arith) (λ r. never (sym s ∙ r))) i room
      there = arrived (is_read_at w) (numbered w row 0) filled n (λ k b s. wrote k 0 (omega arith) (λ r. never (sym s ∙ r))) i room within is

      pub arrive : Filling next after
      arrive =
          record {
            i = next_read w n i;
            within = there.high;
            is = e ∙ there.is;
            asks = t ∙ ap (λ (l : List ℕ). turn_of w row count n l (next_read w n i)) (ap (take (next_read w n i)) (e ∙ there.is) ∙ front_is (next_read w n i));
          }

      pub later : i ≤ after.at
      later = let b : i ≤ next_read w n i = there.low in omega (arith, ap (λ (u : Turn). u.at) t ∙ (turning w row (take (next_read w n i) next) count n (next_read w n i)).place)

    module _ (room : List ℕ) (turn : Turn) (h : Filling room turn) where
      pub same_length : length room ≡ length begin
      same_length =
          let b : h.i ≤ n = h.within in
          ap length h.is ∙ front_length (numbers w I h.i) begin h.i (length-numbers w I h.i) (omega arith)

      module _ (on : turn.pending ≡ true) (answer : ℕ) (answered : answer ≡ look_from cells turn.count 0 turn.slot turn.index turn.other) where
        here : h.i < n
        here = inside n filled asking count asks room turn h on

        read_is : numbered w row answer room turn.at ≡ filled (h.i + 1)
        read_is =
            ap (numbered w row answer room) (at_is n filled asking count asks room turn h)
            ∙ ap (λ (l : List ℕ). numbered w row answer l h.i) h.is
            ∙ wrote h.i answer (omega (arith, here)) (answer_is limit w row cells count n f h.i (omega (arith, here)) turn h.asks answer answered)

        -- the next turn, which is of a later term
        pub turned : (next : List ℕ) (after : Turn) → next ≡ onward w (numbered w row 0) n (numbered w row answer room turn.at) (turn.at + 1)
            → after ≡ turn_of w row count n (take (next_read w n (turn.at + 1)) next) (next_read w n (turn.at + 1)) → Filling next after × (turn.at + 1 ≤ after.at)
        turned next after e t =
            let at : turn.at + 1 ≡ h.i + 1 = ap (λ (k : ℕ). k + 1) (at_is n filled asking count asks room turn h) in
            let b : turn.at + 1 ≤ n = omega (arith, here, at) in
            let is : numbered w row answer room turn.at ≡ filled (turn.at + 1) = read_is ∙ ap filled (sym at) in (
              arrive (turn.at + 1) b (numbered w row answer room turn.at) next after is e t,
              later (turn.at + 1) b (numbered w row answer room turn.at) next after is e t,
            )
