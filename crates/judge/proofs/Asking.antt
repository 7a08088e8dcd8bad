-- What a turn of a judgement says of itself, and what is answered to it: cell by cell, what a read asks for.
-- Assumes nothing.
use mathlib.Core.Path.{◌≡◌, refl, sym, ap, ap₂, ◌∙◌}
use mathlib.Core.Bool.{Bool, true, false, cond, ◌&&◌}
use mathlib.Core.List.{List}
use Prim.Native.Nat.{ℕ, ◌+◌, ◌≤◌, ◌<◌}
use native.Mathlib.Decide.{ℕ_discrete}
use native.Mathlib.Nat.{zero-add}
use native.Mathlib.Omega.{arith}
use lib.Dec.{ltb}
use lib.ListN.{length, get_or, set, replicate}
use lib.Seq.{get_or-set_same, get_or-set_other}
use borrow.Author.Tests.{ltb-true, ltb-false}
use Rattle.ops.proofs.Booleans.{never}
use Rattle.table.specs.declared.words.Term.{Term}
use Rattle.table.specs.Terms.{terms, term_at}
use Rattle.table.specs.Faults.{is_read, is_store}
use Rattle.table.specs.WellFormed.{WellFormed}
use Rattle.setting.specs.declared.cells.Cell.{Cell}
use Rattle.setting.specs.Cells.{look_from}
use Rattle.evaluate.specs.declared.turns.Turn.{Turn as Asked}
use Rattle.evaluate.specs.Values.{numbers}
use Rattle.evaluate.specs.Code.Turns as evaluating
use Rattle.evaluate.proofs.Runs as runs
use Rattle.evaluate.proofs.Runs.{in_cells, looked, Turning}
use Rattle.judge.specs.declared.turns.Turn.{Turn}
use Rattle.judge.specs.Conditions.{truths}
use Rattle.judge.specs.Code.Leaves.{leaves_at}
use Rattle.judge.specs.Code.Labelled.{truth_in, picked_by}
use Rattle.judge.specs.Code.Reach.{reach_at, held_at}
use Rattle.judge.specs.Code.Turns.{alone, held, asks_for, array_of, turn_of, gathered}
use Rattle.judge.proofs.LeafLaws.{few_leaves}
use Rattle.judge.proofs.Meaning.{Answers}

-- the part of a turn that evaluating has too
abbrev pub asked : Turn → Asked
asked t = record { pending = t.pending; at = t.at; count = t.count; slot = t.slot; index = t.index; other = t.other }

-- whether term i of a table reads at a free index
abbrev pub free_read : List ℕ → List ℕ → ℕ → Bool
free_read w ts i = is_read (term_at w i) && truth_in ts (term_at w i).q

-- the array that term i reaches, where it is such a read, and whether that is a store that is picked
abbrev pub reached : List ℕ → List ℕ → List ℕ → ℕ → ℕ
reached = array_of

abbrev pub held_read : List ℕ → List ℕ → List ℕ → ℕ → Bool
held_read w front ts i = held_at w front ts (get_or front (term_at w i).q 0) (reached w front ts i)

-- such a read asks for cells, unless a store answers
abbrev pub Seeking : List ℕ → List ℕ → List ℕ → ℕ → Type 0
Seeking w front ts i = (free_read w ts i ≡ true) × (held_read w front ts i ≡ false)

-- as the code finds them
module _ (w front ts : List ℕ) (i : ℕ) (x : Term) (index to : ℕ) (y : Term) (x-is : x ≡ term_at w i) (found : index ≡ get_or front x.q 0) (came : to ≡ reach_at w front ts index x.p) (y-is : y ≡ term_at w to) where
  pub index_is : index ≡ get_or front (term_at w i).q 0
  index_is = found ∙ ap (λ (z : Term). get_or front z.q 0) x-is

  pub reached_is : to ≡ reached w front ts i
  reached_is = came ∙ ap₂ (λ (j : ℕ) (z : Term). reach_at w front ts j z.p) index_is x-is

  pub held_is : is_store y && picked_by front ts y index true ≡ held_read w front ts i
  held_is = ap (λ (z : Term). is_store z && picked_by front ts z index true) y-is ∙ ap₂ (λ (j k : ℕ). held_at w front ts j k) index_is reached_is

module _ (w row front ts had : List ℕ) (count n i met : ℕ) where
  -- what such a read asks
  abbrev pub asks_cell : Turn
  asks_cell = asks_for row (ltb i n) i count (get_or front (term_at w i).q 0) met (reached w front ts i) (length (leaves_at w (reached w front ts i))) had

  abbrev asks_none : Turn
  asks_none = held (ltb i n) i (reached w front ts i)

  abbrev asks_value : Turn
  asks_value = alone (evaluating.turn_of w row count n front i)

  abbrev asks_by : Bool → Bool → Turn
  asks_by z y = cond z (cond y asks_none asks_cell) asks_value

  pub turning : Turning n count i (asked (turn_of w row count n front ts had i met))
  unfolding turn_of
  turning = by (free_read w ts i) (held_read w front ts i)
    where
      by : (z y : Bool) → Turning n count i (asked (asks_by z y))
      by true true = record { going = refl; place = refl; most = omega arith }
      by true false = record { going = refl; place = refl; most = omega arith }
      by false y = runs.turning w row front count n i

  pub free-asks : Seeking w front ts i → turn_of w row count n front ts had i met ≡ asks_cell
  unfolding turn_of
  free-asks e = λ k. asks_by (e.0 k) (e.1 k)

  pub held_asks : free_read w ts i ≡ true → held_read w front ts i ≡ true → turn_of w row count n front ts had i met ≡ asks_none
  unfolding turn_of
  held_asks e h = λ k. asks_by (e k) (h k)

  pub plain-asks : free_read w ts i ≡ false → turn_of w row count n front ts had i met ≡ asks_value
  unfolding turn_of
  plain-asks e = λ k. asks_by (e k) (held_read w front ts i)

  -- which of the three it is
  way : {A : Type 0} (z y : Bool) → free_read w ts i ≡ z → held_read w front ts i ≡ y → (Seeking w front ts i → A) → (free_read w ts i ≡ true → held_read w front ts i ≡ true → A) → (free_read w ts i ≡ false → A) → A
  way true true e h seeks holds-it plain = holds-it e h
  way true false e h seeks holds-it plain = seeks (e, h)
  way false y e h seeks holds-it plain = plain e

  pub by_ways : {A : Type 0} → (Seeking w front ts i → A) → (free_read w ts i ≡ true → held_read w front ts i ≡ true → A) → (free_read w ts i ≡ false → A) → A
  by_ways = way (free_read w ts i) (held_read w front ts i) refl refl

  -- it has room for 17 cells
  pub long_cells : length had ≡ 17 → length (turn_of w row count n front ts had i met).cells ≡ 17
  unfolding turn_of
  long_cells long = by (free_read w ts i) (held_read w front ts i)
    where
      by : (z y : Bool) → length (asks_by z y).cells ≡ 17
      by true true = refl
      by true false = long
      by false y = refl

  -- a turn that goes on after its cell is such a read's
  pub more-free : (turn_of w row count n front ts had i met).more ≡ true → Seeking w front ts i × (met + 1 < length (leaves_at w (reached w front ts i)))
  unfolding turn_of
  more-free = by (free_read w ts i) (held_read w front ts i)
    where
      by : (z y : Bool) → (asks_by z y).more ≡ true → ((z ≡ true) × (y ≡ false)) × (met + 1 < length (leaves_at w (reached w front ts i)))
      by true true h = never h
      by true false h = ((refl, refl), ltb-true (met + 1) (length (leaves_at w (reached w front ts i))) h)
      by false y h = never h

-- Of term i of a table in an interpretation: the cells of its variables
module _ (w : List ℕ) (marked : Term → Bool) (row : List ℕ) (cells : ℕ → Cell) (count i : ℕ) where
  abbrev pub array_here : ℕ
  array_here = reached w (numbers w (in_cells row cells count) i) (truths w marked (in_cells row cells count) i) i

  -- the cell of number m of them
  abbrev pub variable_cell : ℕ → ℕ
  variable_cell m =
      let slot = get_or (leaves_at w array_here) m 0 in
      look_from cells count 0 slot (get_or (numbers w (in_cells row cells count) i) (term_at w i).q 0) (get_or row slot 0)

  -- so many are had, and there is one to ask for
  pub record Gathering (met : ℕ) (had : List ℕ) : Type 0 where
    pub next : met < length (leaves_at w array_here)
    pub before : (m : ℕ) → m < met → get_or had m 0 ≡ variable_cell m
    pub ahead : (m : ℕ) → met ≤ m → m < length (leaves_at w array_here) → get_or had m 0 ≡ get_or (leaves_at w array_here) m 0

module _ (limit : ℕ) (w : List ℕ) (marked : Term → Bool) (row : List ℕ) (cells : ℕ → Cell) (count n : ℕ) (f : WellFormed limit w) (i : ℕ) (b : i < terms w) where
  abbrev N : List ℕ
  N = numbers w (in_cells row cells count) i

  abbrev T : List ℕ
  T = truths w marked (in_cells row cells count) i

  abbrev slots : List ℕ
  slots = leaves_at w (reached w N T i)

  module _ (turn : Turn) (met : ℕ) (had : List ℕ) (long : length had ≡ 17) (asks : turn ≡ turn_of w row count n N T had i met) (going : Seeking w N T i → Gathering w marked row cells count i met had) where
    -- there is room for its answer
    pub room : turn.met < 17
    room = by_ways w row N T had count n i met
        (λ e. omega (arith, ap (λ (t : Turn). t.met) (asks ∙ free-asks w row N T had count n i met e), (going e).next, few_leaves limit w f (reached w N T i)))
        (λ e h. omega (arith, ap (λ (t : Turn). t.met) (asks ∙ held_asks w row N T had count n i met e h)))
        (λ e. omega (arith, ap (λ (t : Turn). t.met) (asks ∙ plain-asks w row N T had count n i met e)))

    module _ (answer : ℕ) (answered : answer ≡ looked cells (asked turn)) where
      -- one more is had
      module _ (e : Seeking w N T i) where
        is : turn ≡ asks_cell w row N T had count n i met
        is = asks ∙ free-asks w row N T had count n i met e

        now_had : gathered turn answer ≡ set had met answer
        now_had = ap (λ (t : Turn). set t.cells t.met answer) is

        small : met < length had
        small = omega (arith, long, (going e).next, few_leaves limit w f (reached w N T i))

        pub one_more_lem : (m : ℕ) → m < met + 1 → get_or (gathered turn answer) m 0 ≡ variable_cell w marked row cells count i m
        one_more_lem m c = ap (λ (l : List ℕ). get_or l m 0) now_had ∙ go (ℕ_discrete m met)
          where
            go : Dec (m ≡ met) → get_or (set had met answer) m 0 ≡ variable_cell w marked row cells count i m
            go (yes k) =
                ap (λ (j : ℕ). get_or (set had met answer) j 0) k
                ∙ get_or-set_same had met answer 0 small
                ∙ answered
                ∙ ap (λ (t : Turn). looked cells (asked t)) is
                ∙ ap (λ (slot : ℕ). look_from cells count 0 slot (get_or N (term_at w i).q 0) (get_or row slot 0)) ((going e).ahead met (omega arith) (going e).next)
                ∙ ap (variable_cell w marked row cells count i) (sym k)
            go (no k) = get_or-set_other had met m answer 0 k ∙ (going e).before m (omega arith)

        pub still_ahead : (m : ℕ) → met + 1 ≤ m → m < length slots → get_or (gathered turn answer) m 0 ≡ get_or slots m 0
        still_ahead m c d = ap (λ (l : List ℕ). get_or l m 0) now_had ∙ get_or-set_other had met m answer 0 (λ k. omega (arith, k, c)) ∙ (going e).ahead m (omega arith) d

      -- where it asks for no more, all is had that the term needs
      pub answers : turn.more ≡ false → is_read (term_at w i) ≡ true → Answers limit w marked row (λ slot j other. look_from cells count 0 slot j other) f i b (truth_in T (term_at w i).q) turn.array (gathered turn answer)
      answers none r = by (truth_in T (term_at w i).q) refl
        where
          array_is : free_read w T i ≡ true → turn.array ≡ reached w N T i
          array_is e = by_ways w row N T had count n i met
              (λ s. ap (λ (t : Turn). t.array) (asks ∙ free-asks w row N T had count n i met s))
              (λ g h. ap (λ (t : Turn). t.array) (asks ∙ held_asks w row N T had count n i met g h))
              (λ g. never (sym g ∙ e))

          by : (z : Bool) → truth_in T (term_at w i).q ≡ z → Answers limit w marked row (λ slot j other. look_from cells count 0 slot j other) f i b z turn.array (gathered turn answer)
          by true z =
              let e : free_read w T i ≡ true = ap₂ (λ (x y : Bool). x && y) r z in (
                array_is e,
                λ h m c.
                    let last : length slots ≤ met + 1 = ltb-false (met + 1) (length slots) (sym (ap (λ (t : Turn). t.more) (is (e, h))) ∙ none) in
                    ap (λ (k : ℕ). get_or (gathered turn answer) k 0) (zero-add m) ∙ one_more_lem (e, h) m (omega arith),
              )
          by false z =
              let e : free_read w T i ≡ false = ap₂ (λ (x y : Bool). x && y) r z in
              let is = asks ∙ plain-asks w row N T had count n i met e in
              ap (λ (t : Turn). get_or (set t.cells t.met answer) 0 0) is
              ∙ get_or-set_same (replicate 17 0) 0 answer 0 (omega arith)
              ∙ runs.answer_is limit w row cells count n f i b (asked turn) (ap asked is) answer answered r
