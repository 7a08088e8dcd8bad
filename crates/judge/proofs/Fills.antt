-- The run of judging: the room holds the values and the truths so far.
-- Assumes nothing.
use mathlib.Core.Path.{◌≡◌, refl, sym, ap, ap₂, subst, ◌∙◌}
use mathlib.Core.Bool.{Bool, true, false, cond}
use mathlib.Core.List.{List, [], ◌∷◌, ◌++◌}
use Prim.Native.Nat.{ℕ, ◌+◌, ◌-◌, ◌*◌, ◌≤◌, ◌<◌}
use native.Mathlib.Nat.{not-suc-le-zero}
use native.Mathlib.Omega.{arith}
use lib.ListN.{length, take, drop, replicate, length-set}
use lib.Seq.{length-sets}
use borrow.Author.Tests.{ltb-true, ltb-false}
use Rattle.ops.specs.Meaning.{bit}
use Rattle.ops.proofs.Booleans.{never, and_shut}
use Rattle.table.specs.Folds.{fold}
use Rattle.table.specs.declared.words.Term.{Term}
use Rattle.table.specs.Terms.{terms, term_at}
use Rattle.table.specs.Faults.{is_read}
use Rattle.table.specs.WellFormed.{WellFormed}
use Rattle.table.proofs.FoldLaws.{map-fold-more}
use Rattle.table.proofs.SoundTerms.{stacked}
use Rattle.setting.specs.declared.cells.Cell.{Cell}
use Rattle.setting.specs.Cells.{look_from}
use Rattle.setting.specs.Interpretation.{Interpretation}
use Rattle.evaluate.specs.Values.{value_in, values, value_at, numbers}
use Rattle.evaluate.specs.Code.Turns.{is_read_at, next_read}
use Rattle.evaluate.proofs.Folds.{length-numbers, numbers_more}
use Rattle.evaluate.proofs.Onward.{Arrived, arrived}
use Rattle.evaluate.proofs.Runs.{in_cells, Turning}
use Rattle.judge.specs.declared.turns.Turn.{Turn}
use Rattle.judge.specs.declared.reads.Labelled.{Labelled}
use Rattle.judge.specs.Conditions.{condition_in, condition_from, condition_at, truths}
use Rattle.judge.specs.Code.Leaves.{leaves_at}
use Rattle.judge.specs.Code.Labelled.{truth_in, labelled_of, entered, noted, plain_noted}
use Rattle.judge.specs.Code.Turns.{slots_of, turn_of, asks_first, turn_here, first_turn, gathered, asks_for, asks_more, note_on, next_room, next_turn}
use Rattle.judge.proofs.LeafLaws.{some_leaves, few_leaves, sets_read}
use Rattle.judge.proofs.Meaning.{length-truths, Answers, labelled_is}
use Rattle.judge.proofs.Asking.{asked, reached, Seeking, turning, free-asks, asks_cell, long_cells, more-free, Gathering, room as room_for, one_more_lem, still_ahead, answers}
use Rattle.judge.proofs.Steps.{plain_notes}
use Rattle.judge.proofs.Rooms.{runs, laid_length, laid_front, laid_truths, laid_more, laid_none}

truths-more : (w : List ℕ) (marked : Term → Bool) (I : Interpretation) (k : ℕ) → truths w marked I (k + 1) ≡ truths w marked I k ++ (bit (condition_at w marked I k).free ∷ [])
truths-more w marked I k = map-fold-more (λ cs i. condition_from w marked (value_in (values w I i)) (condition_in cs) (term_at w i)) (λ c. bit c.free) k

module _ (w : List ℕ) (marked : Term → Bool) (row : List ℕ) (cells : ℕ → Cell) (count n : ℕ) (begin : List ℕ) where
  abbrev I : Interpretation
  I = in_cells row cells count

  -- the room before term i of n, which began as begin, and what the term asks where it has met so many of its variables
  abbrev pub filled : ℕ → List ℕ
  filled i = runs (numbers w I i) (truths w marked I i) n i begin

  abbrev pub asking : ℕ → ℕ → List ℕ → Turn
  asking i met had = turn_of w row count n (numbers w I i) (truths w marked I i) had i met

  -- the slots of the variables of the array that it reaches
  abbrev slots_here : ℕ → List ℕ
  slots_here i = slots_of w (reached w (numbers w I i) (truths w marked I i) i)

  -- the run has come to term i, and to the next of its variables
  pub record Filling (room : List ℕ) (turn : Turn) : Type 0 where
    pub i : ℕ
    pub within : i ≤ n
    pub is : room ≡ filled i
    pub met : ℕ
    pub had : List ℕ
    pub long : length had ≡ 17
    pub asks : turn ≡ asking i met had
    pub going : Seeking w (numbers w I i) (truths w marked I i) i → Gathering w marked row cells count i met had

  module _ (room : List ℕ) (turn : Turn) (h : Filling room turn) where
    here : Turning n count h.i (asked turn)
    here = subst (λ (t : Turn). Turning n count h.i (asked t)) (sym h.asks) (turning w row (numbers w I h.i) (truths w marked I h.i) h.had count n h.i h.met)

    at_is : turn.at ≡ h.i
    at_is = here.place

    pub count-here : turn.count ≤ count
    count-here = here.most

    inside : turn.pending ≡ true → h.i < n
    inside on = ltb-true h.i n (sym here.going ∙ on)

    pub at_going : turn.pending ≡ true → turn.at < n
    at_going on = omega (arith, at_is, inside on)

    seeks_is : Seeking w (numbers w I h.i) (truths w marked I h.i) h.i → turn ≡ asks_cell w row (numbers w I h.i) (truths w marked I h.i) h.had count n h.i h.met
    seeks_is e = h.asks ∙ free-asks w row (numbers w I h.i) (truths w marked I h.i) h.had count n h.i h.met e

    met_of : Seeking w (numbers w I h.i) (truths w marked I h.i) h.i → turn.met ≡ h.met
    met_of e = ap (λ (t : Turn). t.met) (seeks_is e)

    pub ended : turn.pending ≡ false → room ≡ filled n
    ended off =
        let past : n ≤ h.i = ltb-false h.i n (sym here.going ∙ off) in
        let e : h.i ≡ n = let b : h.i ≤ n = h.within in omega arith in
        h.is ∙ ap filled e

  -- before the first term no index is free
  pub started : (turn : Turn) → turn ≡ first_turn w row count n → Filling begin turn
  unfolding fold
  started turn e =
      record {
        i = 0;
        within = omega arith;
        is = laid_none n begin;
        met = 0;
        had = slots_here 0;
        long = length-sets (replicate 17 0) 0 (leaves_at w (reached w (numbers w I 0) (truths w marked I 0) 0));
        asks = e;
        going = λ free. never (sym (and_shut (is_read (term_at w 0))) ∙ free.0);
      }

  module _ (limit : ℕ) (f : WellFormed limit w) (all : n ≡ terms w) (enough : n + n ≤ length begin) where
    module _ (i : ℕ) (within : i ≤ n) where
      front_is : take i (filled i) ≡ numbers w I i
      front_is = laid_front (numbers w I i) (truths w marked I i) n i begin enough within (length-numbers w I i) (length-truths w marked I i)

      truths_are : take i (drop n (filled i)) ≡ truths w marked I i
      truths_are = laid_truths (numbers w I i) (truths w marked I i) n i begin enough within (length-numbers w I i) (length-truths w marked I i)

      long : length (filled i) ≡ length begin
      long = laid_length (numbers w I i) (truths w marked I i) n i begin enough within (length-numbers w I i) (length-truths w marked I i)

      -- what term i asks there
      turn_is : (room : List ℕ) (turn : Turn) → room ≡ filled i → turn ≡ turn_here w row count n room i → turn ≡ asking i 0 (slots_here i)
      turn_is room turn e t =
          t ∙ ap (λ (l : List ℕ). turn_here w row count n l i) e ∙ ap₂ (λ (l m : List ℕ). asks_first w row count n l m i) front_is truths_are

    -- a term notes its value and its truth
    wrote : (to : ℕ) (had : List ℕ) (i : ℕ) (b : i < terms w) → (is_read (term_at w i) ≡ true → Answers limit w marked row (λ slot j other. look_from cells count 0 slot j other) f i b (truth_in (truths w marked I i) (term_at w i).q) to had)
        → noted w marked row n to had (filled i) i ≡ filled (i + 1)
    wrote to had i b h =
        let meant : Labelled = record { value = (value_at w I i).num; free = (condition_at w marked I i).free } in
        ap (λ (r : Labelled). entered r n (filled i) i)
        (ap₂ (λ (l m : List ℕ). labelled_of w marked row l m (term_at w i) to had) (front_is i (omega arith)) (truths_are i (omega arith))
        ∙ labelled_is limit w marked row (λ slot j other. look_from cells count 0 slot j other) f i b to had h)
        ∙ laid_more (numbers w I i) (truths w marked I i) n i begin enough (omega arith) (length-numbers w I i) (length-truths w marked I i) (omega arith) meant.value (bit meant.free)
        ∙ sym (ap₂ (λ (l m : List ℕ). runs l m n (i + 1) begin) (numbers_more w I i) (truths-more w marked I i))

    wrote-plain : (i : ℕ) → i < n → is_read_at w i ≡ false → plain_noted w marked row n (filled i) i ≡ filled (i + 1)
    wrote-plain i b s = plain_notes w marked row n 0 [] (filled i) i s ∙ wrote 0 [] i (omega (arith, all, b)) (λ r. never (sym s ∙ r))

    module _ (room : List ℕ) (turn : Turn) (h : Filling room turn) where
      pub same_length : length room ≡ length begin
      same_length = ap length h.is ∙ long h.i h.within

      module _ (on : turn.pending ≡ true) where
        b : h.i < terms w
        b = omega (arith, all, inside room turn h on)

        pub room_left : turn.met < 17
        room_left = room_for limit w marked row cells count n f h.i b turn h.met h.had h.long h.asks h.going

        module _ (answer : ℕ) (answered : answer ≡ look_from cells turn.count 0 turn.slot turn.index turn.other) where
          abbrev had' : List ℕ
          had' = gathered turn answer

          long' : length had' ≡ 17
          long' =
              length-set turn.cells turn.met answer
              ∙ ap (λ (t : Turn). length t.cells) h.asks
              ∙ long_cells w row (numbers w I h.i) (truths w marked I h.i) h.had count n h.i h.met h.long

          -- the read asks for more: the same term, and one cell more
          module _ (more : turn.more ≡ true) where
            seeks : Seeking w (numbers w I h.i) (truths w marked I h.i) h.i × (h.met + 1 < length (leaves_at w (reached w (numbers w I h.i) (truths w marked I h.i) h.i)))
            seeks = more-free w row (numbers w I h.i) (truths w marked I h.i) h.had count n h.i h.met (sym (ap (λ (t : Turn). t.more) h.asks) ∙ more)

            met_is : turn.met ≡ h.met
            met_is = met_of room turn h seeks.0

            more_is : asks_more row turn answer ≡ asking h.i (h.met + 1) had'
            more_is =
                ap (λ (t : Turn). asks_for row t.pending t.at t.count t.index (t.met + 1) t.array t.leaves had') (seeks_is room turn h seeks.0)
                ∙ sym (free-asks w row (numbers w I h.i) (truths w marked I h.i) had' count n h.i (h.met + 1) seeks.0)

            pub gathers : (after : Turn) → after ≡ asks_more row turn answer → Filling room after × (after.at ≡ turn.at) × (after.met ≡ turn.met + 1)
            gathers after t =
                let same : Filling room after =
                record {
                  i = h.i;
                  within = h.within;
                  is = h.is;
                  met = h.met + 1;
                  had = had';
                  long = long';
                  asks = t ∙ more_is;
                  going = λ e. record {
                    next = seeks.1;
                    before = one_more_lem limit w marked row cells count n f h.i b turn h.met h.had h.long h.asks h.going answer answered e;
                    ahead = still_ahead limit w marked row cells count n f h.i b turn h.met h.had h.long h.asks h.going answer answered e;
                  };
                } in
                (same, at_is room after same ∙ sym (at_is room turn h), met_of room after same seeks.0 ∙ ap (λ (m : ℕ). m + 1) (sym met_is))

          -- it asks for no more: it is noted, with the terms after it up to the next read
          module _ (none : turn.more ≡ false) where
            answers-here : is_read (term_at w h.i) ≡ true → Answers limit w marked row (λ slot j other. look_from cells count 0 slot j other) f h.i b (truth_in (truths w marked I h.i) (term_at w h.i).q) turn.array had'
            answers-here = answers limit w marked row cells count n f h.i b turn h.met h.had h.long h.asks h.going answer answered none

            abbrev written : List ℕ
            written = noted w marked row n turn.array had' room turn.at

            read_is : written ≡ filled (h.i + 1)
            read_is =
                ap (noted w marked row n turn.array had' room) (at_is room turn h)
                ∙ ap (λ (l : List ℕ). noted w marked row n turn.array had' l h.i) h.is
                ∙ wrote turn.array had' h.i b answers-here

            next_at : turn.at + 1 ≡ h.i + 1
            next_at = ap (λ (k : ℕ). k + 1) (at_is room turn h)

            there : Arrived (is_read_at w) (plain_noted w marked row n) filled n wrote-plain (turn.at + 1) written
            there = arrived (is_read_at w) (plain_noted w marked row n) filled n wrote-plain (turn.at + 1) written (omega (arith, at_going room turn h on)) (read_is ∙ ap filled (sym next_at))

            abbrev next : ℕ
            next = next_read w n (turn.at + 1)

            abbrev array_next : ℕ → ℕ
            array_next k = reached w (numbers w I k) (truths w marked I k) k

            pub goes_on : (room' : List ℕ) (after : Turn) → room' ≡ note_on w marked row n turn.array had' room turn.at → after ≡ turn_here w row count n room' next → Filling room' after × (turn.at + 1 ≤ after.at)
            goes_on room' after e t =
                let filled_next : Filling room' after =
                record {
                  i = next;
                  within = there.high;
                  is = e ∙ there.is;
                  met = 0;
                  had = slots_here next;
                  long = length-sets (replicate 17 0) 0 (leaves_at w (array_next next));
                  asks = turn_is next there.high room' after (e ∙ there.is) t;
                  going = λ _. record {
                    next = some_leaves w (stacked limit w f) (array_next next);
                    before = λ m c. absurd (not-suc-le-zero c);
                    ahead = λ m c d. sets_read (replicate 17 0) (leaves_at w (array_next next)) m (few_leaves limit w f (array_next next)) d;
                  };
                } in
                (filled_next, omega (arith, there.low, at_is room' after filled_next))

          -- the next turn: of a later term, or of this one with one cell more
          abbrev pub Nearer : Turn → Type 0
          Nearer after = (n - after.at) * 18 - after.met < (n - turn.at) * 18 - turn.met

          pub turned : (room' : List ℕ) (after : Turn) → room' ≡ next_room w marked row n turn answer room → after ≡ next_turn w row count n turn answer room' → Filling room' after × Nearer after
          turned room' after e t = by turn.more refl e t
            where
              by : (z : Bool) → turn.more ≡ z → room' ≡ cond z room (note_on w marked row n turn.array had' room turn.at)
                  → after ≡ cond z (asks_more row turn answer) (turn_here w row count n room' (next_read w n (turn.at + 1))) → Filling room' after × Nearer after
              by true more e t =
                  let same = gathers more after t in
                  (subst (λ (l : List ℕ). Filling l after) (sym e) same.0, omega (arith, same.1, same.2, at_going room turn h on, room_left))
              by false none e t =
                  let f' = goes_on none room' after e t in
                  (f'.0, omega (arith, f'.1, at_going room turn h on, room_left))
