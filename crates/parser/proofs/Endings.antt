-- What a text answers, and what it leaves in the room.
-- Assumes nothing.
use Rattle.std.specs.Prelude.{Ok, Err}
use Rattle.parser.specs.Expressions.{fault_in}
use mathlib.Core.Path.{◌≡◌, refl, ap, ◌∙◌}
use mathlib.Core.Bool.{Bool, true, false, cond}
use mathlib.Core.List.{List, ◌++◌}
use Prim.Native.Nat.{ℕ, ◌+◌, ◌*◌, ◌≤◌}
use native.Mathlib.Omega.{arith}
use lib.Dec.{eqb, ltb}
use lib.ListN.{length, take, drop, replicate}
use lib.Seq.{length-take-le}
use borrow.Author.Tests.{ltb-false}
use Rattle.table.specs.Answers.{Acceptance}
use Rattle.table.specs.Terms.{words}
use Rattle.table.specs.Admission.{and_then, admission}
use Rattle.parser.specs.Parsing.{Parsing}
use Rattle.parser.specs.declared.states.State.{State}
use Rattle.parser.specs.declared.states.Progress.{Progress}
use Rattle.parser.specs.Rules.{commands_of, start, rule_of}
use Rattle.parser.specs.Parsing.{not_parsed, built, tabled, parsing, room_after, given_by}
use Rattle.parser.proofs.Commands.{step_of, Is}

-- the answer of a state and a table
abbrev pub answer_of : State → List ℕ → ℕ → Parsing
answer_of s table room = cond (eqb (fault_in s) 0) (tabled (take (s.count * words) table) s.count room) (not_parsed (fault_in s) s.at)

-- the same, with the four things that decide it
decided : State → ℕ → Bool → Bool → Acceptance → Bool → Parsing
decided s room fine many a short =
    cond fine (cond many (not_parsed 2 0) (and_then Err a (cond short (not_parsed 21 s.count) (Ok (s.count * words))))) (not_parsed (fault_in s) s.at)

-- what is written is in the table and fits the room
pub record Fits (room : ℕ) (r : Parsing) : Type 0 where
  pub few : given_by r ≤ 3072
  pub enough : given_by r ≤ room

fits_decided : (s : State) (room : ℕ) (fine many : Bool) (a : Acceptance) (short : Bool) → ltb 512 s.count ≡ many → ltb room (s.count * words) ≡ short → Fits room (decided s room fine many a short)
unfolding decided
fits_decided s room false many a short e f = record { few = omega arith; enough = omega arith }
fits_decided s room true true a short e f = record { few = omega arith; enough = omega arith }
fits_decided s room true false (Err r) short e f = record { few = omega arith; enough = omega arith }
fits_decided s room true false (Ok _) true e f = record { few = omega arith; enough = omega arith }
fits_decided s room true false (Ok _) false e f = let few : s.count ≤ 512 = ltb-false _ _ e in record { few = omega arith; enough = ltb-false _ _ f }

pub fits : (s : State) (table : List ℕ) (room : ℕ) (r : Parsing) → r ≡ answer_of s table room → Fits room r
unfolding decided
fits s table room r e = rw e (fits_decided s room (eqb (fault_in s) 0) (ltb 512 s.count) (admission (take (s.count * words) table)) (ltb room (s.count * words)) refl refl)

-- the room's front is what the table's front was, and nothing where it is refused
filled_decided : (text room : List ℕ) (fine many : Bool) (a : Acceptance) (short : Bool) → (r : Parsing) → r ≡ decided (rule_of text).progress.state (length room) fine many a short
    → take (given_by r) (rule_of text).room ++ drop (given_by r) room ≡ room_after r text room
unfolding decided
filled_decided text room false many a short r e = rw e
filled_decided text room true true a short r e = rw e
filled_decided text room true false (Err q) short r e = rw e
filled_decided text room true false (Ok _) true r e = rw e
filled_decided text room true false (Ok _) false r e = rw e

module _ (text room : List ℕ) (p : Progress) (table : List ℕ) (is : Is (commands_of (length text + 1) text (step_of start (replicate 3072 0))) p table) (r : Parsing) (e : r ≡ answer_of p.state table (length room)) where
  pub parse_is : r ≡ parsing text (length room)
  unfolding rule_of
  parse_is = e ∙ rw (is.0, is.1)

  -- n numbers are copied
  module _ (long : length table ≡ 3072) (n : ℕ) (g : n ≡ given_by r) where
    pub within : n ≤ length table
    within = let few : given_by r ≤ 3072 = (fits p.state table (length room) r e).few in omega arith

    pub front : length (take n table) ≡ n
    front = length-take-le n table within

    pub enough : length (take n table) ≤ length room
    enough = let held : given_by r ≤ length room = (fits p.state table (length room) r e).enough in omega (arith, front)

    pub filled : (after : List ℕ) → after ≡ take n table ++ drop (length (take n table)) room → after ≡ room_after r text room
    unfolding rule_of decided
    filled after c =
        c ∙ ap (λ (k : ℕ). take n table ++ drop k room) front ∙ ap (λ (k : ℕ). take k table ++ drop k room) g
        ∙ ap (λ (l : List ℕ). take (given_by r) l ++ drop (given_by r) room) is.1
        ∙ filled_decided text room (eqb (fault_in (rule_of text).progress.state) 0) (ltb 512 (rule_of text).progress.state.count) (admission (built text)) (ltb (length room) ((rule_of text).progress.state.count * words)) r parse_is
