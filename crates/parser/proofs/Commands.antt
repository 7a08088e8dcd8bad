-- Commands, one after the other: what is left to read answers as the whole does.
-- Assumes nothing.
use mathlib.Core.Path.{◌≡◌, refl, sym, ap, ◌∙◌}
use mathlib.Core.Bool.{true, false}
use mathlib.Core.List.{List}
use Prim.Native.Nat.{ℕ, suc, ◌+◌, ◌-◌, ◌≤◌, ◌<◌}
use native.Mathlib.Numerals.{add-one}
use native.Mathlib.Omega.{arith}
use lib.ListN.{length}
use Rattle.parser.specs.declared.states.Progress.{Progress}
use Rattle.parser.specs.Rules.{Step, command_of, halted, commands_of, start}

abbrev pub step_of : Progress → List ℕ → Step
step_of p room = record { progress = p; room = room }

-- a progress and a room are those of a step
abbrev pub Is : Step → Progress → List ℕ → Type 0
Is v p room = (p ≡ v.progress) × (room ≡ v.room)

same : (v : Step) (p : Progress) (room : List ℕ) → Is v p room → v ≡ step_of p room
same v p room e = λ i. record { progress = sym e.0 i; room = sym e.1 i }

parts : (v : Step) (p : Progress) (room : List ℕ) → v ≡ step_of p room → Is v p room
parts v p room e = (sym (ap (λ (x : Step). x.progress) e), sym (ap (λ (x : Step). x.room) e))

-- i commands are read, from a first progress and its room on
pub record Reading (text : List ℕ) (first : Progress) (begin : List ℕ) (p : Progress) (room : List ℕ) (i : ℕ) : Type 0 where
  pub within : i ≤ length text
  pub long : length room ≡ length begin
  pub is : commands_of (length text) text (step_of first begin) ≡ commands_of (length text - i) text (step_of p room)

pub none_read : (text : List ℕ) (p : Progress) (room : List ℕ) → Reading text p room p room 0
none_read text p room =
    let all : length text ≡ length text - 0 = omega arith in
    record { within = omega arith; long = refl; is = ap (λ (n : ℕ). commands_of n text (step_of p room)) all }

module _ (text : List ℕ) (first : Progress) (begin : List ℕ) (p : Progress) (room : List ℕ) (i : ℕ) (h : Reading text first begin p room i) where
  one_left : i < length text → length text - i ≡ suc (length text - (i + 1))
  one_left b = omega arith

  pub one_read : i < length text → halted p ≡ false → (q : Progress) (after : List ℕ) → Is (command_of text p room) q after → length after ≡ length room → Reading text first begin q after (i + 1)
  unfolding commands_of
  one_read b going q after is long =
      record {
        within = omega arith;
        long = long ∙ h.long;
        is =
            h.is ∙ ap (λ (n : ℕ). commands_of n text (step_of p room)) (one_left b)
            ∙ rw going (ap (commands_of (length text - (i + 1)) text) (same (command_of text p room) q after is));
      }

  pub stopped : i < length text → halted p ≡ true → Is (commands_of (length text) text (step_of first begin)) p room
  unfolding commands_of
  stopped b ends = parts _ p room (h.is ∙ ap (λ (n : ℕ). commands_of n text (step_of p room)) (one_left b) ∙ rw ends)

  pub through : length text ≤ i → Is (commands_of (length text) text (step_of first begin)) p room
  unfolding commands_of
  through b =
      let none : length text - i ≡ 0 = omega arith in
      parts _ p room (h.is ∙ ap (λ (n : ℕ). commands_of n text (step_of p room)) none)

-- the first command and the rest
pub whole : (text begin : List ℕ) (s : Progress) → s ≡ start → (first : Progress) (room : List ℕ) → Is (command_of text s begin) first room → (p : Progress) (after : List ℕ)
    → Is (commands_of (length text) text (step_of first room)) p after → Is (commands_of (length text + 1) text (step_of start begin)) p after
unfolding commands_of
whole text begin s e first room one p after rest =
    parts _ p after (
    ap (λ (n : ℕ). commands_of n text (step_of start begin)) (add-one (length text))
    ∙ ap (λ (x : Progress). commands_of (length text) text (command_of text x begin)) (sym e)
    ∙ ap (commands_of (length text) text) (same (command_of text s begin) first room one)
    ∙ same (commands_of (length text) text (step_of first room)) p after rest
    )
