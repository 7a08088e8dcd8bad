-- A step of judging: the turn's own term, whatever it is, and those after it up to the next read.
-- Assumes nothing.
use mathlib.Core.Path.{◌≡◌, refl, sym, ap, ◌∙◌}
use mathlib.Core.Bool.{Bool, true, false, cond}
use mathlib.Core.List.{List}
use Prim.Native.Nat.{ℕ, ◌+◌, ◌≤◌, ◌<◌}
use native.Mathlib.Omega.{arith}
use Rattle.table.specs.declared.words.Term.{Term}
use Rattle.table.proofs.Searches.{first_on}
use Rattle.evaluate.specs.Code.Turns.{is_read_at, next_read, onward}
use Rattle.evaluate.proofs.Onward.{on_more}
use Rattle.judge.specs.declared.reads.Labelled.{Labelled}
use Rattle.judge.specs.Code.Labelled.{labelled_of, read_here, plain_here, labelled_here, entered, noted, plain_noted}
use Rattle.judge.specs.Code.Turns.{note_on}

module _ (w : List ℕ) (marked : Term → Bool) (row : List ℕ) (terms to : ℕ) (cells room : List ℕ) (at : ℕ) where
  as_read : is_read_at w at ≡ true → read_here w terms room at to cells ≡ labelled_here w marked row terms room at to cells
  unfolding labelled_of
  as_read e = sym (ap (λ (z : Bool). cond z (read_here w terms room at to cells) (plain_here w marked row terms room at)) e)

  as_plain : is_read_at w at ≡ false → plain_here w marked row terms room at ≡ labelled_here w marked row terms room at to cells
  unfolding labelled_of
  as_plain e = sym (ap (λ (z : Bool). cond z (read_here w terms room at to cells) (plain_here w marked row terms room at)) e)

  pub plain_notes : is_read_at w at ≡ false → plain_noted w marked row terms room at ≡ noted w marked row terms to cells room at
  plain_notes e = ap (λ (r : Labelled). entered r terms room at) (as_plain e)

  -- where the step goes on from, and what it has written there
  abbrev begun : Bool → ℕ
  begun b = cond b (at + 1) at

  abbrev written : Bool → List ℕ
  written b = cond b (entered (read_here w terms room at to cells) terms room at) room

  pub run-within : at < terms → begun (is_read_at w at) ≤ terms
  run-within b = by (is_read_at w at)
    where
      by : (z : Bool) → begun z ≤ terms
      by true = omega arith
      by false = omega arith

  pub run-next : at < terms → next_read w terms (begun (is_read_at w at)) ≡ next_read w terms (at + 1)
  run-next b = by (is_read_at w at) refl
    where
      by : (z : Bool) → is_read_at w at ≡ z → next_read w terms (begun z) ≡ next_read w terms (at + 1)
      by true e = refl
      by false e = first_on (is_read_at w) terms at b e

  pub run_room : at < terms → onward w (plain_noted w marked row terms) terms (written (is_read_at w at)) (begun (is_read_at w at)) ≡ note_on w marked row terms to cells room at
  run_room b = by (is_read_at w at) refl
    where
      by : (z : Bool) → is_read_at w at ≡ z → onward w (plain_noted w marked row terms) terms (written z) (begun z) ≡ note_on w marked row terms to cells room at
      by true e = ap (λ (r : Labelled). onward w (plain_noted w marked row terms) terms (entered r terms room at) (at + 1)) (as_read e)
      by false e =
          on_more (is_read_at w) (plain_noted w marked row terms) terms at room b e
          ∙ ap (λ (l : List ℕ). onward w (plain_noted w marked row terms) terms l (at + 1)) (plain_notes e)
