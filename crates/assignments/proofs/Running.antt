-- The statements of a setting, token by token, and the rooms of the cells and of the sheet.
-- Assumes nothing.
use mathlib.Core.Path.{◌≡◌, refl}
use mathlib.Core.List.{List, [], ◌∷◌}
use Prim.Native.Nat.{ℕ}
use lib.ListN.{length, length-set}
use Rattle.std.specs.Prelude.{Option, Some, None, Ok, Err}
use Rattle.outline.specs.declared.scan.Span.{Span}
use Rattle.assignments.specs.declared.state.Entry.{Entry}
use Rattle.assignments.specs.declared.state.Entry.TheVariants.{Cell, Line}
use Rattle.assignments.specs.declared.state.State.{State}
use Rattle.assignments.specs.declared.state.Failure.{Failure}
use Rattle.assignments.specs.Statements.{step, put_three, with_cell, with_line, put_cell, put_line, counted, no_line, work_of, run}

-- what is written leaves the room as long as it was
three-length : (room : List ℕ) (n a b c : ℕ) → length (put_three room n a b c) ≡ length room
three-length room n a b c = rw (length-set, length-set, length-set)

cell-length : (room : List ℕ) (n : ℕ) (e : Option Entry) → length (with_cell room n e) ≡ length room
cell-length room n (Some (Cell cell value)) = three-length room n cell.slot cell.index value
cell-length room n (Some (Line mark slot)) = refl
cell-length room n None = refl

line-length : (room : List ℕ) (n : ℕ) (e : Option Entry) → length (with_line room n e) ≡ length room
line-length room n (Some (Cell cell value)) = refl
line-length room n (Some (Line mark slot)) = three-length room n _ slot slot
line-length room n None = refl

pub put_cell-length : (room : List ℕ) (s : State) → length (put_cell room s) ≡ length room
put_cell-length room s = cell-length room s.cells s.entry

pub put_line-length : (room : List ℕ) (s : State) → length (put_line room s) ≡ length room
put_line-length room s = line-length room s.lines s.entry

-- the tokens that are left
module _ (names table text : List ℕ) (s : State) (cells sheet : List ℕ) (left : List Span) where
  pub run_none : left ≡ [] → work_of (Ok s) cells sheet ≡ run names table text s cells sheet left
  unfolding run
  run_none e = rw e

  module _ (t : Span) (others : List Span) (is : left ≡ t ∷ others) where
    pub run_failed : (f : Failure) → step names table text cells (no_line sheet s) s t ≡ Err f → work_of (Err f) cells sheet ≡ run names table text s cells sheet left
    unfolding run
    run_failed f e = rw (is, e)

    pub run_on : (q : State) → step names table text cells (no_line sheet s) s t ≡ Ok q
        → run names table text (counted q) (put_cell cells q) (put_line sheet q) others ≡ run names table text s cells sheet left
    unfolding run
    run_on q e = rw (is, e)
