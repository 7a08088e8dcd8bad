use Prim.Native.Nat.{ℕ, ◌-◌, ◌≤◌}
use mathlib.Core.Path.{◌≡◌}
use mathlib.Core.Bool.{Bool}
use mathlib.Core.List.{List}
use Rattle.table.specs.Folds.{first_from}
use Rattle.sheets.specs.Marks.{line_at, line_count, speaks}
use Rattle.sheets.proofs.slots.first_of.Given as goal

-- whether line k is of the kind and names the slot
abbrev pub tests : List ℕ → ℕ → ℕ → ℕ → Bool
tests sheet kind slot k = speaks kind slot (line_at sheet k)

abbrev pub invariant-loop-k : goal.invariant-loop-k
invariant-loop-k l = (l.k ≤ line_count l.sheet) × (first_from (tests l.sheet l.kind l.slot) (line_count l.sheet) 0 ≡ first_from (tests l.sheet l.kind l.slot) (line_count l.sheet - l.k) l.k)

abbrev pub decreases-loop-k : goal.decreases-loop-k
decreases-loop-k l = l.lines - l.k
