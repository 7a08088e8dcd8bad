use Prim.Native.Nat.{◌-◌, ◌≤◌}
use Rattle.sheets.specs.Code.Said.{Said}
use Rattle.sheets.proofs.marks.said.Given as goal

abbrev pub invariant-loop-k : goal.invariant-loop-k
invariant-loop-k l = (l.k ≤ l.lines) × Said l.sheet l.k l.row

abbrev pub decreases-loop-k : goal.decreases-loop-k
decreases-loop-k l = l.lines - l.k
