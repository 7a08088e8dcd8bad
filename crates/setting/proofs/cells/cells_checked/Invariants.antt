use Prim.Native.Nat.{◌-◌}
use Rattle.table.specs.Answers.{accepted}
use Rattle.table.proofs.Scans.{Scanned}
use Rattle.setting.specs.Check.{cell_fault}
use Rattle.setting.proofs.cells.cells_checked.Given as goal

abbrev pub invariant-loop-k : goal.invariant-loop-k
invariant-loop-k g l = Scanned (λ i. cell_fault l.table (g.C.Cells.at l.cells i)) l.listed accepted l.k

abbrev pub decreases-loop-k : goal.decreases-loop-k
decreases-loop-k g l = l.listed - l.k
