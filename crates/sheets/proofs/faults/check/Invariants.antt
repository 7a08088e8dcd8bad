use Prim.Native.Nat.{◌-◌}
use Rattle.table.proofs.Scans.{Scanned}
use Rattle.sheets.specs.Marks.{line_at, line_count}
use Rattle.sheets.specs.Check.{line_fault, uncut}
use Rattle.sheets.proofs.faults.check.Given as goal

abbrev pub invariant-loop-k : goal.invariant-loop-k
invariant-loop-k l = Scanned (λ i. line_fault (line_at l.sheet i)) (line_count l.sheet) (uncut l.sheet) l.k

abbrev pub decreases-loop-k : goal.decreases-loop-k
decreases-loop-k l = l.lines - l.k
