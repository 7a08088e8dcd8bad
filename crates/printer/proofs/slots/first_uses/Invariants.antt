use Prim.Native.Nat.{◌-◌}
use Rattle.printer.proofs.Scans.{Looking}
use Rattle.printer.proofs.slots.first_uses.Given as goal

abbrev pub invariant-loop-i : goal.invariant-loop-i
invariant-loop-i l = Looking l.table l.n l.row l.i

abbrev pub decreases-loop-i : goal.decreases-loop-i
decreases-loop-i l = l.n - l.i
