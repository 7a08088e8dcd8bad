use Prim.Native.Nat.{◌-◌}
use Rattle.sheets.proofs.Entering.{Entered}
use Rattle.sheets.proofs.marks.enter.Given as goal

abbrev pub invariant-loop-slot : goal.invariant-loop-slot
invariant-loop-slot l = Entered l.initial.row l.line l.row l.slot

abbrev pub decreases-loop-slot : goal.decreases-loop-slot
decreases-loop-slot l = 256 - l.slot
