use Prim.Native.Nat.{◌-◌}
use Rattle.finish.proofs.Loops.{Writing}
use Rattle.finish.proofs.room.write_groups.Given as goal

abbrev pub invariant-loop-i : goal.invariant-loop-i
invariant-loop-i l = Writing l.table l.initial.room l.terms l.room l.conditions l.condition l.next l.i

abbrev pub decreases-loop-i : goal.decreases-loop-i
decreases-loop-i l = l.terms - l.i
