use Prim.Native.Nat.{◌-◌}
use Rattle.finish.proofs.Loops.{Counted}
use Rattle.finish.proofs.sizes.sizes.Given as goal

abbrev pub invariant-loop-i : goal.invariant-loop-i
invariant-loop-i l = Counted l.table l.terms l.sum l.i

abbrev pub decreases-loop-i : goal.decreases-loop-i
decreases-loop-i l = l.terms - l.i
