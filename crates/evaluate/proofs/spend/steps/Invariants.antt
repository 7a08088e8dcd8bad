use Prim.Native.Nat.{◌-◌}
use Rattle.evaluate.proofs.Sums.{Summed}
use Rattle.evaluate.proofs.spend.steps.Given as goal

abbrev pub invariant-loop-i : goal.invariant-loop-i
invariant-loop-i l = Summed l.table l.terms l.sum l.i

abbrev pub decreases-loop-i : goal.decreases-loop-i
decreases-loop-i l = l.terms - l.i
