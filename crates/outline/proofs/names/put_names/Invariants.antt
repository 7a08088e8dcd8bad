use Prim.Native.Nat.{◌-◌}
use Rattle.outline.proofs.Writing.{Filled}
use Rattle.outline.proofs.names.put_names.Given as goal

abbrev pub invariant-loop-k : goal.invariant-loop-k
invariant-loop-k l = Filled l.text l.initial.room l.names l.room l.at l.k

abbrev pub decreases-loop-k : goal.decreases-loop-k
decreases-loop-k l = l.names - l.k
