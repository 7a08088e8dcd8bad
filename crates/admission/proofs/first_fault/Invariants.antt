use Prim.Native.Nat.{pred, ◌-◌}
use Rattle.table.specs.Admission.{ended}
use Rattle.table.proofs.TermFaults.{Reached}
use Rattle.admission.proofs.first_fault.Given as goal

abbrev pub invariant-loop-i : goal.invariant-loop-i
invariant-loop-i l = Reached l.table l.terms l.clash (ended l.table (pred l.terms)) l.i

abbrev pub decreases-loop-i : goal.decreases-loop-i
decreases-loop-i l = l.terms - l.i
