use Rattle.assignments.proofs.Ways.{Sought}
use Rattle.assignments.proofs.values.missing.Given as goal

abbrev pub invariant-loop-slot : goal.invariant-loop-slot
invariant-loop-slot l = Sought l.names l.text l.count l.slot
