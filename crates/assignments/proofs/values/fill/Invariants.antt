use Rattle.assignments.proofs.Ways.{Filled}
use Rattle.assignments.proofs.values.fill.Given as goal

abbrev pub invariant-loop-slot : goal.invariant-loop-slot
invariant-loop-slot l = Filled l.names l.text l.count l.initial.values l.values l.slot
