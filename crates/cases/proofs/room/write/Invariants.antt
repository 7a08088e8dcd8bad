use Rattle.cases.proofs.Writing.{Written}
use Rattle.cases.proofs.room.write.Given as goal

abbrev pub invariant-loop-b : goal.invariant-loop-b
invariant-loop-b l = Written l.whole l.text l.initial.numbers l.numbers l.l l.n l.b-index
