use Rattle.std.proofs.Common.{None, false}
use Rattle.cases.specs.Lines.{few, odd_after}
use Rattle.cases.proofs.Standing.{Reached}
use Rattle.cases.proofs.lines.odd_within.Given as goal

abbrev pub invariant-loop-b : goal.invariant-loop-b
invariant-loop-b l = record { is : Reached false 1 l.whole l.text odd_after None l.l l.now l.line l.s l.b-index; few : few l.s l.b-index }
