use Rattle.cases.proofs.Standing.{Reached, nth}
use Rattle.cases.proofs.lines.line_within.Given as goal

abbrev pub invariant-loop-b : goal.invariant-loop-b
invariant-loop-b l = Reached l.heading l.part l.whole l.text nth l.k l.l l.now l.line l.left l.b-index
