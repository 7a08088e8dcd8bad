use Rattle.cases.proofs.Scans.{Parsed}
use Rattle.cases.proofs.parser.parse.Given as goal

abbrev pub invariant-loop-i : goal.invariant-loop-i
invariant-loop-i l = Parsed l.whole l.room l.text l.l l.p l.i
