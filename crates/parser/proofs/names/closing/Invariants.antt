use Rattle.parser.proofs.Closing.{Closing}
use Rattle.parser.proofs.names.closing.Given as goal

abbrev pub invariant-loop-n : goal.invariant-loop-n
invariant-loop-n l = Closing l.rest 0 l.depth l.n
