use Rattle.smtlib.specs.Bytes.{part}
use Rattle.parser.proofs.Declared.{Searching}
use Rattle.parser.proofs.names.index_of.Given as goal

abbrev pub invariant-loop-i : goal.invariant-loop-i
invariant-loop-i l = Searching l.text l.names (part l.text l.from l.to) l.at l.i
