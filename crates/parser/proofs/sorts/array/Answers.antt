use Rattle.parser.specs.Rules.{array_of}
use Rattle.parser.proofs.sorts.array.Goals as goal

pub returns : goal.returns
unfolding array_of
returns c = rw (c.expected-2.ensures, c.vector-n.ensures, c.vector-m.ensures, c.expected.ensures, c.expected-open.ensures)
