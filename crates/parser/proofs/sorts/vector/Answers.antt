use Rattle.parser.specs.Rules.{vector_of}
use Rattle.parser.proofs.sorts.vector.Goals as goal

pub returns : goal.returns
unfolding vector_of
returns c = rw (c.expected.ensures, c.width-w.ensures, c.expected-bit_vec.ensures, c.expected-underscore.ensures, c.expected-open.ensures)
