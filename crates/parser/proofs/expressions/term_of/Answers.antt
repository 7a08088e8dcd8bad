use Rattle.parser.specs.Expressions.{term_of}
use Rattle.parser.proofs.expressions.term_of.Goals as goal

pub returns : goal.returns
unfolding term_of
returns c = rw (c.sort_by.ensures, c.sort_at-2.ensures, c.sort_at.ensures, c.rank_of.ensures)
