use borrow.Author.Tests.{eq-eqb, ne_eqb}
use Rattle.parser.specs.Rules.{width_of}
use Rattle.parser.proofs.Faults.{faulted, clean}
use Rattle.parser.proofs.sorts.width.Goals as goal

pub returns-then-is_some : goal.returns-then-is_some
unfolding width_of
returns-then-is_some c = rw (ne_eqb _ _ (faulted c.args.s.fault c.is_some.ensures c.if-is_some.true))

pub returns-then-n-eq0 : goal.returns-then-n-eq0
unfolding width_of
returns-then-n-eq0 c = rw (c.faulty.ensures, eq-eqb _ _ (clean c.args.s.fault c.is_some.ensures c.if-is_some.false), eq-eqb _ _ (rw (c.width_in-n.ensures, c.words_at.ensures) at c.if-n-eq0.true), c.words_at.ensures)

pub returns : goal.returns
unfolding width_of
returns c = rw (c.moved.ensures, eq-eqb _ _ (clean c.args.s.fault c.is_some.ensures c.if-is_some.false), ne_eqb _ _ (rw (c.width_in-n.ensures, c.words_at.ensures) at c.if-n-eq0.false), c.width_in-n.ensures, c.words_at.ensures)
