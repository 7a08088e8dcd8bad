use borrow.Author.Tests.{eq-eqb, ne_eqb}
use Rattle.parser.specs.Rules.{expected}
use Rattle.parser.proofs.Faults.{faulted, clean}
use Rattle.parser.proofs.sorts.expected.Goals as goal

pub returns-then-is_some : goal.returns-then-is_some
unfolding expected
returns-then-is_some c = rw (ne_eqb _ _ (faulted c.args.s.fault c.is_some.ensures c.if-is_some.true))

pub returns-then-code_of : goal.returns-then-code_of
unfolding expected
returns-then-code_of c = rw (c.moved.ensures, eq-eqb _ _ (clean c.args.s.fault c.is_some.ensures c.if-is_some.false), eq-eqb _ _ (rw (c.code_of.ensures, c.code_of-else-is_some.ensures, c.words_at.ensures) at c.if-code_of.true), c.words_at.ensures)

pub returns-else-code_of : goal.returns-else-code_of
unfolding expected
returns-else-code_of c = rw (c.faulty.ensures, eq-eqb _ _ (clean c.args.s.fault c.is_some.ensures c.if-is_some.false), ne_eqb _ _ (rw (c.code_of.ensures, c.code_of-else-is_some.ensures, c.words_at.ensures) at c.if-code_of.false), c.words_at.ensures)
