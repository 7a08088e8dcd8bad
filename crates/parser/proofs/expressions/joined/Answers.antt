use borrow.Author.Tests.{eq-eqb, ne_eqb}
use Rattle.parser.specs.Expressions.{joined_to}
use Rattle.parser.proofs.expressions.joined.Goals as goal

pub returns-then-l-eq0 : goal.returns-then-l-eq0
unfolding joined_to
returns-then-l-eq0 c = rw (eq-eqb _ _ c.if-l-eq0.true)

pub returns-then-l-eq1 : goal.returns-then-l-eq1
unfolding joined_to
returns-then-l-eq1 c = rw (ne_eqb _ _ c.if-l-eq0.false, eq-eqb _ _ c.if-l-eq1.true)

pub returns : goal.returns
unfolding joined_to
returns c = rw (ne_eqb _ _ c.if-l-eq0.false, ne_eqb _ _ c.if-l-eq1.false)
