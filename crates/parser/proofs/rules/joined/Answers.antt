use mathlib.Core.Path.{refl}
use borrow.Author.Tests.{eq-eqb, ne_eqb}
use Rattle.parser.specs.Rules.{joined_rule}
use Rattle.parser.proofs.Faults.{faulted, clean}
use Rattle.parser.proofs.rules.joined.Goals as goal

pub returns-then-is_some : goal.returns-then-is_some
unfolding joined_rule
returns-then-is_some c = rw (c.with_state.ensures, ne_eqb _ _ (faulted c.args.s.fault c.is_some.ensures c.if-is_some.true)) (refl, refl)

pub returns-then-p-eq0 : goal.returns-then-p-eq0
unfolding joined_rule
returns-then-p-eq0 c = rw (eq-eqb _ _ (clean c.args.s.fault c.is_some.ensures c.if-is_some.false), eq-eqb _ _ c.if-p-eq0.true) (refl, refl)

pub returns : goal.returns
unfolding joined_rule
returns c = rw (c.added.ensures, c.put.ensures, c.conjunction.ensures, eq-eqb _ _ (clean c.args.s.fault c.is_some.ensures c.if-is_some.false), ne_eqb _ _ c.if-p-eq0.false) (refl, refl)
