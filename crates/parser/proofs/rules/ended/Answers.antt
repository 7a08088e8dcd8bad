use mathlib.Core.Path.{refl}
use borrow.Author.Tests.{eq-eqb, ne_eqb}
use Rattle.parser.specs.Rules.{ended_rule}
use Rattle.parser.proofs.Faults.{faulted, clean}
use Rattle.parser.proofs.rules.ended.Goals as goal

pub returns-then-is_some : goal.returns-then-is_some
unfolding ended_rule
returns-then-is_some c = rw (c.with_state.ensures, ne_eqb _ _ (faulted c.args.s.fault c.is_some.ensures c.if-is_some.true)) (refl, refl)

pub returns-then-p : goal.returns-then-p
unfolding ended_rule
returns-then-p c = rw (c.added.ensures, c.put.ensures, c.conjunction.ensures, eq-eqb _ _ (clean c.args.s.fault c.is_some.ensures c.if-is_some.false), c.if-p.true) (refl, refl)

pub returns : goal.returns
unfolding ended_rule
returns c = rw (eq-eqb _ _ (clean c.args.s.fault c.is_some.ensures c.if-is_some.false), c.if-p.false) (refl, refl)
