use mathlib.Core.Path.{refl}
use borrow.Author.Tests.{eq-eqb, ne_eqb}
use Rattle.parser.specs.Rules.{declaration_of}
use Rattle.parser.proofs.Faults.{faulted, clean}
use Rattle.parser.proofs.rules.declaration.Goals as goal

pub returns-then-is_some : goal.returns-then-is_some
unfolding declaration_of
returns-then-is_some c = rw (c.with_state.ensures, ne_eqb _ _ (rw (c.expected-e.ensures, c.sort-v.ensures, c.new_name.ensures) at (faulted c.expected-e.result.fault c.is_some.ensures c.if-is_some.true)), c.expected-e.ensures, c.sort-v.ensures, c.new_name.ensures) (refl, refl)

pub returns : goal.returns
unfolding declaration_of
returns c = rw (c.one_more.ensures, c.added.ensures, c.put.ensures, c.variable.ensures, c.marked_at.ensures, c.number.ensures, eq-eqb _ _ (rw (c.expected-e.ensures, c.sort-v.ensures, c.new_name.ensures) at (clean c.expected-e.result.fault c.is_some.ensures c.if-is_some.false)), c.expected-e.ensures, c.sort-v.ensures, c.new_name.ensures, c.words_at.ensures) (refl, refl)
