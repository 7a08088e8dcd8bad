use mathlib.Core.Path.{sym, ◌∙◌}
use Rattle.assignments.proofs.Ways.{decimal_all, decimal_none, decimal_on}
use Rattle.assignments.proofs.tokens.decimal_of.Goals as goal

pub returns-then-not-digit : goal.returns-then-not-digit
returns-then-not-digit c = decimal_none c.args.word.now c.loop-b.value c.loop-b.b-index c.loop-b.invariant c.loop-b-test.true (sym c.digit.ensures ∙ c.if-not-digit.true)

pub loop-b-preserved : goal.loop-b-preserved
loop-b-preserved c = decimal_on c.args.word.now c.loop-b.value c.loop-b.b-index c.loop-b.invariant c.loop-b-test.true (sym c.digit.ensures ∙ c.if-not-digit.false) c.next_value-value.result c.next_value-value.ensures

pub returns : goal.returns
returns c = decimal_all c.args.word.now c.loop-b.value c.loop-b.b-index c.loop-b.invariant c.loop-b-test.false
