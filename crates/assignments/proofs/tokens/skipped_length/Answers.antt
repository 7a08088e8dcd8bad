use mathlib.Core.Path.{sym, ◌∙◌}
use Rattle.assignments.proofs.Ways.{skip_none, skip_found, skip_on}
use Rattle.assignments.proofs.tokens.skipped_length.Goals as goal

pub returns-then-not-skipped : goal.returns-then-not-skipped
returns-then-not-skipped c = skip_found c.args.text.now c.loop-i.i c.loop-i.comment c.loop-i.invariant c.loop-i-test.true (sym c.skipped.ensures ∙ c.if-not-skipped.true)

pub loop-i-preserved : goal.loop-i-preserved
loop-i-preserved c = skip_on c.args.text.now c.loop-i.i c.loop-i.comment c.loop-i.invariant c.loop-i-test.true (sym c.skipped.ensures ∙ c.if-not-skipped.false) c.comment_after-comment.result c.comment_after-comment.ensures

pub returns : goal.returns
returns c = skip_none c.args.text.now c.loop-i.i c.loop-i.comment c.loop-i.invariant c.loop-i-test.false c.loop-i.auto.i-end
