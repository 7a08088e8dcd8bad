use Rattle.std.proofs.Common.{ap, ◌∙◌}
use borrow.Author.Tests.{eq-eqb, ne_eqb}
use Rattle.parser.specs.Expressions.{closed_in, closed_state}
use Rattle.parser.specs.declared.words.Words.{Words}
use Rattle.parser.proofs.Faults.{faulted, clean}
use Rattle.parser.proofs.expressions.closed.Goals as goal

pub returns-then-is_some : goal.returns-then-is_some
unfolding closed_state
returns-then-is_some c = rw (ne_eqb _ _ (faulted c.args.l.state.fault c.is_some.ensures c.if-is_some.true))

pub returns : goal.returns
unfolding closed_state
returns c = rw (eq-eqb _ _ (clean c.args.l.state.fault c.is_some.ensures c.if-is_some.false)) (c.closed_in.ensures ∙ ap (λ (w : Words). closed_in c.args.text.now c.args.names c.args.l.state c.args.levels w.first w.first.word) c.words_at.ensures)
