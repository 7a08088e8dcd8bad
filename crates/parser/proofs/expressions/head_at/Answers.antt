use Rattle.std.proofs.Common.{ap, ◌∙◌}
use borrow.Author.Tests.{eq-eqb, ne_eqb}
use Rattle.parser.specs.Expressions.{head_in, head_of}
use Rattle.parser.specs.declared.words.Words.{Words}
use Rattle.parser.proofs.Faults.{faulted, clean}
use Rattle.parser.proofs.expressions.head_at.Goals as goal

pub returns-then-is_some : goal.returns-then-is_some
unfolding head_of
returns-then-is_some c = rw (ne_eqb _ _ (faulted c.args.s.fault c.is_some.ensures c.if-is_some.true))

pub returns : goal.returns
unfolding head_of
returns c = rw (eq-eqb _ _ (clean c.args.s.fault c.is_some.ensures c.if-is_some.false)) (c.head_in.ensures ∙ ap (λ (w : Words). head_in c.args.text.now c.args.names c.args.s c.args.levels w.first w.second w.first.word) c.words_at.ensures)
