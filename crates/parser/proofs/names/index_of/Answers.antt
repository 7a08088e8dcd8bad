use Rattle.std.proofs.Common.{sym, ◌∙◌}
use Rattle.smtlib.specs.Bytes.{part}
use Rattle.parser.proofs.Declared.{found, passed, none}
use Rattle.parser.proofs.Lists.{same_is}
use Rattle.parser.proofs.names.index_of.Goals as goal

pub returns-then-eq : goal.returns-then-eq
returns-then-eq c =
    found c.args.text.now c.args.names (part c.args.text.now c.args.from c.args.to) c.loop-i.at c.loop-i.i c.loop-i.invariant _ _ c.name_from-start.ensures c.past_word-end.ensures
    c.loop-i-test.true (rw (c.part.ensures, c.part-word.ensures) at (sym (same_is c.part.result.now c.part-word.result.now) ∙ sym c.eq.ensures ∙ c.if-eq.true))

pub loop-i-preserved : goal.loop-i-preserved
loop-i-preserved c =
    passed c.args.text.now c.args.names (part c.args.text.now c.args.from c.args.to) c.loop-i.at c.loop-i.i c.loop-i.invariant _ _ c.name_from-start.ensures c.past_word-end.ensures
    c.loop-i-test.true (rw (c.part.ensures, c.part-word.ensures) at (sym (same_is c.part.result.now c.part-word.result.now) ∙ sym c.eq.ensures ∙ c.if-eq.false))
    c.closing.result (rw (c.past_word-end.ensures, c.name_from-start.ensures) at c.closing.ensures) c.min-at.result c.min-at.ensures

pub returns : goal.returns
returns c = none c.args.text.now c.args.names (part c.args.text.now c.args.from c.args.to) c.loop-i.at c.loop-i.i c.loop-i.invariant c.loop-i-test.false c.loop-i.auto.i-end
