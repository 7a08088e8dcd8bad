use mathlib.Core.Path.{ap, ◌∙◌}
use lib.ListN.{length}
use Rattle.cases.specs.declared.lexer.Lexer.TheVariants.{Blank}
use Rattle.cases.specs.Lexing.{lex}
use Rattle.cases.specs.Numbers.{put}
use Rattle.cases.proofs.Writing.{written_none, written-more, written_all, written, length-put}
use Rattle.cases.proofs.room.write.Goals as goal

pub loop-b-init : goal.loop-b-init
loop-b-init c = written_none c.args.whole c.args.text.now c.args.numbers.now

pub loop-b-preserved : goal.loop-b-preserved
loop-b-preserved c = written-more c.args.whole c.args.text.now c.args.numbers.now c.loop-b.numbers c.loop-b.l c.loop-b.n c.loop-b.b-index c.loop-b.invariant c.loop-b-test.true c.token_at.result c.token_at.ensures _ c.put-n.ensures.numbers_after c.put-n.result c.put-n.ensures.value c.lexed-l.result c.lexed-l.ensures

pub shape_of-numbers : goal.shape_of-numbers
shape_of-numbers c = ap length c.put.ensures.numbers_after ∙ length-put c.loop-b.numbers c.loop-b.n c.token_at_end.result ∙ c.loop-b.invariant.long

pub returns : goal.returns
returns c =
    c.put.ensures.numbers_after
    ∙ ap (put c.loop-b.numbers c.loop-b.n) c.token_at_end.ensures
    ∙ written_all c.args.whole c.args.text.now c.args.numbers.now c.loop-b.numbers c.loop-b.l c.loop-b.n c.loop-b.b-index c.loop-b.invariant c.loop-b-test.false
    ∙ written c.args.numbers.now (lex c.args.whole Blank c.args.text.now) c.requires
