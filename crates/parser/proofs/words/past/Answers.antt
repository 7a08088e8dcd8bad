use Rattle.std.proofs.Common.{sym, ◌∙◌}
use Rattle.parser.proofs.Ahead.{found, ended, passed}
use Rattle.parser.proofs.words.past.Goals as goal
use Rattle.parser.proofs.words.past.Goals.{then-loop-i-test+else-test, else-loop-i-test}

pub loop-i-preserved : goal.loop-i-preserved
loop-i-preserved g c = λ f h. passed f c.args.text.now c.args.at c.loop-i.i (c.loop-i.invariant f h) c.loop-i-test.true (sym (h _ c.test.result c.test.ensures) ∙ c.if-test.true)

pub returns : goal.returns
returns g c = λ f h.
    elim c.loop-i-test.branch [
      | then-loop-i-test+else-test w ↦ found f c.args.text.now c.args.at c.loop-i.i (c.loop-i.invariant f h) w.loop-i-test.true (sym (h _ w.test.result w.test.ensures) ∙ w.if-test.false)
      | else-loop-i-test w ↦ ended f c.args.text.now c.args.at c.loop-i.i (c.loop-i.invariant f h) w.loop-i-test.false
    ]
