use Rattle.std.proofs.Common.{◌≡◌, ◌+◌, ◌-◌, sym, ◌∙◌, arith}
use Rattle.cases.proofs.Ways.{back_stop, back_on, back_none}
use Rattle.cases.proofs.places.back_to.Goals as goal

pub returns-then-stops : goal.returns-then-stops
returns-then-stops c =
    let k : c.loop-k.k - 1 + 1 ≡ c.loop-k.k = omega arith in
    k ∙ back_stop c.args.lines c.args.text.now c.loop-k.k c.byte_at.result c.loop-k-test.true c.byte_at.ensures (sym c.stops.ensures ∙ c.if-stops.true) ∙ sym c.loop-k.invariant

pub loop-k-preserved : goal.loop-k-preserved
loop-k-preserved c = c.loop-k.invariant ∙ back_on c.args.lines c.args.text.now c.loop-k.k c.byte_at.result c.loop-k-test.true c.byte_at.ensures (sym c.stops.ensures ∙ c.if-stops.false)

pub returns : goal.returns
returns c = back_none c.args.lines c.args.text.now c.loop-k.k c.loop-k-test.false ∙ sym c.loop-k.invariant
