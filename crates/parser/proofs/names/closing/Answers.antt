use Rattle.std.proofs.Common.{◌≡◌, ◌∙◌, ◌-◌, arith, length, take, drop}
use Rattle.parser.proofs.Closing.{closes, goes_on, never, from_rest}
use Rattle.parser.proofs.names.closing.Goals as goal

pub returns-then-b-depth : goal.returns-then-b-depth
returns-then-b-depth c =
    let text = c.args.text.now in
    let rest = take (length text - c.min.result) (drop c.min.result text) in
    omega (arith, from_rest text c.args.at c.min.result c.min.ensures (closes rest 0 c.loop-n.depth c.loop-n.n c.loop-n.invariant c.loop-n-test.true c.if-b-depth.true))

pub loop-n-preserved : goal.loop-n-preserved
loop-n-preserved c =
    let rest = take (length c.args.text.now - c.min.result) (drop c.min.result c.args.text.now) in
    goes_on rest 0 c.loop-n.depth c.loop-n.n c.loop-n.invariant c.loop-n-test.true c.if-b-depth.false c.depth_after-depth.result c.depth_after-depth.ensures

pub returns : goal.returns
returns c =
    let text = c.args.text.now in
    let rest = take (length text - c.min.result) (drop c.min.result text) in
    let whole : length rest ≡ c.loop-n.n = omega (arith, c.loop-n-test.false, c.loop-n.auto.n-end) in
    from_rest text c.args.at c.min.result c.min.ensures (whole ∙ never rest 0 c.loop-n.depth c.loop-n.n c.loop-n.invariant c.loop-n-test.false)
