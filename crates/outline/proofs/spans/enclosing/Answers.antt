use mathlib.Core.Path.{◌≡◌}
use mathlib.Core.Bool.{false, ◌&&◌}
use native.Mathlib.Omega.{arith}
use lib.Dec.{eqb}
use borrow.Author.Tests.{eq-eqb, ne_eqb}
use Rattle.outline.proofs.Ways.{back-begun, back_none, back_found, back_on}
use Rattle.outline.proofs.spans.enclosing.Goals as goal
use Rattle.outline.proofs.spans.enclosing.Goals.{else-b-eq40-via-then-b-eq40+else-depth-eq0, else-b-eq40-via-else-b-eq40}

pub loop-k-init : goal.loop-k-init
loop-k-init c = back-begun c.args.text.now c.args.place

pub returns-then-depth-eq0 : goal.returns-then-depth-eq0
returns-then-depth-eq0 c = back_found c.args.text.now c.args.place c.loop-k.k c.loop-k.depth c.loop-k.invariant c.byte_at-b.result c.loop-k-test.true c.byte_at-b.ensures (rw (eq-eqb _ 40 c.if-b-eq40.true, eq-eqb _ 0 c.if-depth-eq0.true))

pub back-depth-requires : goal.back-depth-requires
back-depth-requires c = omega (arith, c.loop-k.invariant.low, c.loop-k-test.true, c.ranges)

pub loop-k-preserved : goal.loop-k-preserved
loop-k-preserved c =
    let miss : (eqb c.byte_at-b.result 40 && eqb c.loop-k.depth 0) ≡ false =
    elim c.else-b-eq40.branch [
      | else-b-eq40-via-then-b-eq40+else-depth-eq0 w ↦ rw (eq-eqb _ 40 w.if-b-eq40.true, ne_eqb _ 0 w.if-depth-eq0.false)
      | else-b-eq40-via-else-b-eq40 w ↦ rw (ne_eqb _ 40 w.if-b-eq40.false)
    ] in
    back_on c.args.text.now c.args.place c.loop-k.k c.loop-k.depth c.loop-k.invariant c.byte_at-b.result c.loop-k-test.true c.byte_at-b.ensures miss c.back-depth.result c.back-depth.ensures

pub returns : goal.returns
returns c = back_none c.args.text.now c.args.place c.loop-k.k c.loop-k.depth c.loop-k.invariant (omega (arith, c.loop-k-test.false))
