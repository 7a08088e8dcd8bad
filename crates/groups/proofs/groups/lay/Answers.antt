use Rattle.std.proofs.Common.{refl, arith}
use Rattle.groups.specs.Code.Writing.{placed_from}
use Rattle.groups.proofs.Laying.{laid}
use Rattle.groups.proofs.groups.lay.Goals as goal

pub loop-x-init : goal.loop-x-init
unfolding placed_from
loop-x-init c = (omega arith, (omega arith, refl))

-- the next term is written
pub loop-x-preserved : goal.loop-x-preserved
loop-x-preserved c =
    let h = c.loop-x.invariant in (
      omega (arith, c.loop-x-test.true),
      (omega (arith, h.1.0), laid c.args.room.now c.args.b c.args.group.now c.loop-x.x-index c.loop-x-test.true h.1.0 h.1.1 c.put.ensures),
    )
