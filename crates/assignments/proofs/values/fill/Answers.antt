use mathlib.Core.Path.{ap, ◌∙◌}
use lib.ListN.{length}
use Rattle.assignments.proofs.Ways.{none_filled, all_filled, one_filled, values_length}
use Rattle.assignments.proofs.values.fill.Goals as goal

pub loop-slot-preserved : goal.loop-slot-preserved
loop-slot-preserved c = one_filled c.args.names.now c.args.text.now c.args.count c.args.values.now c.loop-slot.values c.loop-slot.slot c.loop-slot.invariant c.loop-slot-test.true c.value_of.result c.value_of.ensures _ c.put.ensures

pub shape_of-values : goal.shape_of-values
shape_of-values c = ap length c.loop-slot.invariant.is ∙ values_length c.args.names.now c.args.text.now c.loop-slot.slot c.args.values.now

pub returns : goal.returns
returns c = all_filled c.args.names.now c.args.text.now c.args.count c.args.values.now c.loop-slot.values c.loop-slot.slot c.loop-slot.invariant c.loop-slot-test.false

pub loop-slot-init : goal.loop-slot-init
loop-slot-init c = none_filled c.args.names.now c.args.text.now c.args.count c.args.values.now
