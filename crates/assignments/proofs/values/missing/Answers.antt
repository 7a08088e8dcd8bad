use Rattle.assignments.proofs.Ways.{sought_none, sought_all, sought_found, sought_on}
use Rattle.assignments.proofs.values.missing.Goals as goal

pub returns-then-text-value_place : goal.returns-then-text-value_place
returns-then-text-value_place c = sought_found c.args.names.now c.args.text.now c.args.count c.loop-slot.slot c.loop-slot.invariant c.loop-slot-test.true c.value_place.result c.value_place.ensures c.if-text-value_place.true

pub loop-slot-preserved : goal.loop-slot-preserved
loop-slot-preserved c = sought_on c.args.names.now c.args.text.now c.args.count c.loop-slot.slot c.loop-slot.invariant c.loop-slot-test.true c.value_place.result c.value_place.ensures c.if-text-value_place.false

pub returns : goal.returns
returns c = sought_all c.args.names.now c.args.text.now c.args.count c.loop-slot.slot c.loop-slot.invariant c.loop-slot-test.false

pub loop-slot-init : goal.loop-slot-init
loop-slot-init c = sought_none c.args.names.now c.args.text.now c.args.count
