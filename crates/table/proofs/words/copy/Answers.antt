use mathlib.Core.Path.{refl}
use native.Mathlib.Omega.{arith}
use Rattle.table.proofs.Copying.{none-copied, copied-length, one_copied, all-copied}
use Rattle.table.proofs.words.copy.Goals as goal

pub loop-i-init : goal.loop-i-init
loop-i-init c = none-copied c.args.table.now c.args.room.now

pub bounds-table-i : goal.bounds-table-i
bounds-table-i c = c.loop-i-test.true

pub bounds-room-i : goal.bounds-room-i
bounds-room-i c = omega (arith, c.requires, copied-length c.args.table.now c.args.room.now c.loop-i.room c.loop-i.i c.requires c.loop-i.invariant, c.loop-i-test.true)

pub loop-i-smaller : goal.loop-i-smaller
loop-i-smaller c = omega (arith, c.loop-i-test.true)

pub loop-i-preserved : goal.loop-i-preserved
loop-i-preserved c = one_copied c.args.table.now c.args.room.now c.loop-i.room c.loop-i.i c.requires c.loop-i.invariant c.loop-i-test.true _ refl

pub shape_of-room : goal.shape_of-room
shape_of-room c = copied-length c.args.table.now c.args.room.now c.loop-i.room c.loop-i.i c.requires c.loop-i.invariant

pub returns : goal.returns
returns c = all-copied c.args.table.now c.args.room.now c.loop-i.room c.loop-i.i c.requires c.loop-i.invariant c.loop-i-test.false
