use Prim.Native.Nat.{ℕ, ◌+◌}
use mathlib.Core.Path.{refl, ap}
use native.Mathlib.Omega.{arith}
use Rattle.finish.proofs.Loops.{none_written, same_room, next-most, prefix_fits, front_is, numbered, one_written, all-written, room_written}
use Rattle.finish.proofs.room.write_groups.Goals as goal

pub count-terms-requires : goal.count-terms-requires
count-terms-requires c = omega (arith, c.requires.few)

pub overflow_add-next : goal.overflow_add-next
overflow_add-next c = omega (arith, c.count-terms.ensures, c.requires.few)

pub loop-i-init : goal.loop-i-init
loop-i-init c = none_written c.args.table.now c.args.room.now _ c.count-terms.result 0 _ refl (ap (λ (k : ℕ). k + 2) c.count-terms.ensures)

pub slice_bounds-conditions-end : goal.slice_bounds-conditions-end
slice_bounds-conditions-end c = prefix_fits c.args.table.now c.args.room.now c.count-terms.result c.loop-i.room c.loop-i.conditions c.loop-i.condition c.loop-i.next c.loop-i.i c.requires c.count-terms.ensures c.loop-i.invariant c.loop-i-test.true

pub slice_bounds-write_group-end : goal.slice_bounds-write_group-end
slice_bounds-write_group-end c = front_is c.args.table.now c.args.room.now c.count-terms.result c.loop-i.room c.loop-i.conditions c.loop-i.condition c.loop-i.next c.loop-i.i c.requires c.count-terms.ensures c.loop-i.invariant c.loop-i-test.true

pub write_group-done-requires : goal.write_group-done-requires
write_group-done-requires c =
    let inside = c.loop-i-test.true in
    record { well_formed = c.requires; numbered = numbered c.args.table.now c.args.room.now c.count-terms.result c.loop-i.room c.loop-i.conditions c.loop-i.condition c.loop-i.next c.loop-i.i c.requires c.count-terms.ensures c.loop-i.invariant inside; i_value = (front_is c.args.table.now c.args.room.now c.count-terms.result c.loop-i.room c.loop-i.conditions c.loop-i.condition c.loop-i.next c.loop-i.i c.requires c.count-terms.ensures c.loop-i.invariant inside, (omega (arith, inside, c.count-terms.ensures), c.count-terms.ensures)); b_value = (c.loop-i.invariant.next_is, next-most c.args.table.now c.args.room.now c.count-terms.result c.loop-i.room c.loop-i.conditions c.loop-i.condition c.loop-i.next c.loop-i.i c.requires c.count-terms.ensures c.loop-i.invariant) }

pub bounds-conditions-at : goal.bounds-conditions-at
bounds-conditions-at c = omega (arith, c.count-terms.ensures, c.requires.few, c.loop-i-test.true)

pub overflow_step-i : goal.overflow_step-i
overflow_step-i c = omega (arith, c.count-terms.ensures, c.requires.few, c.loop-i-test.true)

pub loop-i-preserved : goal.loop-i-preserved
loop-i-preserved c = one_written c.args.table.now c.args.room.now c.count-terms.result c.loop-i.room c.loop-i.conditions c.loop-i.condition c.loop-i.next c.loop-i.i c.requires c.count-terms.ensures c.loop-i.invariant c.loop-i-test.true c.write_group-done.result c.write_group-done.new.room c.write_group-done.ensures.value c.write_group-done.ensures.room_after

pub shape_of-room : goal.shape_of-room
shape_of-room c = same_room c.args.table.now c.args.room.now c.count-terms.result c.loop-i.room c.loop-i.conditions c.loop-i.condition c.loop-i.next c.loop-i.i c.requires c.count-terms.ensures c.loop-i.invariant

pub returns : goal.returns
returns c = record { value = all-written c.args.table.now c.args.room.now c.count-terms.result c.loop-i.room c.loop-i.conditions c.loop-i.condition c.loop-i.next c.loop-i.i c.requires c.count-terms.ensures c.loop-i.invariant c.loop-i-test.false; room_after = room_written c.args.table.now c.args.room.now c.count-terms.result c.loop-i.room c.loop-i.conditions c.loop-i.condition c.loop-i.next c.loop-i.i c.requires c.count-terms.ensures c.loop-i.invariant c.loop-i-test.false }
