use Rattle.std.proofs.Common.{◌≡◌, set, sym, ap₂, ◌∙◌}
use Rattle.std.proofs.Math.Seq.{set_out}
use Rattle.smtlib.specs.Writing.{page, put}
use Rattle.smtlib.proofs.bytes.put.Goals as goal
use Rattle.smtlib.proofs.bytes.put.Goals.{then-at-room, else-at-room}

pub returns : goal.returns
unfolding put
returns c =
    let row : c.if-at-room.room ≡ set c.args.room.now c.args.at c.args.byte = elim c.if-at-room.branch [ then-at-room w ↦ w.room-is | else-at-room w ↦ w.room-is ∙ sym (set_out c.args.room.now c.args.at c.args.byte w.if-at-room.false) ] in
    ap₂ page row c.next.ensures
