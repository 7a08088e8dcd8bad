use mathlib.Core.Path.{sym}
use lib.Seq.{set_out}
use Rattle.assignments.proofs.values.put.Goals as goal

pub returns-else-k-room : goal.returns-else-k-room
returns-else-k-room c = sym (set_out c.args.room.now c.args.k c.args.v c.if-k-room.false)
