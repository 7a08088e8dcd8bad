use native.Mathlib.Omega.{arith}
use Rattle.outline.proofs.Writing.{line_put}
use Rattle.outline.proofs.names.put_line.Goals as goal

pub returns : goal.returns
returns c = rw c.copy_from_slice.ensures.after (line_put c.args.name.now c.args.room.now c.args.at _ 10 (omega arith) c.requires)
