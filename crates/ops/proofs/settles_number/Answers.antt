use Rattle.ops.proofs.settles_number.Goals as goal

pub returns : goal.returns
returns c = rw (c.settles.ensures, c.op_of.ensures)
