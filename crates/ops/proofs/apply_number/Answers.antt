use Rattle.ops.proofs.apply_number.Goals as goal

pub returns : goal.returns
returns c = rw (c.apply.ensures, c.op_of.ensures)
