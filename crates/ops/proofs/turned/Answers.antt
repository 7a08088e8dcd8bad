use Rattle.ops.proofs.turned.Goals as goal

pub returns : goal.returns
returns c = rw (c.bvadd.ensures, c.least.ensures)
