use Rattle.ops.proofs.greatest.Goals as goal

pub returns : goal.returns
returns c = rw (c.ones.ensures, c.top.ensures)
