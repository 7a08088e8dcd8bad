use Rattle.ops.proofs.outcome_of.Goals as goal

pub returns : goal.returns
returns c = rw (c.settles_number.ensures, c.apply_number.ensures)
