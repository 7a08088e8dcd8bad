use Rattle.groups.proofs.terms.lowest.Goals as goal

pub returns-then-signed : goal.returns-then-signed
returns-then-signed c = rw (c.if-signed.true, c.least.ensures)
