use Rattle.groups.proofs.terms.highest.Goals as goal

pub returns-then-signed : goal.returns-then-signed
returns-then-signed c = rw (c.if-signed.true, c.greatest.ensures)

pub returns-else-signed : goal.returns-else-signed
returns-else-signed c = rw (c.if-signed.false, c.ones.ensures)
