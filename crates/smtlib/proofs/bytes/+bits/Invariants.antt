use Rattle.smtlib.proofs.bytes.+bits.Given as goal

abbrev pub decreases-bits : goal.decreases-bits
decreases-bits l = l.n
