use Rattle.smtlib.proofs.bytes.+numeral.Given as goal

abbrev pub decreases-numeral : goal.decreases-numeral
decreases-numeral l = l.v
