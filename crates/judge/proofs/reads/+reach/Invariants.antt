use Rattle.judge.proofs.reads.+reach.Given as goal

abbrev pub decreases-reach : goal.decreases-reach
decreases-reach l = l.a
