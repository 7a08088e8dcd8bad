use Rattle.judge.proofs.reads.+read.Given as goal

abbrev pub decreases-read : goal.decreases-read
decreases-read l = l.a
