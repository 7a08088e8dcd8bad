use Rattle.groups.proofs.reads.+read_group.Given as goal

abbrev pub decreases-read_group : goal.decreases-read_group
decreases-read_group l = l.a
