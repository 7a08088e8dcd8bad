use Rattle.judge.proofs.leaves.+leaf_count.Given as goal

abbrev pub decreases-leaf_count : goal.decreases-leaf_count
decreases-leaf_count l = l.a
