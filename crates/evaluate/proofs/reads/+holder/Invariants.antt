use Rattle.evaluate.proofs.reads.+holder.Given as goal

abbrev pub decreases-holder : goal.decreases-holder
decreases-holder l = l.a
