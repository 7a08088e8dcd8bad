use Rattle.explain.proofs.settlers.+unfree_along.Given as goal

abbrev pub decreases-unfree_along : goal.decreases-unfree_along
decreases-unfree_along l = l.a
