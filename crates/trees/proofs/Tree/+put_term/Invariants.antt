use Rattle.std.proofs.Common.{◌-◌}
use Rattle.trees.proofs.Tree.+put_term.Given as goal

abbrev pub decreases-put_term : goal.decreases-put_term
decreases-put_term l = 12 - l.bars.level
