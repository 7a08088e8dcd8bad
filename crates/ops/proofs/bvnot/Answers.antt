use Rattle.ops.proofs.Widths.{mod-ones}
use Rattle.ops.proofs.bvnot.Goals as goal

pub overflow_sub-result : goal.overflow_sub-result
overflow_sub-result c = rw (c.reduce.ensures, c.ones.ensures) (mod-ones c.args.n c.args.x)
