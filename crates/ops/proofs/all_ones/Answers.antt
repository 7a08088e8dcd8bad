use Rattle.std.proofs.Common.{sym, arith}
use Rattle.ops.proofs.Widths.{no_ones}
use Rattle.ops.proofs.all_ones.Goals as goal

pub returns-then-n-le32 : goal.returns-then-n-le32
returns-then-n-le32 c = rw c.ones.ensures

pub returns-else-n-le32 : goal.returns-else-n-le32
returns-else-n-le32 c = sym (no_ones c.args.n c.args.x (omega arith) (omega (arith, c.ranges.x)))
