use Rattle.std.proofs.Common.{◌≡◌, arith, pow_pos}
use Rattle.ops.proofs.Widths.{one_shifted}
use Rattle.ops.proofs.ones.Goals as goal

pub overflow_sub-result : goal.overflow_sub-result
overflow_sub-result c = rw (one_shifted c.args.n c.if-n-lt32.true) (pow_pos c.args.n)

pub returns-then-n-lt32 : goal.returns-then-n-lt32
returns-then-n-lt32 c = rw (one_shifted c.args.n c.if-n-lt32.true)

pub returns-else-n-lt32 : goal.returns-else-n-lt32
returns-else-n-lt32 c = let e : c.args.n ≡ 32 = omega arith in rw e
