use Rattle.std.proofs.Common.{pow_pos}
use Rattle.ops.proofs.Widths.{one_shifted, whole_word}
use Rattle.ops.proofs.reduce.Goals as goal

pub nonzero_rem-result : goal.nonzero_rem-result
nonzero_rem-result c = rw (one_shifted c.args.n c.if-n-lt32.true) (pow_pos c.args.n)

pub returns-then-n-lt32 : goal.returns-then-n-lt32
returns-then-n-lt32 c = rw (one_shifted c.args.n c.if-n-lt32.true)

pub returns-else-n-lt32 : goal.returns-else-n-lt32
returns-else-n-lt32 c = whole_word c.args.n c.args.v c.if-n-lt32.false c.ranges.v.fits
