use Rattle.std.proofs.Common.{sym}
use native.Mathlib.Nat.{div-eq_of_lt}
use Rattle.ops.proofs.Widths.{below_whole}
use Rattle.ops.proofs.shift_right.Goals as goal

pub returns-else-y-lt32 : goal.returns-else-y-lt32
returns-else-y-lt32 c = sym (div-eq_of_lt (below_whole c.args.y c.args.x c.if-y-lt32.false c.ranges.x.fits))
