use Rattle.std.proofs.Common.{sym, lt-ltb, eq-eqb, ne_eqb}
use Rattle.ops.proofs.Widths.{shr_test, below_whole}
use Rattle.ops.proofs.fits.Goals as goal

pub returns-then-n-eq0 : goal.returns-then-n-eq0
returns-then-n-eq0 c = rw (eq-eqb _ _ c.if-n-eq0.true)

pub returns-then-n-lt32 : goal.returns-then-n-lt32
returns-then-n-lt32 c = rw (ne_eqb _ _ c.if-n-eq0.false) (shr_test c.args.v c.args.n)

pub returns-else-n-lt32 : goal.returns-else-n-lt32
returns-else-n-lt32 c = rw (ne_eqb _ _ c.if-n-eq0.false) (sym (lt-ltb _ _ (below_whole _ _ c.if-n-lt32.false c.ranges.v.fits)))
