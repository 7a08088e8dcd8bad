use Rattle.std.proofs.Common.{◌-◌, ◌<◌, arith, pow_pos}
use lib.Pow.{pow-lt}
use Rattle.ops.proofs.least.Goals as goal

pub overflow_add-result : goal.overflow_add-result
overflow_add-result c =
    let n = c.args.n in
    let below : n - 1 < 32 = omega arith in
    record { fits = rw c.greatest.ensures (omega (arith, pow-lt below)) }

pub returns : goal.returns
returns c = rw c.greatest.ensures (omega (arith, pow_pos (c.args.n - 1)))
