use Rattle.std.proofs.Common.{Bool, ◌&&◌, ◌||◌, ap}
use Rattle.ops.proofs.Booleans.{cond_parts}
use Rattle.ops.proofs.chosen.Goals as goal

pub returns : goal.returns
returns c = ap (λ (b : Bool). (c.args.c && b) || ((c.args.d && c.args.e) && c.args.same)) (cond_parts c.args.test c.args.d c.args.e)
