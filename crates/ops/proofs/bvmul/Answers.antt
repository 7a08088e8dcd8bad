use Rattle.std.proofs.Common.{◌*◌, ◌∙◌}
use Rattle.ops.proofs.Widths.{wrapped}
use Rattle.ops.proofs.bvmul.Goals as goal

pub returns : goal.returns
returns c = c.reduce.ensures ∙ rw c.wrapping_product.ensures (wrapped c.args.n (c.args.x * c.args.y) c.requires)
