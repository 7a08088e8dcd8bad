use Rattle.std.proofs.Common.{◌+◌, ◌∙◌}
use Rattle.ops.proofs.Widths.{wrapped}
use Rattle.ops.proofs.bvadd.Goals as goal

pub returns : goal.returns
returns c = c.reduce.ensures ∙ rw c.wrapping_add_u32.ensures.value (wrapped c.args.n (c.args.x + c.args.y) c.requires)
