use Rattle.std.proofs.Common.{◌*◌, ◌^◌, sym, ◌∙◌}
use Rattle.ops.proofs.Widths.{wrapped, shifted_out}
use Rattle.ops.proofs.bvshl.Goals as goal

pub returns-then-y-n : goal.returns-then-y-n
returns-then-y-n c = c.reduce.ensures ∙ wrapped c.args.n (c.args.x * 2 ^ c.args.y) c.requires

pub returns-else-y-n : goal.returns-else-y-n
returns-else-y-n c = sym (shifted_out c.args.n c.args.x c.args.y c.if-y-n.false)
