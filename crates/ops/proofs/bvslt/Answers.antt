use Rattle.std.proofs.Common.{sym}
use Rattle.ops.proofs.Signed.{less_turned}
use Rattle.ops.proofs.bvslt.Goals as goal

pub returns : goal.returns
returns c = rw (c.turned-2.ensures, c.turned.ensures) (sym (less_turned c.args.n c.args.x c.args.y))
