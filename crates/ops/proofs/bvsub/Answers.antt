use Rattle.std.proofs.Common.{sym}
use Rattle.ops.proofs.Signed.{signed_by_others}
use Rattle.ops.proofs.bvsub.Goals as goal

pub returns : goal.returns
returns c = rw (c.bvadd.ensures, c.bvneg.ensures) (sym (signed_by_others c.args.n c.args.x c.args.y).bvsub)
