use Rattle.std.proofs.Common.{sym}
use Rattle.ops.proofs.Signed.{signed_by_others}
use Rattle.ops.proofs.bvashr.Goals as goal

pub returns : goal.returns
returns c = rw (c.ite.ensures, c.bvnot-2.ensures, c.shift_right-2.ensures, c.bvnot.ensures, c.shift_right.ensures, c.least.ensures, c.reduce-u.ensures) (sym (signed_by_others c.args.n c.args.x c.args.y).bvashr)
