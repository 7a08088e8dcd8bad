use Rattle.std.proofs.Common.{◌∙◌}
use Rattle.smtlib.proofs.Searches.{same_pointwise}
use Rattle.smtlib.proofs.lookup.same_bytes.Goals as goal

pub returns : goal.returns
returns c = c.eq.ensures ∙ same_pointwise c.args.x.now c.args.y.now
