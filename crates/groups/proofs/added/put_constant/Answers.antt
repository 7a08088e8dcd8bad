use mathlib.Core.Path.{ap, ◌∙◌}
use Rattle.table.specs.Code.Writing.{placed}
use Rattle.groups.proofs.added.put_constant.Goals as goal

pub returns : goal.returns
returns c = c.put.ensures ∙ ap (placed _ _) c.constant_term.ensures
