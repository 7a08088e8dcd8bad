use mathlib.Core.Path.{ap, ◌∙◌}
use Rattle.table.specs.Code.Writing.{placed}
use Rattle.groups.proofs.added.put_and.Goals as goal

pub returns : goal.returns
returns c = c.put.ensures ∙ ap (placed _ _) c.and_term.ensures
