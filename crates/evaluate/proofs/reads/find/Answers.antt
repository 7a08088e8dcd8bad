use mathlib.Core.Path.{ap, ◌∙◌}
use Rattle.table.specs.Terms.{term_at}
use Rattle.evaluate.specs.Code.Reads.{found_in}
use Rattle.evaluate.proofs.reads.find.Goals as goal

pub returns : goal.returns
returns c = rw (c.ite.ensures, c.number_at-held.ensures, c.is_store-stored.ensures) (ap (found_in c.args.front.now) (c.term_at-x.ensures ∙ ap (term_at c.args.table.now) c.holder.ensures))
