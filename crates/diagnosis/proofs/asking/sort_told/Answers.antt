use Rattle.std.proofs.Common.{sym, ◌∙◌}
use Rattle.table.specs.Faults.{rank}
use Rattle.diagnosis.specs.Asking.{asks}
use Rattle.diagnosis.proofs.Lines.{one_unmet}
use Rattle.diagnosis.proofs.asking.sort_told.Goals as goal

pub returns : goal.returns
returns c = rw (c.of_part.ensures, c.sort_of.ensures, c.asked.ensures, c.sort_at.ensures) (one_unmet c.args.table.now c.args.i c.args.x (asks (rank c.args.x)) (c.in_ok-part.part, c.in_ok-part.asking) (sym c.first_unmet.ensures ∙ c.in_ok-part.was))
