use Rattle.smtlib.proofs.Pages.{then, said}
use Rattle.printer.proofs.Parts.{one_operand}
use Rattle.printer.proofs.lines.operand.Goals as goal

pub returns : goal.returns
returns c = said (then c.word-to.ensures c.name.ensures) (one_operand _)
