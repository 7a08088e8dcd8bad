use Rattle.smtlib.proofs.Pages.{then}
use Rattle.printer.specs.Scripts.{name_text}
use Rattle.printer.proofs.lines.slot_name.Goals as goal

pub returns : goal.returns
unfolding name_text
returns c = then c.word-to.ensures c.numeral.ensures
