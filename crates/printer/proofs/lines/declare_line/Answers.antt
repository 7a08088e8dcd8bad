use Rattle.printer.specs.Scripts.{command_text}
use Rattle.smtlib.proofs.Pages.{then}
use Rattle.printer.proofs.lines.declare_line.Goals as goal

pub returns : goal.returns
unfolding command_text
returns c = then c.word-a.ensures (then c.slot_name-b.ensures (then c.word-c.ensures (then c.sort-d.ensures c.word.ensures)))
