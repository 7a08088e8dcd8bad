use Rattle.printer.specs.Scripts.{command_text}
use Rattle.smtlib.proofs.Pages.{then}
use Rattle.printer.proofs.lines.define_line.Goals as goal

pub returns : goal.returns
unfolding command_text
returns c = then c.word-a.ensures (then c.term_name-b.ensures (then c.word-c.ensures (then c.sort-d.ensures (then c.word-e.ensures (then c.body-f.ensures c.word.ensures)))))
