use Rattle.printer.specs.Scripts.{body_text}
use Rattle.smtlib.proofs.Pages.{then}
use Rattle.printer.proofs.lines.application.Goals as goal

pub returns : goal.returns
unfolding body_text
returns c = then c.word-a.ensures (then c.operator-b.ensures (then c.operands-c.ensures c.word.ensures))
