use native.Mathlib.Omega.{arith}
use Rattle.smtlib.proofs.Pages.{then, said}
use Rattle.printer.proofs.Parts.{text_is}
use Rattle.printer.proofs.text.write.Goals as goal

pub returns : goal.returns
returns c = said (then c.word-a.ensures (then c.declarations-b.ensures (then c.definitions-c.ensures (then c.word-d.ensures (then c.name-e.ensures c.word.ensures))))) (text_is c.args.table.now c.count-n.result c.count-n.ensures (omega (arith, c.count-n.ensures, c.requires.some)))
