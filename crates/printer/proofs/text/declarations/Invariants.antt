use Prim.Native.Nat.{◌-◌}
use Rattle.smtlib.specs.Writing.{page}
use Rattle.smtlib.proofs.Pages.{Lined}
use Rattle.printer.specs.Scripts.{commands_text}
use Rattle.printer.specs.Printed.{declaration}
use Rattle.printer.proofs.text.declarations.Given as goal

abbrev pub invariant-loop-s : goal.invariant-loop-s
invariant-loop-s l = Lined (λ j. commands_text (declaration l.table j)) 256 (page l.initial.room l.at) (page l.room l.to) l.s

abbrev pub decreases-loop-s : goal.decreases-loop-s
decreases-loop-s l = 256 - l.s
