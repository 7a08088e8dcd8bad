use Prim.Native.Nat.{◌-◌}
use Rattle.smtlib.specs.Writing.{page}
use Rattle.smtlib.proofs.Pages.{Lined}
use Rattle.printer.specs.Scripts.{commands_text}
use Rattle.printer.specs.Printed.{definition}
use Rattle.printer.proofs.text.definitions.Given as goal

abbrev pub invariant-loop-k : goal.invariant-loop-k
invariant-loop-k l = Lined (λ j. commands_text (definition l.table j)) l.n (page l.initial.room l.at) (page l.room l.to) l.k

abbrev pub decreases-loop-k : goal.decreases-loop-k
decreases-loop-k l = l.n - l.k
