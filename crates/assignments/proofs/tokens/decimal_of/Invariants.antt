use mathlib.Core.Path.{◌≡◌}
use lib.ListN.{drop}
use Rattle.assignments.specs.Tokens.{decimal_from}
use Rattle.assignments.proofs.tokens.decimal_of.Given as goal

abbrev pub invariant-loop-b : goal.invariant-loop-b
invariant-loop-b l = decimal_from l.value (drop l.b-index l.word) ≡ decimal_from 0 l.word
