use mathlib.Core.Path.{◌≡◌}
use Rattle.assignments.specs.Statements.{listed_in}
use Rattle.assignments.proofs.statements.listed_in.Given as goal

abbrev pub invariant-loop-n : goal.invariant-loop-n
invariant-loop-n l = listed_in l.cells l.n l.cell.slot l.cell.index ≡ listed_in l.cells l.count l.cell.slot l.cell.index
