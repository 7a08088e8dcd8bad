use mathlib.Core.Path.{◌≡◌}
use lib.ListN.{length}
use Rattle.assignments.specs.Tokens.{tokens_left}
use Rattle.assignments.specs.Statements.{run}
use Rattle.assignments.specs.Reading.{worked}
use Rattle.assignments.proofs.statements.run.Given as goal

abbrev pub invariant-loop-token : goal.invariant-loop-token
invariant-loop-token l =
    ((goal.iterator-loop-token).can_next l.token-iterator × (goal.iterator-loop-token).is_finite l.token-iterator)
    × (length l.cells ≡ length l.initial.cells)
    × (length l.sheet ≡ length l.initial.sheet)
    × (run l.source.names.now l.source.table.now l.source.text.now l.state l.cells l.sheet (tokens_left l.token-iterator.text.now l.token-iterator.at)
    ≡ worked l.source.names.now l.source.table.now l.source.text.now l.initial.cells l.initial.sheet)
