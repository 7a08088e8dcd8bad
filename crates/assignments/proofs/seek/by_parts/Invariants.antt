use mathlib.Core.Path.{◌≡◌}
use Rattle.assignments.specs.Tokens.{tokens_left}
use Rattle.assignments.specs.Seeking.{by_parts_from, by_parts}
use Rattle.assignments.proofs.seek.by_parts.Given as goal

abbrev pub invariant-loop-token : goal.invariant-loop-token
invariant-loop-token l =
    ((goal.iterator-loop-token).can_next l.token-iterator × (goal.iterator-loop-token).is_finite l.token-iterator)
    × (by_parts_from l.text l.found (tokens_left l.token-iterator.text.now l.token-iterator.at) ≡ by_parts l.text)
