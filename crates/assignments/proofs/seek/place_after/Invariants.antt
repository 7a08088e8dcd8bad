use mathlib.Core.Path.{◌≡◌}
use Rattle.assignments.specs.Tokens.{tokens_left}
use Rattle.assignments.specs.Seeking.{place_from, place_after}
use Rattle.assignments.proofs.seek.place_after.Given as goal

abbrev pub invariant-loop-token : goal.invariant-loop-token
invariant-loop-token l =
    ((goal.iterator-loop-token).can_next l.token-iterator × (goal.iterator-loop-token).is_finite l.token-iterator)
    × (place_from l.text l.sought l.equals l.left l.met (tokens_left l.token-iterator.text.now l.token-iterator.at) ≡ place_after l.text l.sought l.equals l.k)
