use mathlib.Core.Path.{◌≡◌}
use Rattle.outline.specs.Scanning.{scanned, words_left, context_at}
use Rattle.outline.proofs.WordLists.{before}
use Rattle.outline.proofs.scan.context_at.Given as goal

abbrev pub invariant-loop-token : goal.invariant-loop-token
invariant-loop-token l =
    ((goal.iterator-loop-token).can_next l.token-iterator × (goal.iterator-loop-token).is_finite l.token-iterator)
    × (scanned l.scan (before l.stop (words_left l.token-iterator.text.now l.token-iterator.at)) ≡ context_at l.text l.place)
