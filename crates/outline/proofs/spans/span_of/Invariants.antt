use mathlib.Core.Path.{◌≡◌}
use Rattle.outline.specs.Scanning.{words_left}
use Rattle.outline.specs.Spans.{span_in, span_of}
use Rattle.outline.proofs.spans.span_of.Given as goal

abbrev pub invariant-loop-token : goal.invariant-loop-token
invariant-loop-token l =
    ((goal.iterator-loop-token).can_next l.token-iterator × (goal.iterator-loop-token).is_finite l.token-iterator)
    × (span_in l.text l.term l.scan (words_left l.token-iterator.text.now l.token-iterator.at) ≡ span_of l.text l.term)
