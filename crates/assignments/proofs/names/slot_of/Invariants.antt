use mathlib.Core.Path.{◌≡◌}
use Rattle.assignments.specs.Seeking.{slot_from, slot_of, names_left}
use Rattle.assignments.proofs.names.slot_of.Given as goal

abbrev pub invariant-loop-name : goal.invariant-loop-name
invariant-loop-name l =
    ((goal.iterator-loop-name).can_next l.name-iterator × (goal.iterator-loop-name).is_finite l.name-iterator)
    × (slot_from (names_left l.name-iterator.text.now l.name-iterator.at) l.word l.k ≡ slot_of l.names l.word)
