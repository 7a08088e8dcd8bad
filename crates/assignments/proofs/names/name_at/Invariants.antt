use mathlib.Core.Path.{◌≡◌}
use mathlib.Core.List.{[]}
use lib.ListN.{get_or}
use Rattle.assignments.specs.Seeking.{names_of, names_left}
use Rattle.assignments.proofs.names.name_at.Given as goal

abbrev pub invariant-loop-name : goal.invariant-loop-name
invariant-loop-name l =
    ((goal.iterator-loop-name).can_next l.name-iterator × (goal.iterator-loop-name).is_finite l.name-iterator)
    × (get_or (names_left l.name-iterator.text.now l.name-iterator.at) l.left [] ≡ get_or (names_of l.names) l.k [])
