use Rattle.std.proofs.Common.{◌≡◌, slice_get}
use Rattle.explain.specs.Sources.{along}
use Rattle.explain.proofs.sources.along.Given as goal

-- number left from the term that the walk has reached is number i from the first
abbrev pub invariant-loop-left : goal.invariant-loop-left
invariant-loop-left l = slice_get (along l.table l.values l.at l.j) l.left ≡ slice_get (along l.table l.values l.a l.j) l.i

abbrev pub decreases-loop-left : goal.decreases-loop-left
decreases-loop-left l = l.left
