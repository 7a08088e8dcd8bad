use Rattle.std.proofs.Common.{◌≡◌}
use Rattle.cases.specs.Places.{back_to}
use Rattle.cases.proofs.places.back_to.Given as goal

abbrev pub invariant-loop-k : goal.invariant-loop-k
invariant-loop-k l = back_to l.lines l.text l.at ≡ back_to l.lines l.text l.k
