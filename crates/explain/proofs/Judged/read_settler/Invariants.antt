use Rattle.std.proofs.Common.{◌≡◌}
use Rattle.explain.specs.Settlers.{stop_at}
use Rattle.explain.proofs.Judged.read_settler.Given as goal

-- the walk from the term that it has reached stops where that from the first does
abbrev pub invariant-loop-at : goal.invariant-loop-at
invariant-loop-at l = stop_at l.self.table.now l.self.values.now l.self.truths.now l.j l.at ≡ stop_at l.self.table.now l.self.values.now l.self.truths.now l.j l.initial.at

abbrev pub decreases-loop-at : goal.decreases-loop-at
decreases-loop-at l = l.at
