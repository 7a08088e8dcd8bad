use Rattle.std.proofs.Common.{◌-◌, length}
use Rattle.explain.specs.Sources.{support}
use Rattle.explain.proofs.Looks.{Looking}
use Rattle.explain.proofs.Judged.look_at.Given as goal

abbrev pub invariant-loop-s : goal.invariant-loop-s
invariant-loop-s l = Looking l.self.table.now l.self.values.now l.self.truths.now l.x l.initial.marks l.marks l.i

abbrev pub decreases-loop-s : goal.decreases-loop-s
decreases-loop-s l = length (support l.self.table.now l.self.values.now l.x) - l.i
