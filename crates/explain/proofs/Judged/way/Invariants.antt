use Rattle.explain.proofs.Downward.{Downward}
use Rattle.explain.proofs.Judged.way.Given as goal

abbrev pub invariant-loop-k : goal.invariant-loop-k
invariant-loop-k l = Downward l.self.table.now l.self.values.now l.self.truths.now l.terms l.marks l.k
