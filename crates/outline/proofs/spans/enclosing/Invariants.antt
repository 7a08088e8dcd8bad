use Rattle.outline.proofs.Ways.{Back}
use Rattle.outline.proofs.spans.enclosing.Given as goal

abbrev pub invariant-loop-k : goal.invariant-loop-k
invariant-loop-k l = Back l.text l.place l.k l.depth
