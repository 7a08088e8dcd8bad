use mathlib.Core.Path.{◌≡◌}
use Rattle.table.specs.Terms.{term_at}
use Rattle.judge.specs.Code.Leaves.{leaves_at}
use Rattle.judge.proofs.leaves.leaves.Given as goal

-- under the stores so far stand the same variables
abbrev pub invariant-loop-b : goal.invariant-loop-b
invariant-loop-b l = (l.x ≡ term_at l.table l.b) × (leaves_at l.table l.b ≡ leaves_at l.table l.a)

abbrev pub decreases-loop-b : goal.decreases-loop-b
decreases-loop-b l = l.b
