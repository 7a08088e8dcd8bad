use Rattle.std.proofs.Common.{◌≡◌}
use Rattle.explain.specs.Repairs.{repair_of}
use Rattle.explain.proofs.repairs.repair.Given as goal

-- the row of the first k terms
abbrev pub invariant-loop-k : goal.invariant-loop-k
invariant-loop-k l = l.row ≡ repair_of l.table l.way l.k
