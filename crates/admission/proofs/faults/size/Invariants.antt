use Prim.Native.Nat.{◌+◌, ◌-◌, ◌≤◌}
use mathlib.Core.Path.{◌≡◌}
use Rattle.table.specs.Faults.{size_within, size}
use Rattle.admission.proofs.faults.size.Given as goal

-- so many stores are passed, and the rest is counted from the array that they stand on
abbrev pub invariant-loop-count : goal.invariant-loop-count
invariant-loop-count l = (l.count ≤ 17) × (size l.table l.k ≡ l.count + size_within (17 - l.count) l.table l.at)

abbrev pub decreases-loop-count : goal.decreases-loop-count
decreases-loop-count l = 17 - l.count
