use Prim.Native.Nat.{◌-◌, ◌≤◌}
use Rattle.setting.specs.Code.Entries.{Entries}
use Rattle.setting.proofs.arrays.fill_entries.Given as goal

abbrev pub invariant-loop-i : goal.invariant-loop-i
invariant-loop-i l = (l.i ≤ l.terms) × Entries l.table l.i l.entries

abbrev pub decreases-loop-i : goal.decreases-loop-i
decreases-loop-i l = l.terms - l.i
