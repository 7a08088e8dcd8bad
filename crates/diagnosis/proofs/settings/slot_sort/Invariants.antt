use Rattle.std.proofs.Common.{◌≡◌}
use Rattle.table.specs.Terms.{terms}
use Rattle.setting.specs.Arrays.{array_entry}
use Rattle.diagnosis.proofs.settings.slot_sort.Given as goal

abbrev pub invariant-loop-k : goal.invariant-loop-k
invariant-loop-k l = array_entry l.table (terms l.table) l.slot ≡ array_entry l.table l.k l.slot
