use Prim.Native.Nat.{◌-◌}
use mathlib.Core.Path.{◌≡◌}
use Rattle.table.proofs.Slots.{Searched, Looked}
use Rattle.admission.proofs.clashes.first_clash.Given as goal

-- none of the first k that are kept has the variable's slot
abbrev pub invariant-loop-k : goal.invariant-loop-k
invariant-loop-k l = (l.at ≡ l.terms) × (l.i ≡ l.initial.i) × Looked l.table l.terms l.earlier l.met l.i l.x l.k

abbrev pub decreases-loop-k : goal.decreases-loop-k
decreases-loop-k l = l.met - l.k

abbrev pub invariant-variables : goal.invariant-variables
invariant-variables l = (l.at ≡ l.terms) × Searched l.table l.terms l.earlier l.met l.i

abbrev pub decreases-variables : goal.decreases-variables
decreases-variables l = l.terms - l.i
