use Prim.Native.Nat.{◌-◌}
use Rattle.table.specs.Terms.{term_at}
use Rattle.table.specs.Answers.{accepted}
use Rattle.table.proofs.Scans.{Scanned}
use Rattle.setting.specs.Check.{variable_fault}
use Rattle.setting.proofs.variables.variables_checked.Given as goal

abbrev pub invariant-loop-i : goal.invariant-loop-i
invariant-loop-i l = Scanned (λ k. variable_fault l.values (term_at l.table k)) l.terms accepted l.i

abbrev pub decreases-loop-i : goal.decreases-loop-i
decreases-loop-i l = l.terms - l.i
