use Prim.Native.Nat.{ℕ, ◌+◌}
use mathlib.Core.Path.{ap₂, ◌∙◌}
use native.Mathlib.Omega.{arith}
use Rattle.finish.proofs.Fills.{count_needed, count_most}
use Rattle.finish.proofs.sizes.needed.Goals as goal

pub overflow_add-result-2 : goal.overflow_add-result-2
overflow_add-result-2 c = omega (arith, c.sizes.ensures, c.count.ensures, count_needed c.args.table.now c.requires, count_most c.args.table.now c.requires)

pub returns : goal.returns
returns c = ap₂ (λ (n s : ℕ). n + 3 + s) c.count.ensures c.sizes.ensures ∙ count_needed c.args.table.now c.requires
