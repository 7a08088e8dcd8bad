use Rattle.std.proofs.Common.{◌≡◌, ℕ, ◌≤◌, ◌<◌}
use Rattle.smtlib.specs.Symbols.{operator_name}
use Rattle.smtlib.proofs.symbols.operator_of.Given as goal

abbrev pub invariant-loop-op : goal.invariant-loop-op
invariant-loop-op l = (k : ℕ) → 2 ≤ k → k < l.op → operator_name k ≡ l.word → ⊥
