use Prim.Native.Nat.{◌+◌}
use Rattle.parser.proofs.Cycle.{measure}
use Rattle.parser.proofs.expressions.+expression_operands.Given as goal

abbrev pub decreases-expression : goal.decreases-expression
decreases-expression l = measure l.text.now l.levels l.s.at

abbrev pub decreases-operands : goal.decreases-operands
decreases-operands l = measure l.text.now l.levels l.l.state.at + 1
