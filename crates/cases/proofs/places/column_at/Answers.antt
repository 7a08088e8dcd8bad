use Rattle.cases.proofs.Ways.{back-most}
use native.Mathlib.Omega.{arith}
use mathlib.Core.Bool.{true}
use Rattle.cases.proofs.places.column_at.Goals as goal

pub overflow_sub-result : goal.overflow_sub-result
overflow_sub-result c = omega (arith, c.back_to-start.ensures, back-most true c.args.text.now c.args.at)
