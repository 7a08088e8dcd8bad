-- SMT-LIB's values of operators and inputs, without a table: those of the functions are `ops`', of select and store ArraysEx's.
-- Assumes nothing.
use Rattle.std.specs.Prelude.{cond, ℕ, eqb}
use Rattle.ops.specs.declared.Op.{Op}
use Rattle.ops.specs.declared.Op.TheVariants.{Constant, Variable, Apply, Ite, Select, Store, Unknown}
use Rattle.ops.specs.Meaning.{apply, holds}
use Rattle.table.specs.declared.words.Sort.{Sort}
use Rattle.table.specs.Terms.{scalar}
use Rattle.setting.specs.Interpretation.{Value}
use Rattle.evaluate.specs.Values.{scalar_value, array_value}

-- an operator's value, from its first operand's width and its operands' values v 0, v 1, v 2
abbrev pub applied : Op → ℕ → (ℕ → Value) → Value
applied Constant n v = scalar_value 0
applied Variable n v = scalar_value 0
applied (Apply f) n v = scalar_value (apply (Apply f) n (v 0).num (v 1).num (v 2).num)
applied Ite n v = cond (holds (v 0).num) (v 1) (v 2)
applied Select n v = scalar_value ((v 0).cell (v 1).num)
applied Store n v = array_value (λ j. cond (eqb (v 1).num j) (v 2).num ((v 0).cell j))
applied Unknown n v = scalar_value 0

-- an input's value at its sort
abbrev pub input_value : Sort → Value → Value
input_value s v = cond (scalar s) (scalar_value v.num) (array_value v.cell)
