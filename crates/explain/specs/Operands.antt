-- An operand of an operator: whether it is free, and whether its value settles the operator by itself.
-- Assumes nothing.
use Rattle.std.specs.Prelude.{Bool, false, cond, not, List, ℕ, get_or}
use Rattle.ops.specs.declared.Op.{Op}
use Rattle.ops.specs.Numbers.{op_of}
use Rattle.ops.specs.Condition.{settles}
use Rattle.table.specs.declared.words.Term.{Term}
use Rattle.table.specs.Terms.{sort_at}
use Rattle.judge.specs.Code.Labelled.{truth_in}
use Rattle.explain.specs.declared.operands.Operand.{Operand}
use Rattle.explain.specs.declared.operands.Operand.TheVariants.{Settles, Free, Unfree, WouldSettle}

-- whether value x of the first operand, or of the second, settles the operator with only that operand free, at the
-- first operand's width n
abbrev pub would_settle : Op → ℕ → ℕ → Bool → Bool
would_settle op n x second = settles op n x x x (not second) second false

abbrev pub state_of : Bool → Bool → Operand
state_of free settles = cond free (cond settles Settles Free) (cond settles WouldSettle Unfree)

-- of operand p of term x, of q where second
abbrev pub operand_state : List ℕ → List ℕ → List ℕ → Term → Bool → Operand
operand_state w values truths x second =
    let k = cond second x.q x.p in
    state_of (truth_in truths k) (would_settle (op_of x.op) (sort_at w x.p).n (get_or values k 0) second)
