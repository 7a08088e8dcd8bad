-- How many terms are added, as paper 01 counts them, and paper 02's request 07 for a read: 1 + 9 times its array's size.
-- Assumes nothing.
use Rattle.std.specs.Prelude.{cond, List, ℕ, zero, suc, ◌+◌, ◌*◌}
use Rattle.ops.specs.Numbers.{op_of}
use Rattle.table.specs.declared.words.Term.{Term}
use Rattle.table.specs.Terms.{term_at}
use Rattle.table.specs.Faults.{is_choice, size}
use Rattle.groups.specs.declared.kinds.GroupKind.{GroupKind}
use Rattle.groups.specs.declared.kinds.GroupKind.TheVariants.{Literal, Input, Unary, Strict, Conjunction, Disjunction, Implication, Zero, Ones, Bounds, SignedBounds, Fixed, Shift, Choice, Read, Write}
use Rattle.groups.specs.FunctionGroups.{kind_of}

-- the terms of a group; count is the size of a read's array
abbrev pub size_by : GroupKind → ℕ → ℕ
size_by Literal count = 0
size_by Input count = 0
size_by Unary count = 0
size_by Strict count = 1
size_by Conjunction count = 7
size_by Disjunction count = 5
size_by Implication count = 6
size_by Zero count = 8
size_by Ones count = 8
size_by Bounds count = 9
size_by SignedBounds count = 9
size_by Fixed count = 9
size_by Shift count = 6
size_by Choice count = 6
size_by Read count = 1 + 9 * count
size_by Write count = 0

-- a choice between arrays adds nothing
abbrev pub size_of : List ℕ → Term → ℕ
size_of w t = cond (is_choice t) 0 (size_by (kind_of (op_of t.op)) (size w t.p))

-- of the first k terms
unfoldable pub sizes : List ℕ → ℕ → ℕ
sizes w zero = 0
sizes w (suc k) = sizes w k + size_of w (term_at w k)
