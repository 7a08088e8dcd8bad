use Prim.Native.Nat.{ℕ, ◌+◌, ◌*◌}
use mathlib.Core.Path.{◌≡◌, sym, ap, ◌∙◌}
use mathlib.Core.Bool.{Bool, true, false, cond}
use mathlib.Core.List.{List}
use native.Mathlib.Omega.{arith}
use Rattle.ops.specs.Numbers.{op_of}
use Rattle.table.specs.declared.words.Term.{Term}
use Rattle.table.specs.Faults.{is_choice, size}
use Rattle.table.proofs.Sizes.{size_below}
use Rattle.groups.specs.declared.kinds.GroupKind.{GroupKind}
use Rattle.groups.specs.declared.kinds.GroupKind.TheVariants.{Literal, Input, Unary, Strict, Conjunction, Disjunction, Implication, Zero, Ones, Bounds, SignedBounds, Fixed, Shift, Choice, Read, Write}
use Rattle.groups.specs.FunctionGroups.{kind_of}
use Rattle.groups.specs.Sizes.{size_by, size_of}
use Rattle.finish.proofs.sizes.size_of.Goals as goal

-- the size of a term, by whether it is a choice between arrays
sized_as : (w : List ℕ) (x : Term) (z : Bool) → z ≡ is_choice x → cond z 0 (size_by (kind_of (op_of x.op)) (size w x.p)) ≡ size_of w x
sized_as w x z is = ap (λ (y : Bool). cond y 0 (size_by (kind_of (op_of x.op)) (size w x.p))) is

-- and by its kind, where it is none
sized : (w : List ℕ) (x : Term) (k l : GroupKind) {z : Bool} → z ≡ is_choice x → z ≡ false → k ≡ kind_of (op_of x.op) → k ≡ l → size_by l (size w x.p) ≡ size_of w x
sized w x k l is none kind e = ap (λ (y : GroupKind). size_by y (size w x.p)) (sym e ∙ kind) ∙ sized_as w x false (sym none ∙ is)

-- a size counted through 17 terms in a row
pub overflow_mul-result : goal.overflow_mul-result
overflow_mul-result c = omega (arith, c.size.ensures, size_below 17 c.args.table.now c.args.x.p)

pub overflow_add-result : goal.overflow_add-result
overflow_add-result c = omega (arith, c.size.ensures, size_below 17 c.args.table.now c.args.x.p)

pub returns-then-is_choice : goal.returns-then-is_choice
returns-then-is_choice c = sized_as c.args.table.now c.args.x true (sym c.if-is_choice.true ∙ c.is_choice.ensures)

pub returns-in-Literal : goal.returns-in-Literal
returns-in-Literal c = sized c.args.table.now c.args.x c.kind_of.result Literal c.is_choice.ensures c.if-is_choice.false c.kind_of.ensures c.in-Literal.is

pub returns-in-Input : goal.returns-in-Input
returns-in-Input c = sized c.args.table.now c.args.x c.kind_of.result Input c.is_choice.ensures c.if-is_choice.false c.kind_of.ensures c.in-Input.is

pub returns-in-Unary : goal.returns-in-Unary
returns-in-Unary c = sized c.args.table.now c.args.x c.kind_of.result Unary c.is_choice.ensures c.if-is_choice.false c.kind_of.ensures c.in-Unary.is

pub returns-in-Strict : goal.returns-in-Strict
returns-in-Strict c = sized c.args.table.now c.args.x c.kind_of.result Strict c.is_choice.ensures c.if-is_choice.false c.kind_of.ensures c.in-Strict.is

pub returns-in-Conjunction : goal.returns-in-Conjunction
returns-in-Conjunction c = sized c.args.table.now c.args.x c.kind_of.result Conjunction c.is_choice.ensures c.if-is_choice.false c.kind_of.ensures c.in-Conjunction.is

pub returns-in-Disjunction : goal.returns-in-Disjunction
returns-in-Disjunction c = sized c.args.table.now c.args.x c.kind_of.result Disjunction c.is_choice.ensures c.if-is_choice.false c.kind_of.ensures c.in-Disjunction.is

pub returns-in-Implication : goal.returns-in-Implication
returns-in-Implication c = sized c.args.table.now c.args.x c.kind_of.result Implication c.is_choice.ensures c.if-is_choice.false c.kind_of.ensures c.in-Implication.is

pub returns-in-Zero : goal.returns-in-Zero
returns-in-Zero c = sized c.args.table.now c.args.x c.kind_of.result Zero c.is_choice.ensures c.if-is_choice.false c.kind_of.ensures c.in-Zero.is

pub returns-in-Ones : goal.returns-in-Ones
returns-in-Ones c = sized c.args.table.now c.args.x c.kind_of.result Ones c.is_choice.ensures c.if-is_choice.false c.kind_of.ensures c.in-Ones.is

pub returns-in-Bounds : goal.returns-in-Bounds
returns-in-Bounds c = sized c.args.table.now c.args.x c.kind_of.result Bounds c.is_choice.ensures c.if-is_choice.false c.kind_of.ensures c.in-Bounds.is

pub returns-in-SignedBounds : goal.returns-in-SignedBounds
returns-in-SignedBounds c = sized c.args.table.now c.args.x c.kind_of.result SignedBounds c.is_choice.ensures c.if-is_choice.false c.kind_of.ensures c.in-SignedBounds.is

pub returns-in-Fixed : goal.returns-in-Fixed
returns-in-Fixed c = sized c.args.table.now c.args.x c.kind_of.result Fixed c.is_choice.ensures c.if-is_choice.false c.kind_of.ensures c.in-Fixed.is

pub returns-in-Shift : goal.returns-in-Shift
returns-in-Shift c = sized c.args.table.now c.args.x c.kind_of.result Shift c.is_choice.ensures c.if-is_choice.false c.kind_of.ensures c.in-Shift.is

pub returns-in-Choice : goal.returns-in-Choice
returns-in-Choice c = sized c.args.table.now c.args.x c.kind_of.result Choice c.is_choice.ensures c.if-is_choice.false c.kind_of.ensures c.in-Choice.is

pub returns-in-Read : goal.returns-in-Read
returns-in-Read c = ap (λ (n : ℕ). 1 + 9 * n) c.size.ensures ∙ sized c.args.table.now c.args.x c.kind_of.result Read c.is_choice.ensures c.if-is_choice.false c.kind_of.ensures c.in-Read.is

pub returns-in-Write : goal.returns-in-Write
returns-in-Write c = sized c.args.table.now c.args.x c.kind_of.result Write c.is_choice.ensures c.if-is_choice.false c.kind_of.ensures c.in-Write.is
