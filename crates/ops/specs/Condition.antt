-- The condition of each operator: paper 01, "The condition of each term", ops 2 to 14; requests 03 and 05. Written c,
-- d, e are the conditions of the operands, C(p), C(q), C(r).
-- Assumes nothing.
use Rattle.std.specs.Prelude.{ℕ, Bool, false, cond, ◌&&◌, ◌||◌, ◌==◌}
use Rattle.ops.specs.declared.Op.{Op}
use Rattle.ops.specs.declared.Op.TheVariants.{Constant, Variable, Apply, Ite, Select, Store, Unknown}
use Rattle.ops.specs.declared.Function.{Function}
use Rattle.ops.specs.Meaning.{Operation, holds, operation}
use Rattle.ops.specs.Meaning.Operation.{unary, strict, absorbing, shift, fixed}

-- and, or, implies, vector and, product, vector or, less, signed less: an operand that is free and settles, or both free
abbrev pub absorbed : Bool → Bool → Bool → Bool → Bool
absorbed c a d b = ((c && a) || (d && b)) || (c && d)

-- shift to the left: a free amount of the width or more, or both free
abbrev pub shifted : Bool → Bool → Bool → Bool
shifted c d b = (d && b) || (c && d)

-- shift to the right: a first operand that is free and one of two values, or both free; the amount alone settles nothing
abbrev pub fixed_by : Bool → Bool → Bool → Bool → Bool
fixed_by c d a b = ((c && a) || (c && b)) || (c && d)

-- choice: a free test and a free branch that it picks; or both branches free and equal
abbrev pub chosen : Bool → Bool → Bool → Bool → Bool → Bool
chosen c test d e same = (c && cond test d e) || ((d && e) && same)

abbrev pub condition_by : Operation → ℕ → ℕ → ℕ → Bool → Bool → Bool
condition_by (unary f) n x y c d = c
condition_by (strict f) n x y c d = c && d
condition_by (absorbing f a b) n x y c d = absorbed c (a n x) d (b n y)
condition_by (shift f b) n x y c d = shifted c d (b n y)
condition_by (fixed f a b) n x y c d = fixed_by c d (a n x) (b n x)

-- the condition of a function, from the first operand's width and the operands' values and conditions
abbrev pub condition_of : Function → ℕ → ℕ → ℕ → Bool → Bool → Bool
condition_of f n x y c d = condition_by (operation f) n x y c d

-- the condition of an operator
unfoldable pub settles : Op → ℕ → ℕ → ℕ → ℕ → Bool → Bool → Bool → Bool
settles Constant n x y z c d e = false
settles Variable n x y z c d e = false
settles (Apply f) n x y z c d e = condition_of f n x y c d
settles Ite n x y z c d e = chosen c (holds x) d e (y == z)
settles Select n x y z c d e = false
settles Store n x y z c d e = false
settles Unknown n x y z c d e = false
