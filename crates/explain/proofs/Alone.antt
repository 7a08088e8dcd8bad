-- An operand that is free and whose value settles the operator.
-- Assumes nothing.
use mathlib.Core.Path.{◌≡◌, refl}
use mathlib.Core.Bool.{Bool, true, false, cond, not, ◌||◌}
use Prim.Native.Nat.{ℕ}
use lib.Dec.{eqb}
use Rattle.ops.specs.declared.Op.TheVariants.{Constant, Variable, Apply, Ite, Select, Store, Unknown}
use Rattle.ops.specs.Meaning.{Operation, holds, operation}
use Rattle.ops.specs.Meaning.Operation.{unary, strict, absorbing, shift, fixed}
use Rattle.ops.specs.Condition.{absorbed, shifted, fixed_by, chosen, condition_by, settles}
use Rattle.ops.proofs.Booleans.{never}
use Rattle.explain.specs.Laws.{FreeSettles}

first_absorbs : (c a d b : Bool) → c ≡ true → a ≡ true → absorbed c a d b ≡ true
first_absorbs true true d b hc ha = refl
first_absorbs true false d b hc ha = never ha
first_absorbs false a d b hc ha = never hc

second_absorbs : (c a d b : Bool) → d ≡ true → b ≡ true → absorbed c a d b ≡ true
second_absorbs c a false b hd hb = never hd
second_absorbs c a true false hd hb = never hb
second_absorbs true true true true hd hb = refl
second_absorbs true false true true hd hb = refl
second_absorbs false a true true hd hb = refl

second_shifts : (c d b : Bool) → d ≡ true → b ≡ true → shifted c d b ≡ true
second_shifts c true true hd hb = refl
second_shifts c true false hd hb = never hb
second_shifts c false b hd hb = never hd

first_fixed : (c d a b : Bool) → c ≡ true → (a || b) ≡ true → fixed_by c d a b ≡ true
first_fixed true d true b hc h = refl
first_fixed true d false true hc h = refl
first_fixed true d false false hc h = never h
first_fixed false d a b hc h = never hc

or_shut : (b : Bool) → (b || false) ≡ true → b ≡ true
or_shut true h = refl
or_shut false h = never h

by : (o : Operation) (n x y : ℕ) (c d second : Bool) → cond second d c ≡ true
    → condition_by o n (cond second y x) (cond second y x) (not second) second ≡ true → condition_by o n x y c d ≡ true
by (unary f) n x y c d true free h = never h
by (unary f) n x y c d false free h = free
by (strict f) n x y c d true free h = never h
by (strict f) n x y c d false free h = never h
by (absorbing f a b) n x y c d true free h = second_absorbs c (a n x) d (b n y) free (or_shut (b n y) h)
by (absorbing f a b) n x y c d false free h = first_absorbs c (a n x) d (b n y) free (or_shut (a n x) (or_shut (a n x || false) h))
by (shift f b) n x y c d true free h = second_shifts c d (b n y) free (or_shut (b n y) h)
by (shift f b) n x y c d false free h = never h
by (fixed f a b) n x y c d true free h = never h
by (fixed f a b) n x y c d false free h = first_fixed c d (a n x) (b n x) free (or_shut (a n x || b n x) h)

-- of a choice no operand alone
no-choice : (test same : Bool) → chosen true test false false same ≡ true → ⊥
no-choice true same h = never h
no-choice false same h = never h

pub free-settles : FreeSettles
unfolding settles
free-settles Constant n x y z c d e second free h = never h
free-settles Variable n x y z c d e second free h = never h
free-settles (Apply f) n x y z c d e second free h = by (operation f) n x y c d second free h
free-settles Ite n x y z c d e true free h = never h
free-settles Ite n x y z c d e false free h = absurd (no-choice (holds x) (eqb x x) h)
free-settles Select n x y z c d e second free h = never h
free-settles Store n x y z c d e second free h = never h
free-settles Unknown n x y z c d e second free h = never h
