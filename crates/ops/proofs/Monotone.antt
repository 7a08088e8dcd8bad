-- An operator's condition is monotone in its operands' conditions: by what the operator does.
-- Assumes nothing.
use Rattle.std.proofs.Common.{ℕ, Bool, true, false, cond, ◌&&◌, ◌||◌, eqb, refl}
use Rattle.ops.specs.declared.Op.TheVariants.{Constant, Variable, Apply, Ite, Select, Store, Unknown}
use Rattle.ops.specs.Meaning.{Operation, holds, operation}
use Rattle.ops.specs.Meaning.Operation.{unary, strict, absorbing, shift, fixed}
use Rattle.ops.specs.Condition.{condition_by, settles}
use Rattle.ops.specs.Laws.{Implied, Monotone, ChoiceMonotone}
use Rattle.ops.proofs.Booleans.{never}

pub and_implied : (a a' b b' : Bool) → Implied a a' → Implied b b' → Implied (a && b) (a' && b')
and_implied true true b b' p q h = q h
and_implied true false b b' p q h = never (p refl)
and_implied false a' b b' p q h = never h

or_implied : (a a' b b' : Bool) → Implied a a' → Implied b b' → Implied (a || b) (a' || b')
or_implied a true b b' p q h = refl
or_implied true false b b' p q h = never (p refl)
or_implied false false b b' p q h = q h

same : (a : Bool) → Implied a a
same a h = h

pub choice_monotone : ChoiceMonotone
choice_monotone test same-value c c' d d' e e' p q r =
    or_implied (c && cond test d e) (c' && cond test d' e') ((d && e) && same-value) ((d' && e') && same-value)
    (and_implied c c' (cond test d e) (cond test d' e') p (pick test))
    (and_implied (d && e) (d' && e') same-value same-value (and_implied d d' e e' q r) (same same-value))
  where
    pick : (b : Bool) → Implied (cond b d e) (cond b d' e')
    pick true = q
    pick false = r

operation_monotone : (o : Operation) (n x y : ℕ) (c c' d d' : Bool) → Implied c c' → Implied d d' → Implied (condition_by o n x y c d) (condition_by o n x y c' d')
operation_monotone (unary f) n x y c c' d d' p q = p
operation_monotone (strict f) n x y c c' d d' p q = and_implied c c' d d' p q
operation_monotone (absorbing f a b) n x y c c' d d' p q =
    or_implied ((c && a n x) || (d && b n y)) ((c' && a n x) || (d' && b n y)) (c && d) (c' && d')
    (or_implied (c && a n x) (c' && a n x) (d && b n y) (d' && b n y) (and_implied c c' (a n x) (a n x) p (same (a n x))) (and_implied d d' (b n y) (b n y) q (same (b n y))))
    (and_implied c c' d d' p q)
operation_monotone (shift f b) n x y c c' d d' p q =
    or_implied (d && b n y) (d' && b n y) (c && d) (c' && d') (and_implied d d' (b n y) (b n y) q (same (b n y))) (and_implied c c' d d' p q)
operation_monotone (fixed f a b) n x y c c' d d' p q =
    or_implied ((c && a n x) || (c && b n x)) ((c' && a n x) || (c' && b n x)) (c && d) (c' && d')
    (or_implied (c && a n x) (c' && a n x) (c && b n x) (c' && b n x) (and_implied c c' (a n x) (a n x) p (same (a n x))) (and_implied c c' (b n x) (b n x) p (same (b n x))))
    (and_implied c c' d d' p q)

pub monotone : Monotone
unfolding settles
monotone Constant n x y z c c' d d' e e' p q r h = h
monotone Variable n x y z c c' d d' e e' p q r h = h
monotone (Apply f) n x y z c c' d d' e e' p q r h = operation_monotone (operation f) n x y c c' d d' p q h
monotone Ite n x y z c c' d d' e e' p q r h = choice_monotone (holds x) (eqb y z) c c' d d' e e' p q r h
monotone Select n x y z c c' d d' e e' p q r h = h
monotone Store n x y z c c' d d' e e' p q r h = h
monotone Unknown n x y z c c' d d' e e' p q r h = h
