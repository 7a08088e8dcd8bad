use native.Mathlib.Omega.{arith}
use Rattle.evaluate.specs.Evaluation.{afford}
use borrow.Author.Tests.{lt-ltb, le-ltb}
use Rattle.ops.proofs.Widths.{product_below}
use Rattle.evaluate.proofs.spend.afford.Goals as goal

pub overflow_mul-needed : goal.overflow_mul-needed
overflow_mul-needed c = record { fits = product_below 32 (omega (arith, c.count.ensures, c.requires.well_formed.few)) c.ranges.each.fits }

pub returns-then-room-needed : goal.returns-then-room-needed
unfolding afford
returns-then-room-needed c = rw (← c.count.ensures, lt-ltb _ _ c.if-room-needed.true)

pub returns-then-allowance-spent : goal.returns-then-allowance-spent
unfolding afford
returns-then-allowance-spent c = rw (← c.steps-spent.ensures, ← c.count.ensures, le-ltb _ _ c.if-room-needed.false, lt-ltb _ _ c.if-allowance-spent.true)

pub returns : goal.returns
unfolding afford
returns c = rw (← c.steps-spent.ensures, ← c.count.ensures, le-ltb _ _ c.if-room-needed.false, le-ltb _ _ c.if-allowance-spent.false)
