use mathlib.Core.Path.{sym, ◌∙◌}
use native.Mathlib.Omega.{arith}
use Rattle.smtlib.proofs.Digits.{bits_none, bits-more}
use Rattle.smtlib.proofs.Pages.{nothing, then, said}
use Rattle.smtlib.proofs.bytes.+bits.Goals as goal

pub returns-then-n-eq0 : goal.returns-then-n-eq0
returns-then-n-eq0 t c = said nothing (sym (bits_none c.args.n c.args.v c.if-n-eq0.true))

pub bits-to-requires : goal.bits-to-requires
bits-to-requires t c = (omega (arith, c.if-n-eq0.false), tt)

pub shape_of-room : goal.shape_of-room
shape_of-room t c = c.digit.auto.room ∙ c.bits-to.auto.room

pub returns : goal.returns
returns t c = said (then c.bits-to.ensures c.digit.ensures) (sym (bits-more c.args.n c.args.v (omega (arith, c.if-n-eq0.false))))
