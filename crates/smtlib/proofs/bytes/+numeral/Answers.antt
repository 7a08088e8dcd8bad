use mathlib.Core.Path.{sym, ◌∙◌}
use native.Mathlib.Omega.{arith}
use Rattle.smtlib.proofs.Digits.{numeral_last, numeral-more}
use Rattle.smtlib.proofs.Pages.{then, said}
use Rattle.smtlib.proofs.bytes.+numeral.Goals as goal

pub shape_of-room-then-v-lt10 : goal.shape_of-room-then-v-lt10
shape_of-room-then-v-lt10 t c = c.digit.auto.room

pub returns-then-v-lt10 : goal.returns-then-v-lt10
returns-then-v-lt10 t c = said c.digit.ensures (sym (numeral_last c.args.v c.if-v-lt10.true))

pub numeral-to-requires : goal.numeral-to-requires
numeral-to-requires t c = (omega (arith, c.if-v-lt10.false), tt)

pub shape_of-room : goal.shape_of-room
shape_of-room t c = c.digit-2.auto.room ∙ c.numeral-to.auto.room

pub returns : goal.returns
returns t c = said (then c.numeral-to.ensures c.digit-2.ensures) (sym (numeral-more c.args.v c.if-v-lt10.false))
