use native.Mathlib.Omega.{arith}
use Rattle.smtlib.proofs.Pages.{then, said}
use Rattle.smtlib.proofs.Cases.{false_is, true_is, bits_is}
use Rattle.smtlib.proofs.symbols.constant.Goals as goal

pub returns-then-v-eq0 : goal.returns-then-v-eq0
returns-then-v-eq0 c = said c.word.ensures (false_is c.args.n c.args.v c.if-n-eq0.true c.if-v-eq0.true)

pub returns-then-n-eq0 : goal.returns-then-n-eq0
returns-then-n-eq0 c = said c.word-then-n-eq0.ensures (true_is c.args.n c.args.v c.if-n-eq0.true (omega (arith, c.if-v-eq0.false)))

pub returns : goal.returns
returns c = said (then c.word-a.ensures c.bits.ensures) (bits_is c.args.n c.args.v (omega (arith, c.if-n-eq0.false)))
