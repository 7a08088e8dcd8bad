use native.Mathlib.Omega.{arith}
use Rattle.smtlib.proofs.Pages.{then, said}
use Rattle.smtlib.proofs.Cases.{bool_is, vector_is, array_is}
use Rattle.smtlib.proofs.symbols.sort.Goals as goal

pub returns-then-n-eq0 : goal.returns-then-n-eq0
returns-then-n-eq0 c = said c.word.ensures (bool_is c.args.m c.args.n c.if-m-eq0.true c.if-n-eq0.true)

pub returns-then-m-eq0 : goal.returns-then-m-eq0
returns-then-m-eq0 c = said c.vector_sort.ensures (vector_is c.args.m c.args.n c.if-m-eq0.true (omega (arith, c.if-n-eq0.false)))

pub returns : goal.returns
returns c = said (then c.word-a.ensures (then c.vector_sort-b.ensures (then c.word-c.ensures (then c.vector_sort-d.ensures c.word-2.ensures)))) (array_is c.args.m c.args.n (omega (arith, c.if-m-eq0.false)))
