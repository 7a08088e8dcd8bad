use mathlib.Core.Path.{ap}
use native.Mathlib.Omega.{arith}
use lib.ListN.{length}
use Rattle.assignments.proofs.Lines.{ends-within, no_name, one_name}
use Rattle.assignments.proofs.names.NamesIterator.next.Goals as goal

pub overflow_add-self : goal.overflow_add-self
overflow_add-self c = omega (arith, c.line_end-end.ensures, ends-within c.args.self.now.text.now c.args.self.now.at c.if-self.true)

pub returns-then-self-clause-steps : goal.returns-then-self-clause-steps
returns-then-self-clause-steps c = rw c.of.ensures (one_name c.args.self.now.text.now c.args.self.now.at c.if-self.true c.line_end-end.result c.line_end-end.ensures)

pub returns-then-self-clause-goes : goal.returns-then-self-clause-goes
returns-then-self-clause-goes c =
    let e = ap length (one_name c.args.self.now.text.now c.args.self.now.at c.if-self.true c.line_end-end.result c.line_end-end.ensures) in
    record { on = λ _. (tt, tt, omega (arith, e)); keeps = tt; rests = λ _. tt }

pub returns-else-self-clause-steps : goal.returns-else-self-clause-steps
returns-else-self-clause-steps c = let e = no_name c.args.self.now.text.now c.args.self.now.at c.if-self.false in (e, e)
