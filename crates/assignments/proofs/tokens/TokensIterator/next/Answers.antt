use mathlib.Core.Path.{ap}
use native.Mathlib.Omega.{arith}
use lib.ListN.{length}
use Rattle.assignments.proofs.Complete.{none_left, one_left}
use Rattle.assignments.proofs.tokens.TokensIterator.next.Goals as goal

pub returns-then-token-self-clause-steps : goal.returns-then-token-self-clause-steps
returns-then-token-self-clause-steps c = one_left c.args.self.now.text.now c.args.self.now.at c.token_at-token.result c.token_at-token.ensures c.if-token-self.true

pub returns-then-token-self-clause-goes : goal.returns-then-token-self-clause-goes
returns-then-token-self-clause-goes c =
    let e = ap length (one_left c.args.self.now.text.now c.args.self.now.at c.token_at-token.result c.token_at-token.ensures c.if-token-self.true) in
    record { on = λ _. (tt, tt, omega (arith, e)); keeps = tt; rests = λ _. tt }

pub returns-else-token-self-clause-steps : goal.returns-else-token-self-clause-steps
returns-else-token-self-clause-steps c =
    let e = none_left c.args.self.now.text.now c.args.self.now.at c.token_at-token.result c.token_at-token.ensures c.if-token-self.false in
    (e, e)
