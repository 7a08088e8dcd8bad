use Rattle.parser.proofs.Commands.{Reading}
use Rattle.parser.proofs.rules.rule.Given as goal

abbrev pub invariant-loop : goal.invariant-loop
invariant-loop l = Reading l.text l.initial.p l.initial.room l.p l.room l.counter
