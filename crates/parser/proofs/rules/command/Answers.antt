use Rattle.std.proofs.Common.{refl}
use Rattle.parser.specs.Rules.{command_of}
use Rattle.parser.proofs.Codes.{not_open}
use Rattle.parser.proofs.rules.command.Goals as goal

pub returns-in-Open : goal.returns-in-Open
unfolding command_of
returns-in-Open c = rw (c.command_by.ensures.0, c.command_by.ensures.1, c.words_at-w.ensures, rw c.words_at-w.ensures at c.in-Open.is) (refl, refl)

pub returns-in_default : goal.returns-in_default
unfolding command_of
returns-in_default c = rw (c.unexpected.ensures, c.words_at-w.ensures, not_open _ (rw c.words_at-w.ensures at c.in_default.not-Open)) (refl, refl)
