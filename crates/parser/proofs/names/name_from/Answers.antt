use Rattle.std.proofs.Common.{arith}
use Rattle.parser.specs.Words.{white}
use Rattle.parser.proofs.Ahead.{not-past_end}
use Rattle.parser.proofs.names.name_from.Goals as goal

pub overflow_add-start : goal.overflow_add-start
overflow_add-start c = omega (arith, not-past_end white c.args.text.now c.args.at c.requires, c.past_white-start.ensures)
