use Rattle.std.proofs.Common.{◌∙◌}
use Rattle.parser.proofs.Lists.{in_is}
use Rattle.parser.proofs.words.among.Goals as goal

pub returns : goal.returns
returns c = c.contains.ensures.value ∙ in_is c.args.word.now c.args.words.now
