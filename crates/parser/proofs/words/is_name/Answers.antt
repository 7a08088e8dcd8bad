use Rattle.std.proofs.Common.{◌∙◌, sym}
use Rattle.parser.proofs.WordKinds.{no_name, name_is}
use Rattle.parser.proofs.words.is_name.Goals as goal

pub returns-then-not-symbol : goal.returns-then-not-symbol
returns-then-not-symbol c = no_name c.args.word.now (sym c.symbol.ensures ∙ c.if-not-symbol.true)

pub returns : goal.returns
returns c = name_is c.args.word.now (sym c.symbol.ensures ∙ c.if-not-symbol.false) c.among.ensures c.among-2.ensures
