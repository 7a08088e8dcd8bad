use Rattle.parser.proofs.WordKinds.{no_symbol, symbol_is}
use Rattle.parser.proofs.words.symbol.Goals as goal

pub returns-in-Some : goal.returns-in-Some
returns-in-Some c = symbol_is c.args.word.now c.first.result c.first.ensures.value c.in-Some.is c.is_ascii_digit.ensures.value c.all_symbolic.ensures

pub returns-in-None : goal.returns-in-None
returns-in-None c = no_symbol c.args.word.now c.first.result c.first.ensures.value c.in-None.is
