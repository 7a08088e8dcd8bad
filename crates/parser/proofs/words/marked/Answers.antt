use Rattle.parser.proofs.WordKinds.{not-marked, marked_is}
use Rattle.parser.proofs.words.marked.Goals as goal

pub returns-in-Some : goal.returns-in-Some
returns-in-Some c = let e = c.in-Some.ensures.cases in marked_is c.args.word.now c.in-Some.digits.now e.0 e.1 c.is_empty.ensures c.all_digits.ensures

pub returns-in-None : goal.returns-in-None
returns-in-None c = not-marked c.args.word.now c.in-None.ensures.cases
