use Rattle.std.proofs.Common.{arith}
use Rattle.parser.proofs.WordKinds.{digits_fit}
use Rattle.parser.proofs.words.decimal_width.Goals as goal

pub value_of-width-requires : goal.value_of-width-requires
value_of-width-requires c = (omega arith, digits_fit c.args.word.now c.is_empty.result c.all_digits.ensures c.if-is_empty-word.false)
