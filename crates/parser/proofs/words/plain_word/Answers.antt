use Rattle.std.proofs.Common.{sym, ◌∙◌}
use Rattle.smtlib.specs.Numerals.{value_of}
use Rattle.parser.specs.Words.{width, plain_of}
use Rattle.parser.proofs.Choices.{chosen_none}
use Rattle.parser.proofs.WordKinds.{bits_said, literal_is, width_is}
use Rattle.parser.proofs.words.plain_word.Goals as goal

pub value_of-requires : goal.value_of-requires
value_of-requires c = bits_said c.args.word.now c.in-Some.digits.now c.in-Some.ensures.0 c.in-Some.ensures.1

pub returns-in-Some : goal.returns-in-Some
returns-in-Some c = literal_is c.args.word.now c.in-Some.digits.now c.in-Some.ensures.0 c.in-Some.ensures.1 c.value_of.ensures

pub returns-in-Some-decimal_width : goal.returns-in-Some-decimal_width
returns-in-Some-decimal_width c = width_is c.args.word.now c.in_default.ensures c.in-Some-decimal_width.ensures

pub returns-then-is_name : goal.returns-then-is_name
unfolding plain_of
returns-then-is_name c =
    rw (c.sort_named.ensures, c.in_default.ensures, chosen_none (width c.args.word.now) (value_of 10 0 c.args.word.now) c.in_default-decimal_width.ensures, sym c.is_name.ensures ∙ c.if-is_name.true)

pub returns : goal.returns
unfolding plain_of
returns c = rw (c.in_default.ensures, chosen_none (width c.args.word.now) (value_of 10 0 c.args.word.now) c.in_default-decimal_width.ensures, sym c.is_name.ensures ∙ c.if-is_name.false)
