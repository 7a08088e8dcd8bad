use Rattle.std.proofs.Common.{◌≡◌, drop}
use Rattle.smtlib.specs.Numerals.{value_of}
use Rattle.parser.proofs.words.value_of.Given as goal

abbrev pub invariant-loop-digit : goal.invariant-loop-digit
invariant-loop-digit l = value_of l.base l.v (drop l.digit-index l.digits) ≡ value_of l.base 0 l.digits
