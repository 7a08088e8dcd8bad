use mathlib.Core.Path.{refl}
use Rattle.parser.specs.Rules.{assert_of}
use Rattle.parser.proofs.rules.assertion.Goals as goal

pub returns : goal.returns
unfolding assert_of
returns c = rw (c.joined.ensures.0, c.joined.ensures.1, c.expected.ensures, c.expression-v.ensures.0, c.expression-v.ensures.1, c.is_name-bare.ensures, c.words_at.ensures) (refl, refl)
