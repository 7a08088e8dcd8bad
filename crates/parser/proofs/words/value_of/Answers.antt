use Rattle.std.proofs.Common.{ℕ, ◌+◌, ◌*◌, ap, ◌∙◌, arith, drop}
use Rattle.smtlib.specs.Numerals.{value_of}
use Rattle.parser.proofs.Values.{one_digit, no_digit, not_larger}
use Rattle.parser.proofs.words.value_of.Goals as goal

pub loop-digit-preserved : goal.loop-digit-preserved
loop-digit-preserved c =
    ap (λ (d : ℕ). value_of c.args.base (c.loop-digit.v * c.args.base + d) (drop (c.loop-digit.digit-index + 1) c.args.digits.now)) (c.from.ensures ∙ c.saturating_sub.ensures)
    ∙ one_digit c.args.base c.args.digits.now 0 c.loop-digit.v c.loop-digit.digit-index c.loop-digit.invariant c.loop-digit-test.true

pub returns : goal.returns
returns c = no_digit c.args.base c.args.digits.now 0 c.loop-digit.v c.loop-digit.digit-index c.loop-digit.invariant c.loop-digit-test.false

pub overflow_mul-v : goal.overflow_mul-v
overflow_mul-v c =
    let whole = not_larger c.args.base c.args.digits.now 0 c.loop-digit.v c.loop-digit.digit-index c.loop-digit.invariant c.loop-digit-test.true c.requires.0 in
    omega (arith, whole, c.requires.1)

pub overflow_add-v : goal.overflow_add-v
overflow_add-v c =
    let whole = not_larger c.args.base c.args.digits.now 0 c.loop-digit.v c.loop-digit.digit-index c.loop-digit.invariant c.loop-digit-test.true c.requires.0 in
    omega (arith, whole, c.requires.1, c.from.ensures, c.saturating_sub.ensures)
