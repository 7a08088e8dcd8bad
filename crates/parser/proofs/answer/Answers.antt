use Rattle.std.proofs.Common.{◌≡◌, ◌∙◌, Err, sym, arith, rules}
use lib.Seq.{length-take-le}
use borrow.Author.Tests.{ne_eqb, lt-ltb, le-ltb}
use Rattle.parser.proofs.Faults.{some_number}
use Rattle.parser.proofs.answer.Goals as goal

pub returns-in-Some : goal.returns-in-Some
returns-in-Some c = rw (c.not_parsed.ensures, c.number.ensures, c.in-Some.is, ne_eqb _ _ (some_number c.in-Some.fault))

pub returns-then-s-gt512 : goal.returns-then-s-gt512
returns-then-s-gt512 c = rw (c.not_parsed-then-s-gt512.ensures, c.in_default.is, lt-ltb _ _ c.if-s-gt512.true)

pub slice_bounds-admit-end : goal.slice_bounds-admit-end
slice_bounds-admit-end c = sym (length-take-le _ _ (omega (arith, c.requires, c.if-s-gt512.false)))

pub returns-in_err-admit : goal.returns-in_err-admit
returns-in_err-admit c =
    let e : c.from_residual.result ≡ Err c.in_err-admit.field-0.0 = search rules in
    let admitted = sym c.in_err-admit.was ∙ c.admit.ensures in
    rw (e, c.in_default.is, le-ltb _ _ c.if-s-gt512.false, sym admitted)

pub returns : goal.returns
returns c =
    let admitted = sym c.in_ok-admit.was ∙ c.admit.ensures in
    rw (c.sized.ensures, c.in_default.is, le-ltb _ _ c.if-s-gt512.false, sym admitted)
