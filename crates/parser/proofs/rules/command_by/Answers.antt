use Rattle.std.proofs.Common.{refl}
use borrow.Author.Tests.{eq-eqb, ne_eqb}
use Rattle.parser.specs.Rules.{command_by}
use Rattle.parser.proofs.Codes.{no_keyword}
use Rattle.parser.proofs.rules.command_by.Goals as goal

pub returns-then-p-eq0 : goal.returns-then-p-eq0
unfolding command_by
returns-then-p-eq0 c = rw (c.declaration.ensures.0, c.declaration.ensures.1, c.moved.ensures, c.in-Keyword.is, c.in-DeclareConst.is, eq-eqb _ _ c.if-p-eq0.true) (refl, refl)

pub returns-else-p-eq0 : goal.returns-else-p-eq0
unfolding command_by
returns-else-p-eq0 c = rw (c.unexpected-else-p-eq0.ensures, c.in-Keyword.is, c.in-DeclareConst.is, ne_eqb _ _ c.if-p-eq0.false) (refl, refl)

pub returns-in-Assert : goal.returns-in-Assert
unfolding command_by
returns-in-Assert c = rw (c.assertion.ensures.0, c.assertion.ensures.1, c.moved-in-Assert.ensures, c.in-Keyword.is, c.in-Assert.is) (refl, refl)

pub returns-in-CheckSat : goal.returns-in-CheckSat
unfolding command_by
returns-in-CheckSat c = rw (c.check.ensures.0, c.check.ensures.1, c.in-Keyword.is, c.in-CheckSat.is) (refl, refl)

pub returns-in-Underscore : goal.returns-in-Underscore
unfolding command_by
returns-in-Underscore c = rw (c.unexpected-in-Underscore.ensures, c.in-Keyword.is, c.in-Underscore.is) (refl, refl)

pub returns-in_default : goal.returns-in_default
unfolding command_by
returns-in_default c =
    let none = no_keyword c.args.t.word c.in_default.not-Keyword in
    rw (c.unexpected.ensures, none.declare_const, none.assert, none.check_sat) (refl, refl)
