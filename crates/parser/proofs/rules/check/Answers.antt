use Rattle.parser.specs.declared.states.Fault.TheVariants as fault_kind
use Rattle.std.proofs.Common.{◌≡◌, refl, cond, eqb}
use borrow.Author.Tests.{eq-eqb, ne_eqb}
use Rattle.parser.specs.Expressions.{faulty_at}
use Rattle.parser.specs.Rules.{moved_to, check_of}
use Rattle.parser.proofs.rules.check.Goals as goal
use Rattle.parser.proofs.rules.check.Goals.{then-p-eq0, else-p-eq0}

pub returns : goal.returns
unfolding check_of
returns c =
    let p = c.args.p in
    let state : c.if-p-eq0.s ≡ cond (eqb p.asserts 0) (faulty_at p.state fault_kind.Unasserted c.args.t.from) (moved_to p.state c.args.t.next) =
    elim c.if-p-eq0.branch [
      | then-p-eq0 w ↦ rw (w.s-is, w.faulty-s.ensures, eq-eqb _ _ w.if-p-eq0.true)
      | else-p-eq0 w ↦ rw (w.s-is, w.moved-s.ensures, ne_eqb _ _ w.if-p-eq0.false)
    ] in
    rw (c.ended.ensures.0, c.ended.ensures.1, c.expected-2.ensures, c.expected.ensures, state) (refl, refl)
