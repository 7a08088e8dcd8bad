use Rattle.std.proofs.Common.{length, ap, ◌∙◌}
use Rattle.std.proofs.lemmas.Result.{err_from_is_err_and}
use Rattle.cases.specs.Parsing.{taken}
use Rattle.cases.proofs.Scans.{parsed_more, parsed_fault, parsed_all}
use Rattle.cases.proofs.parser.parse.Goals as goal

pub returns-in_err-p : goal.returns-in_err-p
returns-in_err-p c =
    let p = err_from_is_err_and c.from_residual.result c.from_residual.ensures.1 in
    rw (p.1, p.2) (parsed_fault _ _ _ _ _ _ c.loop-i.invariant c.loop-i-test.true _ c.token_at.ensures _ c.in_err-p.ensures)

pub loop-i-preserved : goal.loop-i-preserved
loop-i-preserved c = parsed_more _ _ _ _ _ _ c.loop-i.invariant c.loop-i-test.true _ c.token_at.ensures _ c.in_ok-p.ensures _ c.lexed-l.ensures

pub returns : goal.returns
returns c =
    c.taken-2.ensures
    ∙ ap (taken c.args.room (length c.args.text.now) c.loop-i.p) c.token_at_end.ensures
    ∙ parsed_all c.args.whole c.args.room c.args.text.now c.loop-i.l c.loop-i.p c.loop-i.i c.loop-i.invariant c.loop-i-test.false
