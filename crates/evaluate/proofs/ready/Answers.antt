use Rattle.std.proofs.Common.{◌≡◌, ◌∙◌, Err, ap, ap₂, sym, rules}
use Rattle.table.specs.Admission.{accepts}
use Rattle.table.specs.Answers.{Acceptance}
use Rattle.setting.specs.Check.{check_by}
use Rattle.evaluate.specs.Evaluation.{ready_by}
use Rattle.evaluate.proofs.ready.Goals as goal

pub returns-in_err-admitted : goal.returns-in_err-admitted
returns-in_err-admitted g c =
    let e : c.from_residual.result ≡ Err c.in_err-admitted.field-0.0 = search rules in
    let m = g.C.Cells in
    e ∙ ap (λ (a : Acceptance). ready_by c.args.table.now a (check_by (m.cut c.args.cells.now) c.args.table.now c.args.values.now (m.at c.args.cells.now) (m.count c.args.cells.now)) c.args.each c.args.allowance c.args.room) (sym c.in_err-admitted.was)

pub check-requires : goal.check-requires
check-requires g c = c.requires.well_formed (ap accepts c.in_ok-admitted.was)

pub returns-in_err-check : goal.returns-in_err-check
returns-in_err-check g c =
    let e : c.from_residual-in_err-check.result ≡ Err c.in_err-check.field-0.0 = search rules in
    e ∙ ap₂ (λ (a b : Acceptance). ready_by c.args.table.now a b c.args.each c.args.allowance c.args.room) (sym c.in_ok-admitted.was) (sym c.in_err-check.was ∙ c.check.ensures)

pub afford-requires : goal.afford-requires
afford-requires g c = record { well_formed = c.requires.well_formed (ap accepts c.in_ok-admitted.was); each_bound = c.requires.each_bound }

pub returns : goal.returns
returns g c =
    c.afford.ensures
    ∙ ap₂ (λ (a b : Acceptance). ready_by c.args.table.now a b c.args.each c.args.allowance c.args.room) (sym c.in_ok-admitted.was) (sym c.in_ok-check.was ∙ c.check.ensures)
