use Rattle.std.proofs.Common.{◌≡◌, ◌∙◌, Err, rules, sym}
use Rattle.table.specs.Terms.{terms, term_at}
use Rattle.table.specs.Answers.{accepted}
use Rattle.table.specs.Admission.{scan}
use Rattle.table.proofs.Scans.{scan-refuses, scan-passes}
use Rattle.setting.specs.Check.{variable_fault, cell_fault}
use Rattle.setting.proofs.check.Goals as goal

pub returns-then-is_cut : goal.returns-then-is_cut
returns-then-is_cut g c = c.refused.ensures ∙ rw (sym c.is_cut.ensures ∙ c.if-is_cut.true)

pub returns-in_err-variables_checked : goal.returns-in_err-variables_checked
returns-in_err-variables_checked g c =
    let e : c.from_residual.result ≡ Err c.in_err-variables_checked.field-0.0 = search rules in
    e
    ∙ scan-refuses (λ k. variable_fault c.args.values.now (term_at c.args.table.now k)) (terms c.args.table.now)
    (scan (λ k. cell_fault c.args.table.now (g.C.Cells.at c.args.cells.now k)) (g.C.Cells.count c.args.cells.now) 0 accepted) c.variables_checked.result c.variables_checked.ensures
    c.in_err-variables_checked.was
    ∙ rw (sym c.is_cut.ensures ∙ c.if-is_cut.false)

pub returns : goal.returns
returns g c =
    c.cells_checked.ensures
    ∙ scan-passes (λ k. variable_fault c.args.values.now (term_at c.args.table.now k)) (terms c.args.table.now) _ _ c.variables_checked.ensures
    c.in_ok-variables_checked.was
    ∙ rw (sym c.is_cut.ensures ∙ c.if-is_cut.false)
