use Rattle.std.proofs.Common.{◌≡◌, ◌∙◌, Err, ap, sym, arith, length, rules}
use Rattle.table.specs.Answers.{Acceptance}
use Rattle.table.proofs.Admitted.{admission-sound}
use Rattle.setting.specs.Check.{check_by}
use Rattle.setting.specs.Interpretation.{in_cells}
use Rattle.evaluate.specs.Evaluation.{Evaluation, evaluates, ready_by, room_in}
use Rattle.evaluate.proofs.Answers.{is-admitted, passed_by}
use Rattle.evaluate.proofs.evaluate_in.Goals as goal

pub ready-requires : goal.ready-requires
ready-requires g c = record { well_formed = λ h. admission-sound 80000 c.args.table.now (sym c.admit_within-admitted.ensures ∙ is-admitted _ h); each_bound = omega arith }

pub returns-in_err-spent : goal.returns-in_err-spent
returns-in_err-spent g c =
    let m = g.C.Cells in
    let e : c.from_residual.result ≡ Err c.in_err-spent.field-0.0 = search rules in
    let checked = check_by (m.cut c.args.cells.now) c.args.table.now c.args.values.now (m.at c.args.cells.now) (m.count c.args.cells.now) in
    let by_admission = ap (λ (a : Acceptance). ready_by c.args.table.now a checked 1 c.args.allowance (length c.args.work.now)) c.admit_within-admitted.ensures in
    record {
      value = e ∙ sym c.in_err-spent.was ∙ c.ready.ensures ∙ by_admission;
      work_after = ap (λ (x : Evaluation). room_in x c.args.table.now (in_cells c.args.values.now (m.at c.args.cells.now) (m.count c.args.cells.now)) c.args.work.now) (sym e);
    }

pub fill-requires : goal.fill-requires
fill-requires g c =
    let m = g.C.Cells in
    let checked = check_by (m.cut c.args.cells.now) c.args.table.now c.args.values.now (m.at c.args.cells.now) (m.count c.args.cells.now) in
    let ok = passed_by c.args.table.now c.admit_within-admitted.result checked 1 c.args.allowance (length c.args.work.now) (ap evaluates (sym c.ready.ensures ∙ c.in_ok-spent.was)) in
    record { well_formed = admission-sound 80000 c.args.table.now (sym c.admit_within-admitted.ensures ∙ ok.admitted); table_in_bounds = omega (arith, ok.long) }

pub returns : goal.returns
returns g c =
    let m = g.C.Cells in
    let checked = check_by (m.cut c.args.cells.now) c.args.table.now c.args.values.now (m.at c.args.cells.now) (m.count c.args.cells.now) in
    let by_admission = ap (λ (a : Acceptance). ready_by c.args.table.now a checked 1 c.args.allowance (length c.args.work.now)) c.admit_within-admitted.ensures in
    record { value = sym c.in_ok-spent.was ∙ c.ready.ensures ∙ by_admission; work_after = c.fill.ensures }
