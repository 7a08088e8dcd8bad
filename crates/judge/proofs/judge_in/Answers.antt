use Rattle.std.proofs.Common.{◌≡◌, ◌∙◌, ℕ, ◌+◌, ◌-◌, ◌*◌, Bool, List, ◌++◌, length, get_or, drop, Ok, Err, ap, ap₂, sym, arith, rules}
use Rattle.ops.specs.Meaning.{holds}
use Rattle.table.specs.Answers.{Acceptance}
use Rattle.table.specs.Terms.{terms}
use Rattle.table.specs.Admission.{accepts}
use Rattle.table.proofs.Admitted.{admission-sound, wider}
use Rattle.sheets.specs.Marks.{marks_under}
use Rattle.sheets.specs.Code.Said.{marks_by}
use Rattle.setting.specs.declared.cells.Cell.{Cell}
use Rattle.setting.specs.Check.{check_by}
use Rattle.setting.specs.Interpretation.{in_cells}
use Rattle.evaluate.specs.declared.Spent.{Spent}
use Rattle.evaluate.specs.Evaluation.{Evaluation, evaluates, ready_by}
use Rattle.evaluate.specs.Values.{numbers}
use Rattle.judge.specs.Judgement.{Judgement, admission_under, judgement_in, rule_in, rule_condition, verdict_by, room_in}
use Rattle.judge.proofs.SheetMarks.{Unrefused, passed_under, admitted_under, row-marks, truths_alike}
use Rattle.judge.proofs.Verdicts.{rule_read, condition_read}
use Rattle.judge.proofs.judge_in.Goals as goal

module _ (cut : Bool) (w sheet values : List ℕ) (cells : ℕ → Cell) (count allowance room : ℕ) {a : Acceptance} {e : Evaluation} (under : a ≡ admission_under w sheet) (is : e ≡ ready_by w a (check_by cut w values cells count) 2 allowance room) where
  asked : e ≡ ready_by w (admission_under w sheet) (check_by cut w values cells count) 2 allowance room
  asked = is ∙ ap (λ (x : Acceptance). ready_by w x (check_by cut w values cells count) 2 allowance room) under

  -- what was afforded
  unrefused : (s : Spent) → e ≡ Ok s → Unrefused w sheet (check_by cut w values cells count) 2 allowance room
  unrefused s on = passed_under w sheet (check_by cut w values cells count) 2 allowance room (ap evaluates (sym asked ∙ on))

  -- the judgement, from what was afforded
  judged : verdict_by e (rule_in w (in_cells values cells count)) (rule_condition w (marks_under sheet) (in_cells values cells count)) ≡ judgement_in cut w sheet values cells count allowance room
  judged = ap (λ (x : Evaluation). verdict_by x (rule_in w (in_cells values cells count)) (rule_condition w (marks_under sheet) (in_cells values cells count))) asked

pub ready-requires : goal.ready-requires
ready-requires g c = record {
  well_formed = λ h. wider 512 80000 c.args.table.now (omega arith) (admission-sound 512 c.args.table.now (admitted_under c.args.table.now c.args.sheet.now (sym (ap accepts c.admit_under-admitted.ensures) ∙ h)).0);
  each_bound = omega arith;
}

-- a refusal
pub returns-in_err-spent : goal.returns-in_err-spent
returns-in_err-spent g c =
    let w = c.args.table.now in
    let sheet = c.args.sheet.now in
    let values = c.args.values.now in
    let cut = g.C.Cells.cut c.args.cells.now in
    let cells = g.C.Cells.at c.args.cells.now in
    let count = g.C.Cells.count c.args.cells.now in
    let e : c.from_residual.result ≡ Err c.in_err-spent.field-0.0 = search rules in
    let is : c.from_residual.result ≡ judgement_in cut w sheet values cells count c.args.allowance (length c.args.work.now) =
    e ∙ ap (λ (x : Evaluation). verdict_by x (rule_in w (in_cells values cells count)) (rule_condition w (marks_under sheet) (in_cells values cells count))) (sym c.in_err-spent.was)
    ∙ judged cut w sheet values cells count c.args.allowance (length c.args.work.now) c.admit_under-admitted.ensures c.ready.ensures in
    record {
      value = is;
      work_after = ap (λ (j : Judgement). room_in j w (marks_under sheet) (in_cells values cells count) c.args.work.now) (sym e);
    }

pub fill-requires : goal.fill-requires
fill-requires g c =
    let ok = unrefused (g.C.Cells.cut c.args.cells.now) c.args.table.now c.args.sheet.now c.args.values.now (g.C.Cells.at c.args.cells.now) (g.C.Cells.count c.args.cells.now) c.args.allowance (length c.args.work.now) c.admit_under-admitted.ensures c.ready.ensures _ c.in_ok-spent.was in
    record { well_formed = wider 512 80000 c.args.table.now (omega arith) (admission-sound 512 c.args.table.now ok.admitted); table_in_bounds = ok.long }

pub overflow_sub-last : goal.overflow_sub-last
overflow_sub-last g c =
    let ok = unrefused (g.C.Cells.cut c.args.cells.now) c.args.table.now c.args.sheet.now c.args.values.now (g.C.Cells.at c.args.cells.now) (g.C.Cells.count c.args.cells.now) c.args.allowance (length c.args.work.now) c.admit_under-admitted.ensures c.ready.ensures _ c.in_ok-spent.was in
    omega (arith, (admission-sound 512 c.args.table.now ok.admitted).some)

pub bounds-work-last : goal.bounds-work-last
bounds-work-last g c =
    let ok = unrefused (g.C.Cells.cut c.args.cells.now) c.args.table.now c.args.sheet.now c.args.values.now (g.C.Cells.at c.args.cells.now) (g.C.Cells.count c.args.cells.now) c.args.allowance (length c.args.work.now) c.admit_under-admitted.ensures c.ready.ensures _ c.in_ok-spent.was in
    omega (arith, (admission-sound 512 c.args.table.now ok.admitted).some, ok.long, c.fill.auto.work)

pub bounds-work-terms : goal.bounds-work-terms
bounds-work-terms g c =
    let ok = unrefused (g.C.Cells.cut c.args.cells.now) c.args.table.now c.args.sheet.now c.args.values.now (g.C.Cells.at c.args.cells.now) (g.C.Cells.count c.args.cells.now) c.args.allowance (length c.args.work.now) c.admit_under-admitted.ensures c.ready.ensures _ c.in_ok-spent.was in
    omega (arith, (admission-sound 512 c.args.table.now ok.admitted).some, ok.long, c.fill.auto.work)

pub returns : goal.returns
returns g c =
    let w = c.args.table.now in
    let sheet = c.args.sheet.now in
    let values = c.args.values.now in
    let cut = g.C.Cells.cut c.args.cells.now in
    let cells = g.C.Cells.at c.args.cells.now in
    let count = g.C.Cells.count c.args.cells.now in
    let I = in_cells values cells count in
    let marked = marks_under sheet in
    let rest = drop (terms w * 2) c.args.work.now in
    let ok = unrefused cut w sheet values cells count c.args.allowance (length c.args.work.now) c.admit_under-admitted.ensures c.ready.ensures _ c.in_ok-spent.was in
    let formed = admission-sound 512 w ok.admitted in
    let filled =
    c.fill.ensures
    ∙ ap (λ (ts : List ℕ). numbers w I (terms w) ++ ts ++ rest) (truths_alike w (marks_by c.said-said.result) marked I (row-marks 512 w sheet c.said-said.result formed c.said-said.ensures)) in
    let rule = ap (λ (l : List ℕ). holds (get_or l (terms w - 1) 0)) filled ∙ rule_read w marked I rest formed.some in
    let condition = ap (λ (l : List ℕ). holds (get_or l (terms w + (terms w - 1)) 0)) filled ∙ condition_read w marked I rest formed.some in
    let answer = c.answered.ensures in
    let is : c.answered.result ≡ judgement_in cut w sheet values cells count c.args.allowance (length c.args.work.now) =
    answer ∙ ap₂ (λ (x y : Bool). verdict_by (Ok c.in_ok-spent.spent) x y) rule condition
    ∙ ap (λ (x : Evaluation). verdict_by x (rule_in w I) (rule_condition w marked I)) (sym c.in_ok-spent.was)
    ∙ judged cut w sheet values cells count c.args.allowance (length c.args.work.now) c.admit_under-admitted.ensures c.ready.ensures in
    record {
      value = is;
      work_after = filled ∙ ap (λ (j : Judgement). room_in j w (marks_under sheet) (in_cells values cells count) c.args.work.now) (sym answer);
    }
