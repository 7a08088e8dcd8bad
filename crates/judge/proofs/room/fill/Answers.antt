use Prim.Native.Nat.{ℕ, ◌+◌, ◌*◌, ◌≤◌}
use mathlib.Core.Path.{sym, ap, subst, ◌∙◌}
use mathlib.Core.List.{◌++◌}
use native.Mathlib.Omega.{arith}
use lib.ListN.{length, drop}
use Rattle.evaluate.specs.Values.{numbers}
use Rattle.table.specs.Terms.{terms}
use Rattle.setting.specs.Interpretation.{in_cells}
use Rattle.judge.specs.Conditions.{truths}
use Rattle.sheets.specs.Code.Said.{marks_by}
use Rattle.judge.proofs.Rooms.{laid_all}
use Rattle.judge.proofs.Fills as fills
use Rattle.judge.proofs.Fills.{count-here, at_going, room_left, ended, started, turned}
use Rattle.judge.proofs.room.fill.Goals as goal

pub count-terms-requires : goal.count-terms-requires
count-terms-requires g c = omega (arith, c.requires.well_formed.few)

pub first_turn-turn-requires : goal.first_turn-turn-requires
first_turn-turn-requires g c = c.requires.well_formed

pub loop-turn-init : goal.loop-turn-init
loop-turn-init g c = started c.args.table.now (marks_by c.args.said.now) c.args.values.now (g.C.Cells.at c.args.cells.now) c.count-count.result c.count-terms.result c.args.work.now c.first_turn-turn.result c.first_turn-turn.ensures

pub look-answer-requires : goal.look-answer-requires
look-answer-requires g c = omega (arith, c.count-count.ensures, count-here c.args.table.now (marks_by c.args.said.now) c.args.values.now (g.C.Cells.at c.args.cells.now) c.count-count.result c.count-terms.result c.args.work.now c.loop-turn.work c.loop-turn.turn c.loop-turn.invariant)

pub step-turn-requires : goal.step-turn-requires
step-turn-requires g c =
    let enough : c.count-terms.result + c.count-terms.result ≤ length c.args.work.now = omega (arith, c.count-terms.ensures, c.requires.table_in_bounds) in
    let on = c.loop-turn-test.true in
    let long = fills.same_length c.args.table.now (marks_by c.args.said.now) c.args.values.now (g.C.Cells.at c.args.cells.now) c.count-count.result c.count-terms.result c.args.work.now 80000 c.requires.well_formed c.count-terms.ensures enough c.loop-turn.work c.loop-turn.turn c.loop-turn.invariant in
    record { well_formed = c.requires.well_formed; terms_value = c.count-terms.ensures; at_lt_terms = (at_going c.args.table.now (marks_by c.args.said.now) c.args.values.now (g.C.Cells.at c.args.cells.now) c.count-count.result c.count-terms.result c.args.work.now c.loop-turn.work c.loop-turn.turn c.loop-turn.invariant on, subst (λ (k : ℕ). c.count-terms.result + c.count-terms.result ≤ k) (sym long) enough); met_bound = room_left c.args.table.now (marks_by c.args.said.now) c.args.values.now (g.C.Cells.at c.args.cells.now) c.count-count.result c.count-terms.result c.args.work.now 80000 c.requires.well_formed c.count-terms.ensures enough c.loop-turn.work c.loop-turn.turn c.loop-turn.invariant on }

pub loop-turn-smaller : goal.loop-turn-smaller
loop-turn-smaller g c =
    let enough : c.count-terms.result + c.count-terms.result ≤ length c.args.work.now = omega (arith, c.count-terms.ensures, c.requires.table_in_bounds) in
    (turned c.args.table.now (marks_by c.args.said.now) c.args.values.now (g.C.Cells.at c.args.cells.now) c.count-count.result c.count-terms.result c.args.work.now 80000 c.requires.well_formed c.count-terms.ensures enough c.loop-turn.work c.loop-turn.turn c.loop-turn.invariant c.loop-turn-test.true c.look-answer.result c.look-answer.ensures _ _ c.step-turn.ensures.work_after c.step-turn.ensures.value).1

pub loop-turn-preserved : goal.loop-turn-preserved
loop-turn-preserved g c =
    let enough : c.count-terms.result + c.count-terms.result ≤ length c.args.work.now = omega (arith, c.count-terms.ensures, c.requires.table_in_bounds) in
    (turned c.args.table.now (marks_by c.args.said.now) c.args.values.now (g.C.Cells.at c.args.cells.now) c.count-count.result c.count-terms.result c.args.work.now 80000 c.requires.well_formed c.count-terms.ensures enough c.loop-turn.work c.loop-turn.turn c.loop-turn.invariant c.loop-turn-test.true c.look-answer.result c.look-answer.ensures _ _ c.step-turn.ensures.work_after c.step-turn.ensures.value).0

pub shape_of-work : goal.shape_of-work
shape_of-work g c = fills.same_length c.args.table.now (marks_by c.args.said.now) c.args.values.now (g.C.Cells.at c.args.cells.now) c.count-count.result c.count-terms.result c.args.work.now 80000 c.requires.well_formed c.count-terms.ensures (omega (arith, c.count-terms.ensures, c.requires.table_in_bounds)) c.loop-turn.work c.loop-turn.turn c.loop-turn.invariant

pub returns : goal.returns
returns g c =
    let I = in_cells c.args.values.now (g.C.Cells.at c.args.cells.now) c.count-count.result in
    ended c.args.table.now (marks_by c.args.said.now) c.args.values.now (g.C.Cells.at c.args.cells.now) c.count-count.result c.count-terms.result c.args.work.now c.loop-turn.work c.loop-turn.turn c.loop-turn.invariant c.loop-turn-test.false
    ∙ laid_all (numbers c.args.table.now I c.count-terms.result) (truths c.args.table.now (marks_by c.args.said.now) I c.count-terms.result) c.count-terms.result c.args.work.now (omega (arith, c.count-terms.ensures, c.requires.table_in_bounds))
    ∙ ap (λ (k : ℕ). numbers c.args.table.now I k ++ truths c.args.table.now (marks_by c.args.said.now) I k ++ drop (k * 2) c.args.work.now) c.count-terms.ensures
    ∙ ap (λ (n : ℕ). numbers c.args.table.now (in_cells c.args.values.now (g.C.Cells.at c.args.cells.now) n) (terms c.args.table.now) ++ truths c.args.table.now (marks_by c.args.said.now) (in_cells c.args.values.now (g.C.Cells.at c.args.cells.now) n) (terms c.args.table.now) ++ drop (terms c.args.table.now * 2) c.args.work.now) c.count-count.ensures
