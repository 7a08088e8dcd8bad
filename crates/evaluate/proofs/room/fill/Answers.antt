use Prim.Native.Nat.{ℕ, ◌≤◌}
use mathlib.Core.Path.{refl, sym, ap, subst, ◌∙◌}
use native.Mathlib.Omega.{arith}
use mathlib.Core.List.{◌++◌}
use lib.ListN.{length, drop}
use Rattle.table.specs.Terms.{terms}
use Rattle.setting.specs.Interpretation.{in_cells}
use Rattle.evaluate.specs.Values.{numbers}
use Rattle.evaluate.proofs.Runs.{count-here, going, ended}
use Rattle.evaluate.proofs.Fills as fills
use Rattle.evaluate.proofs.Fills.{filled, asking, asks, started, turned}
use Rattle.evaluate.proofs.room.fill.Goals as goal

pub count-terms-requires : goal.count-terms-requires
count-terms-requires g c = omega (arith, c.requires.well_formed.few)

pub turn_at-turn-requires : goal.turn_at-turn-requires
turn_at-turn-requires g c = c.requires.well_formed

pub loop-turn-init : goal.loop-turn-init
loop-turn-init g c = started c.args.table.now c.args.values.now (g.C.Cells.at c.args.cells.now) c.count-count.result c.count-terms.result c.args.work.now c.turn_at-turn.result c.turn_at-turn.ensures

pub look-answer-requires : goal.look-answer-requires
look-answer-requires g c = omega (arith, c.count-count.ensures, count-here c.count-terms.result (filled c.args.table.now c.args.values.now (g.C.Cells.at c.args.cells.now) c.count-count.result c.count-terms.result c.args.work.now) (asking c.args.table.now c.args.values.now (g.C.Cells.at c.args.cells.now) c.count-count.result c.count-terms.result c.args.work.now) c.count-count.result (asks c.args.table.now c.args.values.now (g.C.Cells.at c.args.cells.now) c.count-count.result c.count-terms.result c.args.work.now) c.loop-turn.work c.loop-turn.turn c.loop-turn.invariant)

pub step-turn-requires : goal.step-turn-requires
step-turn-requires g c =
    let enough : c.count-terms.result ≤ length c.args.work.now = omega (arith, c.count-terms.ensures, c.requires.table_in_bounds) in
    let long = fills.same_length c.args.table.now c.args.values.now (g.C.Cells.at c.args.cells.now) c.count-count.result c.count-terms.result c.args.work.now 80000 c.requires.well_formed c.count-terms.ensures enough c.loop-turn.work c.loop-turn.turn c.loop-turn.invariant in
    record { well_formed = c.requires.well_formed; terms_value = c.count-terms.ensures; at_lt_terms = (going c.count-terms.result (filled c.args.table.now c.args.values.now (g.C.Cells.at c.args.cells.now) c.count-count.result c.count-terms.result c.args.work.now) (asking c.args.table.now c.args.values.now (g.C.Cells.at c.args.cells.now) c.count-count.result c.count-terms.result c.args.work.now) c.count-count.result (asks c.args.table.now c.args.values.now (g.C.Cells.at c.args.cells.now) c.count-count.result c.count-terms.result c.args.work.now) c.loop-turn.work c.loop-turn.turn c.loop-turn.invariant c.loop-turn-test.true, subst (λ (k : ℕ). c.count-terms.result ≤ k) (sym long) enough) }

pub loop-turn-smaller : goal.loop-turn-smaller
loop-turn-smaller g c =
    let enough : c.count-terms.result ≤ length c.args.work.now = omega (arith, c.count-terms.ensures, c.requires.table_in_bounds) in
    let next = turned c.args.table.now c.args.values.now (g.C.Cells.at c.args.cells.now) c.count-count.result c.count-terms.result c.args.work.now 80000 c.requires.well_formed c.count-terms.ensures enough c.loop-turn.work c.loop-turn.turn c.loop-turn.invariant
    c.loop-turn-test.true c.look-answer.result c.look-answer.ensures _ _ c.step-turn.ensures.work_after c.step-turn.ensures.value in
    omega (arith, next.1, going c.count-terms.result (filled c.args.table.now c.args.values.now (g.C.Cells.at c.args.cells.now) c.count-count.result c.count-terms.result c.args.work.now) (asking c.args.table.now c.args.values.now (g.C.Cells.at c.args.cells.now) c.count-count.result c.count-terms.result c.args.work.now) c.count-count.result (asks c.args.table.now c.args.values.now (g.C.Cells.at c.args.cells.now) c.count-count.result c.count-terms.result c.args.work.now) c.loop-turn.work c.loop-turn.turn c.loop-turn.invariant c.loop-turn-test.true)

pub loop-turn-preserved : goal.loop-turn-preserved
loop-turn-preserved g c =
    let enough : c.count-terms.result ≤ length c.args.work.now = omega (arith, c.count-terms.ensures, c.requires.table_in_bounds) in
    (turned c.args.table.now c.args.values.now (g.C.Cells.at c.args.cells.now) c.count-count.result c.count-terms.result c.args.work.now 80000 c.requires.well_formed c.count-terms.ensures enough c.loop-turn.work c.loop-turn.turn c.loop-turn.invariant
    c.loop-turn-test.true c.look-answer.result c.look-answer.ensures _ _ c.step-turn.ensures.work_after c.step-turn.ensures.value).0

pub shape_of-work : goal.shape_of-work
shape_of-work g c = fills.same_length c.args.table.now c.args.values.now (g.C.Cells.at c.args.cells.now) c.count-count.result c.count-terms.result c.args.work.now 80000 c.requires.well_formed c.count-terms.ensures (omega (arith, c.count-terms.ensures, c.requires.table_in_bounds)) c.loop-turn.work c.loop-turn.turn c.loop-turn.invariant

pub returns : goal.returns
returns g c =
    ended c.count-terms.result (filled c.args.table.now c.args.values.now (g.C.Cells.at c.args.cells.now) c.count-count.result c.count-terms.result c.args.work.now) (asking c.args.table.now c.args.values.now (g.C.Cells.at c.args.cells.now) c.count-count.result c.count-terms.result c.args.work.now) c.count-count.result (asks c.args.table.now c.args.values.now (g.C.Cells.at c.args.cells.now) c.count-count.result c.count-terms.result c.args.work.now) c.loop-turn.work c.loop-turn.turn c.loop-turn.invariant c.loop-turn-test.false
    ∙ ap (filled c.args.table.now c.args.values.now (g.C.Cells.at c.args.cells.now) c.count-count.result c.count-terms.result c.args.work.now) c.count-terms.ensures
    ∙ ap (λ (n : ℕ). numbers c.args.table.now (in_cells c.args.values.now (g.C.Cells.at c.args.cells.now) n) (terms c.args.table.now) ++ drop (terms c.args.table.now) c.args.work.now) c.count-count.ensures

pub slice_bounds-turn_at-end-2 : goal.slice_bounds-turn_at-end-2
slice_bounds-turn_at-end-2 g c = refl
