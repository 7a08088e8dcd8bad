use Rattle.std.proofs.Common.{refl, sym, ap, subst, ◌∙◌, ◌<◌, ℕ, Some}
use Rattle.explain.specs.Settlers.{stop_at, settled_here}
use Rattle.explain.proofs.Stops.{freely-below, stop_here, stop_on}
use Rattle.explain.proofs.Judged.read_settler.Goals as goal

pub loop-at-init : goal.loop-at-init
loop-at-init c = refl

pub loop-at-preserved : goal.loop-at-preserved
loop-at-preserved c =
    let m = c.args.self in
    let j = c.number_at-j.result in
    ap (stop_at m.table.now m.values.now m.truths.now j) c.next-at.ensures
    ∙ stop_on m.table.now m.values.now m.truths.now j c.loop-at.at (sym c.freely.ensures ∙ c.loop-at-test.true)
    ∙ c.loop-at.invariant

pub returns : goal.returns
returns c =
    let m = c.args.self in
    ap (λ s. Some s)
    (c.settled_here.ensures
    ∙ ap (settled_here m.table.now m.truths.now)
    (stop_here m.table.now m.values.now m.truths.now c.number_at-j.result c.loop-at.at (sym c.freely.ensures ∙ c.loop-at-test.false)
    ∙ c.loop-at.invariant
    ∙ ap (λ (i : ℕ). stop_at m.table.now m.values.now m.truths.now i c.args.x.p) c.number_at-j.ensures))
