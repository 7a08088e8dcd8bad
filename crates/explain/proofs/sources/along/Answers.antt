use Rattle.std.proofs.Common.{sym, ap, ◌∙◌, ℕ, slice_get, ◌-◌}
use Rattle.explain.specs.Sources.{along}
use Rattle.explain.proofs.Alongs.{onward, stopped, first_along}
use Rattle.explain.proofs.sources.along.Goals as goal
use Rattle.explain.proofs.sources.along.Goals.{then-loop-left-test+else-goes, else-loop-left-test}

pub loop-left-preserved : goal.loop-left-preserved
loop-left-preserved c =
    ap (λ (n : ℕ). slice_get (along c.args.table.now c.args.values.now n c.args.j) (c.loop-left.left - 1)) c.next-at.ensures
    ∙ onward c.args.table.now c.args.values.now c.args.j c.loop-left.at c.loop-left.left c.loop-left-test.true (sym c.goes.ensures ∙ c.if-goes.true)
    ∙ c.loop-left.invariant

pub returns : goal.returns
returns c =
    c.here.ensures
    ∙ elim c.loop-left-test.branch [
      | then-loop-left-test+else-goes w ↦ stopped c.args.table.now c.args.values.now c.args.j c.loop-left.at c.loop-left.left (sym w.goes.ensures ∙ w.if-goes.false)
      | else-loop-left-test w ↦ first_along c.args.table.now c.args.values.now c.args.j c.loop-left.at c.loop-left.left w.loop-left-test.false
    ]
    ∙ c.loop-left.invariant
