use Rattle.std.proofs.Common.{arith, ap, ◌∙◌, not, lt-ltb, le-ltb}
use Rattle.explain.proofs.Downward.{begun_as, down_begun, down_one, down_none}
use Rattle.explain.proofs.Judged.way.Goals as goal
use Rattle.explain.proofs.Judged.way.Goals.{then-terms-gt0, else-terms-gt0}

pub loop-k-init : goal.loop-k-init
loop-k-init c = down_begun c.args.self.table.now c.args.self.values.now c.args.self.truths.now c.args.terms _
    (c.mark.ensures
    ∙ begun_as c.args.self.truths.now c.args.terms c.saturating_sub-rule.result c.if-terms-gt0.mark c.saturating_sub-rule.ensures
    (elim c.if-terms-gt0.branch [
      | then-terms-gt0 w ↦ rw (lt-ltb 0 c.args.terms w.if-terms-gt0.true) (w.mark-is ∙ ap not w.free_at.ensures)
      | else-terms-gt0 w ↦ rw (le-ltb 0 c.args.terms w.if-terms-gt0.false) (w.mark-is ∙ le-ltb 0 c.args.terms w.if-terms-gt0.false)
    ]))

pub loop-k-preserved : goal.loop-k-preserved
loop-k-preserved c = down_one c.args.self.table.now c.args.self.values.now c.args.self.truths.now c.args.terms c.loop-k.marks _ c.loop-k.k c.loop-k.invariant c.loop-k-test.true c.look_at.ensures

pub returns : goal.returns
returns c = down_none c.args.self.table.now c.args.self.values.now c.args.self.truths.now c.args.terms c.loop-k.marks c.loop-k.k c.loop-k.invariant (omega (arith, c.loop-k-test.false))
