use mathlib.Core.Path.{sym}
use Rattle.outline.proofs.Ways.{rule_none, rule_found, rule_on}
use Rattle.outline.proofs.lines.is_rule.Goals as goal
use Rattle.outline.proofs.lines.is_rule.Goals.{else-not-white-via-then-not-white+else-not-noted, else-not-white-via-else-not-white}

pub returns-then-not-noted : goal.returns-then-not-noted
returns-then-not-noted c = rule_found c.args.text.now c.loop-b.stand c.loop-b.b-index c.loop-b.invariant c.loop-b-test.true (rw (sym c.white.ensures, sym c.noted.ensures, c.if-not-white.true, c.if-not-noted.true))

pub loop-b-preserved : goal.loop-b-preserved
loop-b-preserved c =
    rw c.after-stand.ensures (rule_on c.args.text.now c.loop-b.stand c.loop-b.b-index c.loop-b.invariant c.loop-b-test.true (elim c.else-not-white.branch [
      | else-not-white-via-then-not-white+else-not-noted w ↦ rw (sym c.white.ensures, sym w.noted.ensures, w.if-not-white.true, w.if-not-noted.false)
      | else-not-white-via-else-not-white w ↦ rw (sym c.white.ensures, w.if-not-white.false)
    ]))

pub returns : goal.returns
returns c = rule_none c.args.text.now c.loop-b.stand c.loop-b.b-index c.loop-b.invariant c.loop-b-test.false
