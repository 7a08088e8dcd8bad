use Rattle.smtlib.proofs.Pages.{none_written, one_written}
use Rattle.smtlib.proofs.bytes.word.Goals as goal

pub loop-b-init : goal.loop-b-init
loop-b-init c = none_written _ _

pub loop-b-preserved : goal.loop-b-preserved
loop-b-preserved c = one_written _ _ _ _ _ c.loop-b-test.true c.loop-b.invariant c.put-to.ensures
