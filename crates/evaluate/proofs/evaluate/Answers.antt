use Rattle.setting.specs.Check.{check}
use Rattle.evaluate.proofs.evaluate.Goals as goal

pub returns : goal.returns
unfolding check
returns c = c.evaluate_in.ensures
