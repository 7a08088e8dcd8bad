use Rattle.smtlib.specs.Writing.{wrote}
use Rattle.smtlib.proofs.bytes.digit.Goals as goal

pub returns : goal.returns
unfolding wrote
returns c = record { is = c.put.ensures }
