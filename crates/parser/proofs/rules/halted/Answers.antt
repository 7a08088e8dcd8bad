use Rattle.std.proofs.Common.{◌∙◌}
use Rattle.parser.proofs.Faults.{is_faulted}
use Rattle.parser.proofs.rules.halted.Goals as goal

pub returns : goal.returns
returns c = rw (c.is_some.ensures ∙ is_faulted c.args.p.state.fault)
