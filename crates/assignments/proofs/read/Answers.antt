use mathlib.Core.Path.{◌≡◌}
use Rattle.std.proofs.Common.{rules}
use Rattle.std.specs.Prelude.{Err}
use Rattle.assignments.specs.Reading.{values_in}
use Rattle.assignments.proofs.read.Goals as goal

pub returns-in_err-setting-clause-values_after : goal.returns-in_err-setting-clause-values_after
unfolding values_in
returns-in_err-setting-clause-values_after c = let e : c.from_residual.result ≡ Err c.in_err-setting.field-0.0 = search rules in rw e
