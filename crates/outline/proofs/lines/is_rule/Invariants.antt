use mathlib.Core.Path.{◌≡◌}
use lib.ListN.{drop}
use Rattle.outline.specs.declared.lines.Stand.TheVariants.{Begin}
use Rattle.outline.specs.Lines.{rule_from}
use Rattle.outline.proofs.lines.is_rule.Given as goal

abbrev pub invariant-loop-b : goal.invariant-loop-b
invariant-loop-b l = rule_from l.stand (drop l.b-index l.text) ≡ rule_from Begin l.text
