use mathlib.Core.Path.{◌≡◌}
use mathlib.Core.Bool.{false}
use Prim.Native.Nat.{◌+◌}
use lib.ListN.{drop}
use Rattle.assignments.specs.Tokens.{skipped_from}
use Rattle.assignments.proofs.tokens.skipped_length.Given as goal

abbrev pub invariant-loop-i : goal.invariant-loop-i
invariant-loop-i l = l.i + skipped_from l.comment (drop l.i l.text) ≡ skipped_from false l.text
