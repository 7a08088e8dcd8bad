use Prim.Native.Nat.{◌-◌}
use mathlib.Core.Path.{◌≡◌}
use lib.ListN.{length}
use Rattle.evaluate.specs.Code.Turns.{is_read_at, numbered}
use Rattle.evaluate.proofs.Onward.{Going}
use Rattle.evaluate.proofs.turns.advance.Given as goal

abbrev pub invariant-loop-i : goal.invariant-loop-i
invariant-loop-i l = Going (is_read_at l.table) (numbered l.table l.values 0) l.terms l.at l.initial.work l.i l.work × (length l.work ≡ length l.initial.work)

abbrev pub decreases-loop-i : goal.decreases-loop-i
decreases-loop-i l = l.terms - l.i
