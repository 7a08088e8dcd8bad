use Prim.Native.Nat.{◌-◌}
use mathlib.Core.Path.{◌≡◌}
use lib.ListN.{length}
use Rattle.evaluate.specs.Code.Turns.{is_read_at}
use Rattle.evaluate.proofs.Onward.{Going}
use Rattle.sheets.specs.Code.Said.{marks_by}
use Rattle.judge.specs.Code.Labelled.{plain_noted}
use Rattle.judge.proofs.terms.advance.Given as goal

abbrev pub invariant-loop-i : goal.invariant-loop-i
invariant-loop-i l = Going (is_read_at l.table) (plain_noted l.table (marks_by l.said) l.values l.terms) l.terms l.at l.initial.work l.i l.work × (length l.work ≡ length l.initial.work)

abbrev pub decreases-loop-i : goal.decreases-loop-i
decreases-loop-i l = l.terms - l.i
