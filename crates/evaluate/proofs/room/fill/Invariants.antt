use Prim.Native.Nat.{◌-◌}
use Rattle.evaluate.proofs.Fills.{Filling}
use Rattle.evaluate.proofs.room.fill.Given as goal

abbrev pub invariant-loop-turn : goal.invariant-loop-turn
invariant-loop-turn g l = Filling l.table l.values (g.C.Cells.at l.cells) l.count l.terms l.initial.work l.work l.turn

abbrev pub decreases-loop-turn : goal.decreases-loop-turn
decreases-loop-turn g l = l.terms - l.turn.at
