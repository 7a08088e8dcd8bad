use Prim.Native.Nat.{◌-◌}
use Rattle.setting.proofs.Looks.{Looked}
use Rattle.setting.proofs.cells.look.Given as goal

abbrev pub invariant-loop-k : goal.invariant-loop-k
invariant-loop-k g l = Looked (g.C.Cells.at l.cells) l.among l.slot l.index l.other l.k

abbrev pub decreases-loop-k : goal.decreases-loop-k
decreases-loop-k g l = l.among - l.k
