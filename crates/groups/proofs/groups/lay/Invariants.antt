use Rattle.std.proofs.Common.{◌≡◌, ◌≤◌, ◌+◌, length, take}
use Rattle.groups.specs.Code.Writing.{placed_from}
use Rattle.groups.proofs.groups.lay.Given as goal

-- the first terms are written
abbrev pub invariant-loop-x : goal.invariant-loop-x
invariant-loop-x l = (l.x-index ≤ length l.group) × ((l.at ≡ l.b + l.x-index) × (l.room ≡ placed_from l.initial.room l.b 0 (take l.x-index l.group)))
