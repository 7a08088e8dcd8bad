use Rattle.std.proofs.Common.{◌≡◌, ◌+◌, ◌≤◌, ◌++◌, length, take}
use Rattle.page.proofs.Page.put_all.Given as goal

abbrev pub invariant-loop-b : goal.invariant-loop-b
invariant-loop-b l =
    length l.initial.self + length l.bytes ≤ 4096
    → l.self ≡ l.initial.self ++ take l.b-index l.bytes
