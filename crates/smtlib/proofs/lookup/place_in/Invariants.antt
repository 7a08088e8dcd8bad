use Rattle.std.proofs.Common.{◌≡◌, ◌+◌, drop}
use Rattle.smtlib.specs.Bytes.{place_in, cuts}
use Rattle.smtlib.proofs.lookup.place_in.Given as goal

abbrev pub invariant-loop-k : goal.invariant-loop-k
invariant-loop-k l = l.k + place_in (cuts l.all l.from (drop l.k l.ends)) l.word ≡ place_in (cuts l.all 0 l.ends) l.word
