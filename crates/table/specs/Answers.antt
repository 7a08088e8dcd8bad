-- What a check answers: nothing is wrong, or the first refusal.
-- Assumes nothing.
use Rattle.std.specs.Prelude.{Result, Ok}
use Rattle.table.specs.declared.Refusal.{Refusal}

abbrev pub Acceptance : Type 0
Acceptance = Result (Unit {0}) Refusal

abbrev pub accepted : Acceptance
accepted = Ok tt
