-- By which numbers a table can be refused: paper 01, "Admit knows 1 to 10 .. None is given on other grounds".
-- Assumes nothing.
use Rattle.std.specs.Prelude.{Ok, Err, ◌≡◌, Bool, true, ◌&&◌, List, ℕ, leb}
use Rattle.table.specs.Answers.{Acceptance}
use Rattle.table.specs.Admission.{admission_within}

-- from low to high
abbrev pub between : ℕ → ℕ → ℕ → Bool
between low high number = leb low number && leb number high

-- the number of a refusal is one of these; of an admission nothing is said
abbrev pub RefusedBy : (ℕ → Bool) → Acceptance → Type 0
RefusedBy numbers (Ok _) = Unit {0}
RefusedBy numbers (Err r) = numbers r.number ≡ true

-- Admitting, by any limit, refuses by 1 to 10 alone.
abbrev pub AdmissionNumbers : Type 0
AdmissionNumbers = (limit : ℕ) (t : List ℕ) → RefusedBy (between 1 10) (admission_within limit t)
