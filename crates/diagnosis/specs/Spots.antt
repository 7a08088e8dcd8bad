-- Where in a case a refusal points: a number of a section, or the word that begins it (docs/PROGRAM.md, "Refusals", LINE).
-- Assumes nothing.
use Rattle.std.specs.Prelude.{Option, None, Some, cond, ◌&&◌, ◌||◌, List, ℕ, ◌*◌, eqb, ltb, leb}
use Rattle.table.specs.Terms.{term_at}
use Rattle.diagnosis.specs.declared.spots.Section.TheVariants.{Table, Values, Cells, Allowance, Sheet}
use Rattle.diagnosis.specs.declared.spots.Spot.{Spot}
use Rattle.diagnosis.specs.declared.spots.Spot.TheVariants.{Heading, Number}

unfoldable pub spot_at : List ℕ → ℕ → ℕ → Option Spot
spot_at t number i =
    cond (eqb number 1 || eqb number 2) (Some (Heading Table))
    (cond (eqb number 11) (Some (Heading Cells))
    (cond (eqb number 13) (Some (Number Values (term_at t i).p))
    (cond (eqb number 14 || eqb number 15) (Some (Number Cells (i * 3)))
    (cond (eqb number 16) (Some (Number Sheet (i * 3)))
    (cond (eqb number 23) (Some (Number Allowance 0))
    (cond (leb 3 number && leb number 12) (Some (Number Table (i * 6)))
    None))))))

-- a place of 2^32 or more is none
abbrev pub spot : List ℕ → ℕ → ℕ → Option Spot
spot t number place = cond (ltb place 4294967296) (spot_at t number place) None
