-- The search for the first clash. It looks at slots up to 255 alone: over 255, 7 refuses first.
-- Assumes nothing.
use Rattle.std.specs.Prelude.{Bool, ◌&&◌, List, ℕ, leb}
use Rattle.table.specs.declared.words.Term.{Term}
use Rattle.table.specs.Terms.{term_at}
use Rattle.table.specs.Folds.{first_from}
use Rattle.table.specs.Faults.{is_variable, clash}

-- a variable of a slot up to 255
abbrev pub claims : Term → Bool
claims x = is_variable x && leb x.p 255

abbrev pub slot_clash : List ℕ → ℕ → Bool
slot_clash t i = claims (term_at t i) && clash t i

abbrev pub first_clash : List ℕ → ℕ → ℕ
first_clash t n = first_from (slot_clash t) n 0
