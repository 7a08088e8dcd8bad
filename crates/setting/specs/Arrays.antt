-- The sort of each array slot of a table.
-- Assumes nothing.
use Rattle.std.specs.Prelude.{Bool, cond, ◌&&◌, List, ℕ, zero, suc, eqb, leb}
use Rattle.table.specs.declared.words.Sort.{Sort}
use Rattle.table.specs.declared.words.Term.{Term}
use Rattle.table.specs.Terms.{terms, term_at, sort_at, array}
use Rattle.table.specs.Faults.{is_variable}

-- an array variable of a slot up to 255
abbrev pub array_variable : Term → Bool
array_variable x = is_variable x && array x.sort && leb x.p 255

-- the number and one of the latest of the first k terms that is an array variable of this slot; 0 where there is none
unfoldable pub array_entry : List ℕ → ℕ → ℕ → ℕ
array_entry w zero slot = 0
array_entry w (suc k) slot = cond (array_variable (term_at w k) && eqb (term_at w k).p slot) (suc k) (array_entry w k slot)

-- the sort of an entry's term; (0, 0) for none
abbrev pub entry_sort : List ℕ → ℕ → Sort
entry_sort w zero = record { m = 0; n = 0 }
entry_sort w (suc k) = sort_at w k

-- the sort of a slot's array variable; (0, 0), which is no array's, where it has none
unfoldable pub slot_sort : List ℕ → ℕ → Sort
slot_sort w slot = entry_sort w (array_entry w (terms w) slot)
