-- The first use of each slot, in a row.
-- Assumes nothing.
use Rattle.std.specs.Prelude.{◌≡◌, Bool, ◌&&◌, List, ℕ, ◌<◌, ltb, length, get_or}
use Rattle.table.specs.declared.words.Term.{Term}
use Rattle.table.specs.Folds.{first_from}
use Rattle.table.specs.Terms.{term_at}
use Rattle.table.specs.Faults.{is_variable}
use Rattle.printer.specs.Printed.{uses}

-- a variable of a slot that a row of 256 has
abbrev pub slotted : Term → Bool
slotted x = is_variable x && ltb x.p 256

-- of each slot the first of n terms that is its variable; n where none is
pub record FirstUses (t : List ℕ) (n : ℕ) (row : List ℕ) : Type 0 where
  pub size : length row ≡ 256
  pub is : (s : ℕ) → s < 256 → get_or row s 0 ≡ first_from (λ k. uses (term_at t k) s) n 0
