-- Steps: paper 01, "A setting"; paper 02, request 07. Those of a read are the size of its whole array, at most 16.
-- Assumes nothing.
use Rattle.std.specs.Prelude.{cond, List, ℕ, zero, suc, ◌+◌}
use Rattle.table.specs.declared.words.Term.{Term}
use Rattle.table.specs.Terms.{term_at}
use Rattle.table.specs.Faults.{is_read, size}

-- the steps of a term: none but for a read
abbrev pub steps_of : List ℕ → Term → ℕ
steps_of w x = cond (is_read x) (size w x.p) 0

-- the sum over the first k terms
unfoldable pub steps : List ℕ → ℕ → ℕ
steps w zero = 0
steps w (suc k) = steps w k + steps_of w (term_at w k)
