-- The inputs whose marks are to be taken away: the slots of the variables on the way down.
-- Assumes nothing.
use Rattle.std.specs.Prelude.{Bool, not, ◌&&◌, List, ℕ, zero, suc, get_or, replicate}
use Rattle.ops.specs.Meaning.{holds}
use Rattle.table.specs.declared.words.Term.{Term}
use Rattle.table.specs.Terms.{term_at}
use Rattle.table.specs.Faults.{is_variable}
use Rattle.explain.specs.Ways.{marked, on_way}

-- of the first n terms, the slots of the variables on the way: a row of 256
unfoldable pub repair_of : List ℕ → List ℕ → ℕ → List ℕ
repair_of w way zero = replicate 256 0
repair_of w way (suc k) = marked (on_way way k && is_variable (term_at w k)) (term_at w k).p (repair_of w way k)

-- a slot is named
abbrev pub named : List ℕ → ℕ → Bool
named row slot = holds (get_or row slot 0)

-- the marks that are left: those of the slots that are not named
abbrev pub left_marked : (Term → Bool) → List ℕ → Term → Bool
left_marked marked row x = marked x && not (named row x.p)
