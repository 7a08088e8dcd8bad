-- The variables that a read meets along its array, one after the other, as the code finds them.
-- Assumes nothing.
use Rattle.std.specs.Prelude.{cond, List, [], ◌∷◌, ◌++◌, ℕ, zero, suc}
use Rattle.table.specs.Terms.{term_at}
use Rattle.table.specs.Faults.{is_store, is_choice}

-- their slots, of array term a, through at most left terms: of a choice those of q, then those of r
unfoldable pub leaves_within : ℕ → List ℕ → ℕ → List ℕ
leaves_within zero w a = []
leaves_within (suc left) w a =
    let x = term_at w a in
    let beneath = leaves_within left w x.p in
    let both = leaves_within left w x.q ++ leaves_within left w x.r in
    cond (is_store x) beneath (cond (is_choice x) both (x.p ∷ []))

-- an array's number falls along it, so its own is terms enough
abbrev pub leaves_at : List ℕ → ℕ → List ℕ
leaves_at w a = leaves_within (suc a) w a
