-- A read along its array, as the code goes: from the outermost store inward, equal index gives the stored value, else the same
-- question goes to the array beneath; of a choice it goes to the branch that the test picks; at the end stands a variable.
-- Assumes nothing.
use Rattle.std.specs.Prelude.{cond, List, ℕ, zero, suc, eqb, get_or}
use Rattle.ops.specs.Meaning.{holds}
use Rattle.table.specs.declared.words.Term.{Term}
use Rattle.table.specs.Terms.{term_at}
use Rattle.table.specs.Faults.{is_store, is_choice}
use Rattle.evaluate.specs.declared.reads.Found.{Found}

-- at index j, from array term a, through at most left terms: the store or the variable that holds the value; front holds the numbers
-- of the terms before the read
unfoldable pub holder_within : ℕ → List ℕ → List ℕ → ℕ → ℕ → ℕ
holder_within zero w front a j = a
holder_within (suc left) w front a j =
    let x = term_at w a in
    let beneath = holder_within left w front x.p j in
    let picked = cond (holds (get_or front x.p 0)) (holder_within left w front x.q j) (holder_within left w front x.r j) in
    cond (is_store x) (cond (eqb (get_or front x.q 0) j) a beneath) (cond (is_choice x) picked a)

-- an array's number falls along it, so its own is terms enough
abbrev pub holder_at : List ℕ → List ℕ → ℕ → ℕ → ℕ
holder_at w front a j = holder_within (suc a) w front a j

-- what is found at term x: the value that a store holds, or the slot of a variable
abbrev pub found_in : List ℕ → Term → Found
found_in front x = record { stored = is_store x; number = cond (is_store x) (get_or front x.r 0) x.p }

abbrev pub found_at : List ℕ → List ℕ → ℕ → ℕ → Found
found_at w front a j = found_in front (term_at w (holder_at w front a j))

-- the value at j: what a store holds, else the cell of the variable at the end, by its slot
abbrev pub read_at : List ℕ → List ℕ → ℕ → ℕ → (ℕ → ℕ) → ℕ
read_at w front a j cell =
    let found = found_at w front a j in
    cond found.stored found.number (cell found.number)
