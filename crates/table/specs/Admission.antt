-- What refuses a table, and in what order: paper 01, "Refused because of the input", 1 to 10.
-- Assumes nothing.
use Rattle.std.specs.Prelude.{Ok, Err, Bool, true, false, cond, not, ◌||◌, List, ℕ, zero, suc, pred, ◌%◌, eqb, ltb, length}
use Rattle.table.specs.declared.Refusal.{Refusal}
use Rattle.table.specs.Answers.{Acceptance, accepted}
use Rattle.table.specs.Terms.{words, terms, sort_at, boolean}
use Rattle.table.specs.Faults.{fault}

abbrev pub refused : ℕ → ℕ → Acceptance
refused number place = Err (record { number = number; place = place })

abbrev pub accepts : Acceptance → Bool
accepts (Ok _) = true
accepts (Err r) = false

-- a refusal stands, as an answer of another kind; else the rest
abbrev pub and_then : {A : Type 0} → (Refusal → A) → Acceptance → A → A
and_then refusing (Ok _) rest = rest
and_then refusing (Err r) rest = refusing r

-- refused by a number from 3 to 9, by none where it is 0
abbrev pub refused_by : ℕ → ℕ → Acceptance → Acceptance
refused_by zero at rest = rest
refused_by (suc f) at rest = refused (suc f) at

-- one after the other, place its number: what faults says of left of them, from at on; then the rest
unfoldable pub scan : (ℕ → ℕ) → ℕ → ℕ → Acceptance → Acceptance
scan faults zero at rest = rest
scan faults (suc left) at rest = refused_by (faults at) at (scan faults left (suc at) rest)

-- 10 last term not Boolean (its number)
abbrev pub ended : List ℕ → ℕ → Acceptance
ended t last = cond (boolean (sort_at t last)) accepted (refused 10 last)

-- 1 table length 0 or not a multiple of six (place 0). 2 more than limit terms (place 0). Then the terms. Then 10
unfoldable pub admission_within : ℕ → List ℕ → Acceptance
admission_within limit t =
    cond (eqb (length t) 0 || not (eqb (length t % words) 0)) (refused 1 0)
    (cond (ltb limit (terms t)) (refused 2 0)
    (scan (fault t) (terms t) 0 (ended t (pred (terms t)))))

-- 2 more than 512 terms, or for evaluate 80,000
abbrev pub admission : List ℕ → Acceptance
admission t = admission_within 512 t
