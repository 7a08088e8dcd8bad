-- What each slot holds: an interpretation of a table's inputs; which interpretations fit, and which agree.
-- Paper 01, "What demand 3 compares".
-- Assumes nothing.
use Rattle.std.specs.Prelude.{◌≡◌, Bool, true, false, List, ℕ, ◌^◌, ◌<◌, get_or}
use Rattle.ops.specs.Fits.{fits}
use Rattle.table.specs.declared.words.Sort.{Sort}
use Rattle.table.specs.declared.words.Term.{Term}
use Rattle.table.specs.Terms.{terms, term_at, sort_at, scalar, array}
use Rattle.table.specs.Faults.{is_variable}
use Rattle.table.specs.WellFormed.{WellFormed}
use Rattle.setting.specs.declared.cells.Cell.{Cell}
use Rattle.setting.specs.Cells.{look_from, look}
use Rattle.setting.specs.Check.{check}
use Rattle.table.specs.Answers.{accepted}

-- the number of a Boolean or a vector; what each cell of an array holds
pub record Value : Type 0 where
  pub num : ℕ
  pub cell : ℕ → ℕ

abbrev pub Interpretation : Type 0
Interpretation = ℕ → Value

-- of a value row and what cells answer: the slot's own value holds where no cell is listed
abbrev pub interpret : List ℕ → (ℕ → ℕ → ℕ → ℕ) → Interpretation
interpret values look slot = record { num = get_or values slot 0; cell = λ j. look slot j (get_or values slot 0) }

-- of a value row and so many cells, in whichever form they are lent
abbrev pub in_cells : List ℕ → (ℕ → Cell) → ℕ → Interpretation
in_cells values cells count = interpret values (look_from cells count 0)

-- a value fits its sort: 0 or 1 for a Boolean, below 2^n for a vector; for an array, what it holds at each index below 2^m is below 2^n
pub record Fit (s : Sort) (v : Value) : Type 0 where
  pub num : scalar s ≡ true → fits s.n v.num ≡ true
  pub cell : array s ≡ true → (j : ℕ) → j < 2 ^ s.m → v.cell j < 2 ^ s.n

-- an input is a slot that some variable term of the table uses: each fits
abbrev pub FitInputs : List ℕ → Interpretation → Type 0
FitInputs w I = (k : ℕ) → k < terms w → is_variable (term_at w k) ≡ true → Fit (sort_at w k) (I (term_at w k).p)

-- two values are the same at a sort
pub record Same (s : Sort) (v v' : Value) : Type 0 where
  -- of a Boolean or a vector: equal numbers
  pub num : scalar s ≡ true → v.num ≡ v'.num
  -- of an array: equal at every index below 2^m
  pub cell : array s ≡ true → (j : ℕ) → j < 2 ^ s.m → v.cell j ≡ v'.cell j

-- two interpretations agree on every unmarked input; which terms are marked is a parameter
abbrev pub AgreeUnmarked : List ℕ → (Term → Bool) → Interpretation → Interpretation → Type 0
AgreeUnmarked w marked I I' = (k : ℕ) → k < terms w → is_variable (term_at w k) ≡ true → marked (term_at w k) ≡ false → Same (sort_at w k) (I (term_at w k).p) (I' (term_at w k).p)

-- A setting that is not refused fits.
abbrev pub CheckedFits : Type 0
CheckedFits = (limit : ℕ) (w values cells : List ℕ) → WellFormed limit w → check w values cells ≡ accepted → FitInputs w (interpret values (look cells))
