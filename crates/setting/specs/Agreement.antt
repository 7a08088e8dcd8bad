-- How agreement on the unmarked inputs comes about: from what two settings say, listing and length of the rows left aside.
-- Paper 01, "What demand 3 compares". A setting is its value row and what its cells answer, which may be numbers or records.
-- Assumes nothing.
use Rattle.std.specs.Prelude.{◌≡◌, Bool, true, false, not, ◌&&◌, cond, List, ℕ, ◌^◌, ◌<◌, eqb, get_or}
use Rattle.table.specs.declared.words.Term.{Term}
use Rattle.table.specs.Terms.{terms, term_at, sort_at, scalar, array}
use Rattle.table.specs.Faults.{is_variable}
use Rattle.table.specs.Folds.{any_below}
use Rattle.setting.specs.Interpretation.{interpret, AgreeUnmarked}

-- a table, which of its terms are marked, and two settings
module _ (w : List ℕ) (marked : Term → Bool) (values : List ℕ) (look : ℕ → ℕ → ℕ → ℕ) (values' : List ℕ) (look' : ℕ → ℕ → ℕ → ℕ) where
  -- unmarked Booleans and vectors have equal values
  abbrev pub EqualScalars : Type 0
  EqualScalars =
      (k : ℕ) → k < terms w → is_variable (term_at w k) ≡ true → marked (term_at w k) ≡ false → scalar (sort_at w k) ≡ true
      → get_or values (term_at w k).p 0 ≡ get_or values' (term_at w k).p 0

  -- of unmarked arrays the lookups are equal at every index below 2^m: the slot's own value counts where no cell is listed
  abbrev pub EqualArrays : Type 0
  EqualArrays =
      (k : ℕ) → k < terms w → is_variable (term_at w k) ≡ true → marked (term_at w k) ≡ false → array (sort_at w k) ≡ true → (j : ℕ) → j < 2 ^ (sort_at w k).m
      → look (term_at w k).p j (get_or values (term_at w k).p 0) ≡ look' (term_at w k).p j (get_or values' (term_at w k).p 0)

  -- whether the two differ in an unmarked input, by computation
  abbrev pub differ_at : ℕ → Bool
  differ_at k =
      is_variable (term_at w k) && not (marked (term_at w k))
      && cond (scalar (sort_at w k)) (not (eqb (get_or values (term_at w k).p 0) (get_or values' (term_at w k).p 0)))
      (any_below (2 ^ (sort_at w k).m) (λ j. not (eqb (look (term_at w k).p j (get_or values (term_at w k).p 0)) (look' (term_at w k).p j (get_or values' (term_at w k).p 0)))))

  abbrev pub differ : Bool
  differ = any_below (terms w) differ_at

-- Equal scalars and equal arrays are agreement.
abbrev pub AgreementMade : Type 0
AgreementMade =
    (w : List ℕ) (marked : Term → Bool) (values : List ℕ) (look : ℕ → ℕ → ℕ → ℕ) (values' : List ℕ) (look' : ℕ → ℕ → ℕ → ℕ)
    → EqualScalars w marked values look values' look' → EqualArrays w marked values look values' look'
    → AgreeUnmarked w marked (interpret values look) (interpret values' look')

-- Settings that do not differ agree.
abbrev pub AgreementComputed : Type 0
AgreementComputed =
    (w : List ℕ) (marked : Term → Bool) (values : List ℕ) (look : ℕ → ℕ → ℕ → ℕ) (values' : List ℕ) (look' : ℕ → ℕ → ℕ → ℕ)
    → differ w marked values look values' look' ≡ false → AgreeUnmarked w marked (interpret values look) (interpret values' look')
