-- A reason is told where its test fails: the first of a list whose test does.
-- Assumes nothing.
use Rattle.std.specs.Prelude.{◌≡◌, Bool, true, false, cond, ◌&&◌, List, [], ◌∷◌, ◌⊎◌, ℕ, Option, None, Some}
use Rattle.table.specs.declared.words.Sort.{Sort}
use Rattle.diagnosis.specs.declared.reason.Reason.{Reason}

abbrev pub vector_sort : ℕ → Sort
vector_sort n = record { m = 0; n = n }

abbrev pub boolean_sort : Sort
boolean_sort = vector_sort 0

-- a test, and what is told where it fails
pub record Line : Type 0 where
  pub ok : Bool
  pub told : Reason

abbrev pub line : Bool → Reason → Line
line ok told = record { ok = ok; told = told }

abbrev pub tell : List Line → Option Reason
tell [] = None
tell (l ∷ ls) = cond l.ok (tell ls) (Some l.told)

abbrev pub pass : List Line → Bool
pass [] = true
pass (l ∷ ls) = l.ok && pass ls

-- d is what is told by the first line whose test fails
abbrev pub FirstFails : List Line → Option Reason → Type 0
FirstFails [] d = ⊥
FirstFails (l ∷ ls) d = ((l.ok ≡ false) × (d ≡ Some l.told)) ⊎ ((l.ok ≡ true) × FirstFails ls d)
