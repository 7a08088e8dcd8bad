-- What writing the groups keeps and answers.
-- Assumes nothing.
use Rattle.std.specs.Prelude.{◌≡◌, Bool, cond, List, [], ◌∷◌, map, ℕ, suc, ◌+◌, ◌≤◌, length}
use Rattle.ops.specs.Meaning.{ones}
use Rattle.ops.specs.Signed.{greatest, least}
use Rattle.table.specs.declared.words.Term.{Term}
use Rattle.table.specs.Terms.{terms}
use Rattle.table.specs.Code.Writing.{placed}
use Rattle.sheets.specs.Marks.{own_marks}
use Rattle.groups.specs.declared.groups.Written.{Written}
use Rattle.groups.specs.Groups.{bounds_group}
use Rattle.groups.specs.Plans.{last_of, next, plans, plan_at}

-- terms written into a room one after the other, as terms b + i, b + i + 1, ..
unfoldable pub placed_from : List ℕ → ℕ → ℕ → List Term → List ℕ
placed_from room b i [] = room
placed_from room b i (x ∷ xs) = placed_from (placed room (b + i) x) b (suc i) xs

abbrev pub placed_all : List ℕ → ℕ → List Term → List ℕ
placed_all room b xs = placed_from room b 0 xs

-- the numbers of the conditions of the first k terms
abbrev pub condition_numbers : List ℕ → ℕ → List ℕ
condition_numbers w k = map (λ x. x.condition) (plans w own_marks k)

-- conditions has those of the terms before this one
pub record Numbered (w conditions : List ℕ) : Type 0 where
  pub within : length conditions ≤ terms w
  pub is : conditions ≡ condition_numbers w (length conditions)

-- the group of less, or of signed less, of term x from b on, at the operands' width n
abbrev pub less_group : ℕ → ℕ → Bool → Term → ℕ → ℕ → List Term
less_group b n signed x cp cq = bounds_group b n (cond signed (greatest n) (ones n)) (cond signed (least n) 0) x.p x.q cp cq cq

-- after a group from b on: the number of its last term, and the number after it
abbrev pub after : ℕ → List Term → Written
after b group = record { condition = last_of b group; next = b + length group }

-- after term k: the number of its condition, and that of the next group's first term
abbrev pub written : List ℕ → ℕ → Written
written w k = record { condition = (plan_at w own_marks k).condition; next = next w (plans w own_marks (suc k)) }
