-- The terms on the way down from the rule: the rule, where it is not free, and what each term on the way blames.
-- Assumes nothing.
use Rattle.std.specs.Prelude.{Bool, cond, not, ◌&&◌, List, [], ◌∷◌, ℕ, zero, suc, pred, ltb, get_or, set, replicate}
use Rattle.ops.specs.Meaning.{holds}
use Rattle.table.specs.Terms.{term_at}
use Rattle.judge.specs.Code.Labelled.{truth_in}
use Rattle.explain.specs.declared.answers.Source.{Source}
use Rattle.explain.specs.Sources.{term_of, support}

-- number k of a row is marked, where on; past its end none is
abbrev pub marked : Bool → ℕ → List ℕ → List ℕ
marked on k row = cond on (set row k 1) row

abbrev pub on_way : List ℕ → ℕ → Bool
on_way marks k = holds (get_or marks k 0)

-- of some sources those that are not free are marked
unfoldable pub blamed : List ℕ → List Source → List ℕ → List ℕ
blamed truths [] marks = marks
blamed truths (s ∷ rest) marks = blamed truths rest (marked (not (truth_in truths (term_of s))) (term_of s) marks)

-- what term k blames is marked, where it is on the way
unfoldable pub looked_at : List ℕ → List ℕ → List ℕ → ℕ → List ℕ → List ℕ
looked_at w values truths k marks = cond (on_way marks k) (blamed truths (support w values (term_at w k)) marks) marks

-- so for the terms below k, the highest first
unfoldable pub way_down : List ℕ → List ℕ → List ℕ → ℕ → List ℕ → List ℕ
way_down w values truths zero marks = marks
way_down w values truths (suc k) marks = way_down w values truths k (looked_at w values truths k marks)

-- the last of n terms is the rule
abbrev pub begun : List ℕ → ℕ → List ℕ
begun truths n = marked (ltb 0 n && not (truth_in truths (pred n))) (pred n) (replicate 512 0)

abbrev pub way_of : List ℕ → List ℕ → List ℕ → ℕ → List ℕ
way_of w values truths n = way_down w values truths n (begun truths n)
