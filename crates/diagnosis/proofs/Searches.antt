-- What `find` over a range answers is the first number that passes.
-- Assumes nothing.
use mathlib.Core.Path.{◌≡◌, refl, sym, ◌∙◌}
use mathlib.Core.Bool.{Bool, true, false}
use Prim.Native.Nat.{ℕ, ◌≤◌, ◌<◌}
use native.Mathlib.Omega.{arith}
use lib.Dec.{ltb}
use borrow.Author.Tests.{ltb-true, ltb-false}
use Rattle.std.proofs.Common.{Option, None, Some, MatchOption}
use Rattle.std.specs.Option.{unwrap_or}
use Rattle.ops.proofs.Booleans.{never}
use Rattle.table.specs.Folds.{first_from}
use Rattle.table.proofs.Searches.{First, first_is}

module _ (f : ℕ → Bool) (n : ℕ) where
  -- i is the first that passes, or n where none does
  first_same : (s i : ℕ) → First f n s → i ≤ n → (i < n → f i ≡ true) → ((k : ℕ) → k < i → f k ≡ false) → i ≡ s
  first_same s i first b here before = go (ltb s i) (ltb i s) refl refl
    where
      within : s ≤ n
      within = first.within

      go : (c d : Bool) → ltb s i ≡ c → ltb i s ≡ d → i ≡ s
      go true d e g = let l = ltb-true s i e in never (sym (before s l) ∙ first.found (omega arith))
      go false true e g = let l = ltb-true i s g in never (sym (first.before i l) ∙ here (omega arith))
      go false false e g = let l = ltb-false s i e in let m = ltb-false i s g in omega arith

  pub find_first : (r : Option ℕ) → MatchOption r ((k : ℕ) → 0 ≤ k → k < n → f k ≡ false) (λ i. (0 ≤ i) × (i < n) × (f i ≡ true) × ((k : ℕ) → 0 ≤ k → k < i → f k ≡ false))
      → unwrap_or r n ≡ first_from f n 0
  find_first None h = first_same _ n (first_is f n _ refl) (omega arith) (λ l. absurd (omega arith)) (λ k l. h k (omega arith) l)
  find_first (Some i) h = let l : i < n = h.1 in first_same _ i (first_is f n _ refl) (omega arith) (λ _. h.2) (λ k l. h.3 k (omega arith) l)
