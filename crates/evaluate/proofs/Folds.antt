-- The list of values, term by term.
-- Assumes nothing.
use mathlib.Core.Path.{◌≡◌}
use mathlib.Core.List.{List, [], ◌∷◌, ◌++◌}
use Prim.Native.Nat.{ℕ, ◌+◌, ◌<◌}
use lib.ListN.{length, get_or}
use Rattle.table.specs.Terms.{term_at}
use Rattle.table.proofs.FoldLaws.{fold-below, length-map-fold, map-fold_in, map-fold-more}
use Rattle.setting.specs.Interpretation.{Interpretation}
use Rattle.evaluate.specs.Values.{scalar_value, value_in, value_from, values, value_at, numbers}

module _ (w : List ℕ) (I : Interpretation) where
  pub length-numbers : (k : ℕ) → length (numbers w I k) ≡ k
  length-numbers k = length-map-fold (λ vs i. value_from w I (value_in vs) (term_at w i)) (λ v. v.num) k

  -- of a term that is passed the list has its value
  pub value-below : (k i : ℕ) → i < k → value_in (values w I k) i ≡ value_at w I i
  value-below k i b = fold-below (λ vs i. value_from w I (value_in vs) (term_at w i)) (scalar_value 0) k i b

  pub number_in : (k i : ℕ) → get_or (numbers w I k) i 0 ≡ (value_in (values w I k) i).num
  number_in k i = map-fold_in (λ vs i. value_from w I (value_in vs) (term_at w i)) (λ v. v.num) (scalar_value 0) k i

  pub numbers_more : (k : ℕ) → numbers w I (k + 1) ≡ numbers w I k ++ ((value_at w I k).num ∷ [])
  numbers_more k = map-fold-more (λ vs i. value_from w I (value_in vs) (term_at w i)) (λ v. v.num) k
