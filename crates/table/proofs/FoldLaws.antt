-- What a fold's list holds.
-- Assumes nothing.
use mathlib.Core.Path.{◌≡◌, refl, sym, ap, ap₂, ◌∙◌}
use mathlib.Core.List.{List, [], ◌∷◌, ◌++◌, map}
use Prim.Native.Nat.{ℕ, zero, suc, ◌+◌, ◌<◌}
use native.Mathlib.Decide.{ℕ_discrete}
use native.Mathlib.Nat.{not-suc-le-zero}
use native.Mathlib.Numerals.{add-one}
use native.Mathlib.Omega.{arith}
use lib.ListN.{length, get_or, length-append, length-map, get_or-append, get_or-map}
use lib.Seq.{get_or_at}
use Rattle.table.specs.Folds.{fold}

map-append : {A : Type 0} (f : A → ℕ) (s t : List A) → map f (s ++ t) ≡ map f s ++ map f t
map-append f [] t = refl
map-append f (x ∷ s) t = ap (λ (l : List ℕ). f x ∷ l) (map-append f s t)

module _ {A : Type 0} (step : List A → ℕ → A) where
  pub length-fold : (k : ℕ) → length (fold step k) ≡ k
  unfolding fold
  length-fold zero = refl
  length-fold (suc k) = rw (length-append, length-fold k) (omega arith)

  -- a passed number's element is made from those before it
  pub fold-below : (d : A) (k i : ℕ) → i < k → get_or (fold step k) i d ≡ step (fold step i) i
  unfolding fold
  fold-below d zero i b = absurd (not-suc-le-zero b)
  fold-below d (suc k) i b = go (ℕ_discrete i k) (fold-below d k i)
    where
      go : Dec (i ≡ k) → (i < k → get_or (fold step k) i d ≡ step (fold step i) i) → get_or (fold step k ++ (step (fold step k) k ∷ [])) i d ≡ step (fold step i) i
      go (yes e) before =
          ap (λ (j : ℕ). get_or (fold step k ++ (step (fold step k) k ∷ [])) j d) e
          ∙ get_or_at (fold step k) (step (fold step k) k) [] d k (length-fold k)
          ∙ sym (ap (λ (j : ℕ). step (fold step j) j) e)
      go (no e) before =
          get_or-append (fold step k) (step (fold step k) k ∷ []) d i (rw (length-fold k) (omega arith))
          ∙ before (omega arith)

  -- a number for each element
  module _ (f : A → ℕ) where
    pub length-map-fold : (k : ℕ) → length (map f (fold step k)) ≡ k
    length-map-fold k = length-map (fold step k) f ∙ length-fold k

    pub map-fold_in : (d : A) (k i : ℕ) → get_or (map f (fold step k)) i (f d) ≡ f (get_or (fold step k) i d)
    map-fold_in d k i = get_or-map f (fold step k) i d

    pub map-fold-more : (k : ℕ) → map f (fold step (k + 1)) ≡ map f (fold step k) ++ (f (step (fold step k) k) ∷ [])
    unfolding fold
    map-fold-more k = rw add-one (map-append f (fold step k) (step (fold step k) k ∷ []))

-- folds whose steps are the same below n are the same
pub fold_same : {A : Type 0} (step step' : List A → ℕ → A) (n : ℕ) → ((k : ℕ) → k < n → (l : List A) → step l k ≡ step' l k) → fold step n ≡ fold step' n
unfolding fold
fold_same step step' zero h = refl
fold_same step step' (suc n) h =
    let before = fold_same step step' n (λ k b l. h k (omega arith) l) in
    ap₂ (λ l x. l ++ (x ∷ [])) before (h n (omega arith) (fold step n) ∙ ap (λ l. step' l n) before)
