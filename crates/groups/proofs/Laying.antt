-- Terms laid one after the other.
-- Assumes nothing.
use Rattle.std.proofs.Common.{◌≡◌, ◌∙◌, ℕ, suc, ◌+◌, ◌<◌, List, [], ◌∷◌, ◌++◌, length, get_or, take, ap, ap₂, sym, arith}
use Rattle.std.proofs.lemmas.List.{take_more, length-take-le}
use Rattle.table.specs.declared.words.Term.{Term}
use Rattle.table.specs.Code.Writing.{placed}
use Rattle.groups.specs.Code.Writing.{placed_from}

-- one term more at the end
more : (room : List ℕ) (b i : ℕ) (xs : List Term) (x : Term) → placed_from room b i (xs ++ x ∷ []) ≡ placed (placed_from room b i xs) (b + (i + length xs)) x
unfolding placed_from
more room b i [] x = let e : i ≡ i + 0 = omega arith in ap (λ (k : ℕ). placed room (b + k) x) e
more room b i (y ∷ ys) x =
    let e : suc i + length ys ≡ i + suc (length ys) = omega arith in
    more (placed room (b + i) y) b (suc i) ys x
    ∙ ap (λ (k : ℕ). placed (placed_from (placed room (b + i) y) b (suc i) ys) (b + k) x) e

-- what stands past a group's end
abbrev past : Term
past = record { op = 0; sort = record { m = 0; n = 0 }; p = 0; q = 0; r = 0 }

-- the next of a group's terms
pub laid : (room : List ℕ) (b : ℕ) (xs : List Term) (k : ℕ) → k < length xs → {at : ℕ} → at ≡ b + k → {s : List ℕ} → s ≡ placed_from room b 0 (take k xs)
    → {t : List ℕ} → t ≡ placed s at (get_or xs k past) → t ≡ placed_from room b 0 (take (k + 1) xs)
laid room b xs k below place is e =
    let long : k ≡ 0 + length (take k xs) = omega (arith, length-take-le k xs (omega (arith, below))) in
    e
    ∙ ap₂ (λ (t : List ℕ) (n : ℕ). placed t n (get_or xs k past)) is place
    ∙ ap (λ (n : ℕ). placed (placed_from room b 0 (take k xs)) (b + n) (get_or xs k past)) long
    ∙ sym (more room b 0 (take k xs) (get_or xs k past))
    ∙ ap (placed_from room b 0) (sym (take_more xs k past below))
