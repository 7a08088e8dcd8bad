-- A room with two fronts: numbers from its start, truths from number n on, both filled one after the other.
-- Assumes nothing.
use mathlib.Core.Path.{◌≡◌, refl, sym, ap, ap₂, ◌∙◌}
use mathlib.Core.List.{List, [], ◌∷◌, ◌++◌, append_assoc}
use Prim.Native.Nat.{ℕ, ◌+◌, ◌*◌, ◌≤◌, ◌<◌}
use native.Mathlib.Nat.{zero-add, suc-add}
use native.Mathlib.Omega.{arith}
use lib.ListN.{length, take, drop, set, length-append, length-drop, take-append-drop, drop_of_length-le}
use lib.Seq.{take_at, drop_at, take-append-le, set-append_left, length-take-le, drop-drop}
use Rattle.table.proofs.Fronts.{front_more, front_length}

set-right : (xs ys : List ℕ) (i a : ℕ) → set (xs ++ ys) (length xs + i) a ≡ xs ++ set ys i a
set-right [] ys i a = ap (λ (k : ℕ). set ys k a) (zero-add i)
set-right (x ∷ xs) ys i a = ap (λ (k : ℕ). set (x ∷ (xs ++ ys)) k a) (suc-add (length xs) i) ∙ ap (λ (l : List ℕ). x ∷ l) (set-right xs ys i a)

-- ns and ts, of i elements each, in the fronts of the two parts of a room
abbrev pub runs : List ℕ → List ℕ → ℕ → ℕ → List ℕ → List ℕ
runs ns ts n i room = (ns ++ drop i (take n room)) ++ (ts ++ drop i (drop n room))

module _ (ns ts : List ℕ) (n i : ℕ) (room : List ℕ) (enough : n + n ≤ length room) (within : i ≤ n) (nl : length ns ≡ i) (tl : length ts ≡ i) where
  low : length (take n room) ≡ n
  low = length-take-le n room (omega arith)

  half : length (ns ++ drop i (take n room)) ≡ n
  half = front_length ns (take n room) i nl (rw low within) ∙ low

  pub laid_length : length (runs ns ts n i room) ≡ length room
  laid_length =
      rw (length-append, half, front_length ts (drop n room) i tl (rw length-drop (omega arith)), length-drop) (omega arith)

  pub laid_front : take i (runs ns ts n i room) ≡ ns
  laid_front =
      take-append-le i (ns ++ drop i (take n room)) (ts ++ drop i (drop n room)) (rw half within)
      ∙ take_at ns (drop i (take n room)) i nl

  pub laid_truths : take i (drop n (runs ns ts n i room)) ≡ ts
  laid_truths =
      ap (take i) (drop_at (ns ++ drop i (take n room)) (ts ++ drop i (drop n room)) n half)
      ∙ take_at ts (drop i (drop n room)) i tl

  -- one number and one truth more
  pub laid_more : i < n → (v t : ℕ) → set (set (runs ns ts n i room) i v) (n + i) t ≡ runs (ns ++ (v ∷ [])) (ts ++ (t ∷ [])) n (i + 1) room
  laid_more inside v t =
      ap (λ (l : List ℕ). set l (n + i) t)
      (set-append_left (ns ++ drop i (take n room)) (ts ++ drop i (drop n room)) i v (rw half inside)
      ∙ ap (λ (l : List ℕ). l ++ (ts ++ drop i (drop n room))) (front_more ns (take n room) i v nl (rw low inside)))
      ∙ ap (λ (k : ℕ). set (((ns ++ (v ∷ [])) ++ drop (i + 1) (take n room)) ++ (ts ++ drop i (drop n room))) (k + i) t) (sym next_half)
      ∙ set-right ((ns ++ (v ∷ [])) ++ drop (i + 1) (take n room)) (ts ++ drop i (drop n room)) i t
      ∙ ap (λ (l : List ℕ). ((ns ++ (v ∷ [])) ++ drop (i + 1) (take n room)) ++ l) (front_more ts (drop n room) i t tl (rw length-drop (omega arith)))
    where
      next_half : length ((ns ++ (v ∷ [])) ++ drop (i + 1) (take n room)) ≡ n
      next_half = front_length (ns ++ (v ∷ [])) (take n room) (i + 1) (rw (length-append, nl)) (rw low (omega arith)) ∙ low

-- at the start nothing is laid
pub laid_none : (n : ℕ) (room : List ℕ) → room ≡ runs [] [] n 0 room
laid_none n room = sym (take-append-drop n room)

append-nil : (l : List ℕ) → l ++ [] ≡ l
append-nil [] = refl
append-nil (x ∷ l) = ap (λ (t : List ℕ). x ∷ t) (append-nil l)

-- at the end both fronts stand before the rest
pub laid_all : (ns ts : List ℕ) (n : ℕ) (room : List ℕ) → n + n ≤ length room → runs ns ts n n room ≡ ns ++ ts ++ drop (n * 2) room
laid_all ns ts n room enough =
    let two : n + n ≡ n * 2 = omega arith in
    ap₂ (λ (a b : List ℕ). (ns ++ a) ++ (ts ++ b)) (drop_of_length-le (take n room) {i = n} (rw (length-take-le n room (omega arith)) (omega arith))) (drop-drop n n room ∙ ap (λ (k : ℕ). drop k room) two)
    ∙ ap (λ (l : List ℕ). l ++ (ts ++ drop (n * 2) room)) (append-nil ns)
    ∙ sym (append_assoc ns ts (drop (n * 2) room))
