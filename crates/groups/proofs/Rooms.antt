-- Terms written into a room one after the other.
-- Assumes nothing.
use mathlib.Core.Path.{◌≡◌, refl, sym, ap, ◌∙◌}
use mathlib.Core.List.{List, [], ◌∷◌, ◌++◌, append-nil, append_assoc}
use Prim.Native.Nat.{ℕ, suc, ◌+◌, ◌*◌, ◌≤◌, ◌<◌}
use native.Mathlib.Nat.{add-zero}
use native.Mathlib.Omega.{arith}
use lib.ListN.{length, drop, set, length-append}
use borrow.Author.Tests.{le-leb}
use Rattle.table.specs.declared.words.Term.{Term}
use Rattle.table.specs.Terms.{words}
use Rattle.table.specs.Code.Writing.{placed}
use Rattle.table.proofs.Places.{length-placed}
use Rattle.table.proofs.Fronts.{front_more, front_length}
use Rattle.groups.specs.Added.{words_of, flat}
use Rattle.groups.specs.Code.Writing.{placed_from, placed_all}

pub length_laid : (xs : List Term) (room : List ℕ) (b i : ℕ) → length (placed_from room b i xs) ≡ length room
unfolding placed_from
length_laid [] room b i = refl
length_laid (x ∷ xs) room b i = length_laid xs (placed room (b + i) x) b (suc i) ∙ length-placed room (b + i) x

-- the same places, counted from another number
laid_from : (xs : List Term) (room : List ℕ) (b i b' i' : ℕ) → b + i ≡ b' + i' → placed_from room b i xs ≡ placed_from room b' i' xs
unfolding placed_from
laid_from [] room b i b' i' e = refl
laid_from (x ∷ xs) room b i b' i' e =
    ap (λ (k : ℕ). placed_from (placed room k x) b (suc i) xs) e ∙ laid_from xs (placed room (b' + i') x) b (suc i) b' (suc i') (omega arith)

laid_then : (xs ys : List Term) (room : List ℕ) (b i : ℕ) → placed_from room b i (xs ++ ys) ≡ placed_from (placed_from room b i xs) b (i + length xs) ys
unfolding placed_from
laid_then [] ys room b i = ap (λ (k : ℕ). placed_from room b k ys) (sym (add-zero i))
laid_then (x ∷ xs) ys room b i =
    let e : suc i + length xs ≡ i + suc (length xs) = omega arith in
    laid_then xs ys (placed room (b + i) x) b (suc i) ∙ ap (λ (k : ℕ). placed_from (placed_from (placed room (b + i) x) b (suc i) xs) b k ys) e

-- one row of terms and then another
pub laid_append : (xs ys : List Term) (room : List ℕ) (b : ℕ) → placed_all room b (xs ++ ys) ≡ placed_all (placed_all room b xs) (b + length xs) ys
laid_append xs ys room b =
    laid_then xs ys room b 0 ∙ laid_from ys (placed_from room b 0 xs) b (0 + length xs) (b + length xs) 0 (omega arith)

-- The front of a room

next-number : (front begin : List ℕ) (i j v : ℕ) → length front ≡ i → i < length begin → i + 1 ≡ j → set (front ++ drop i begin) i v ≡ (front ++ (v ∷ [])) ++ drop j begin
next-number front begin i j v e b s = front_more front begin i v e b ∙ ap (λ (k : ℕ). (front ++ (v ∷ [])) ++ drop k begin) s

next-length : (front : List ℕ) (i j v : ℕ) → length front ≡ i → i + 1 ≡ j → length (front ++ (v ∷ [])) ≡ j
next-length front i j v e s = rw (length-append, e) s

module _ (front begin : List ℕ) (k : ℕ) (x : Term) (full : length front ≡ k * words) (enough : k * words + words ≤ length begin) where
  abbrev one : List ℕ
  one = front ++ (x.op ∷ [])

  abbrev two : List ℕ
  two = one ++ (x.sort.m ∷ [])

  abbrev three : List ℕ
  three = two ++ (x.sort.n ∷ [])

  abbrev four : List ℕ
  four = three ++ (x.p ∷ [])

  abbrev five : List ℕ
  five = four ++ (x.q ∷ [])

  -- a term more
  placed_front : placed (front ++ drop (k * words) begin) k x ≡ (front ++ words_of x) ++ drop ((k + 1) * words) begin
  unfolding placed
  placed_front =
      let e1 : length one ≡ k * words + 1 = next-length front (k * words) (k * words + 1) x.op full refl in
      let e2 : length two ≡ k * words + 2 = next-length one (k * words + 1) (k * words + 2) x.sort.m e1 (omega arith) in
      let e3 : length three ≡ k * words + 3 = next-length two (k * words + 2) (k * words + 3) x.sort.n e2 (omega arith) in
      let e4 : length four ≡ k * words + 4 = next-length three (k * words + 3) (k * words + 4) x.p e3 (omega arith) in
      let e5 : length five ≡ k * words + 5 = next-length four (k * words + 4) (k * words + 5) x.q e4 (omega arith) in
      let long : length (front ++ drop (k * words) begin) ≡ length begin = front_length front begin (k * words) full (omega arith) in
      let next : k * words + 6 ≡ (k + 1) * words = omega arith in
      rw (
        le-leb (k * words + words) (length (front ++ drop (k * words) begin)) (omega (arith, long)),
        next-number front begin (k * words) (k * words + 1) x.op full (omega arith) refl,
        next-number one begin (k * words + 1) (k * words + 2) x.sort.m e1 (omega arith) (omega arith),
        next-number two begin (k * words + 2) (k * words + 3) x.sort.n e2 (omega arith) (omega arith),
        next-number three begin (k * words + 3) (k * words + 4) x.p e3 (omega arith) (omega arith),
        next-number four begin (k * words + 4) (k * words + 5) x.q e4 (omega arith) (omega arith),
        next-number five begin (k * words + 5) (k * words + 6) x.r e5 (omega arith) (omega arith),
        next,
      )
      (simp append_assoc)

-- terms more
pub laid_front : (xs : List Term) (front begin : List ℕ) (b i : ℕ) → length front ≡ (b + i) * words → (b + i + length xs) * words ≤ length begin
    → placed_from (front ++ drop ((b + i) * words) begin) b i xs ≡ (front ++ flat xs) ++ drop ((b + i + length xs) * words) begin
unfolding placed_from flat
laid_front [] front begin b i full enough = rw (append-nil front, add-zero (b + i))
laid_front (x ∷ xs) front begin b i full enough =
    let up : b + i + 1 ≡ b + suc i = omega arith in
    let all : b + suc i + length xs ≡ b + i + suc (length xs) = omega arith in
    let more : length (front ++ words_of x) ≡ (b + suc i) * words = rw length-append (omega arith) in
    ap (λ (l : List ℕ). placed_from l b (suc i) xs)
    (placed_front front begin (b + i) x full (omega arith) ∙ ap (λ (n : ℕ). (front ++ words_of x) ++ drop (n * words) begin) up)
    ∙ laid_front xs (front ++ words_of x) begin b (suc i) more (omega arith)
    ∙ ap (λ (n : ℕ). (front ++ words_of x) ++ flat xs ++ drop (n * words) begin) all
    ∙ ap (λ (l : List ℕ). l ++ drop ((b + i + suc (length xs)) * words) begin) (append_assoc front (words_of x) (flat xs))
