-- Copying a table to a room's front.
-- Assumes nothing.
use mathlib.Core.Path.{◌≡◌, refl, sym, ap, ◌∙◌}
use mathlib.Core.List.{List, ◌++◌}
use Prim.Native.Nat.{ℕ, ◌+◌, ◌≤◌, ◌<◌}
use native.Mathlib.Numerals.{add-one}
use native.Mathlib.Omega.{arith}
use lib.ListN.{length, get_or, take, drop, set}
use lib.Seq.{take-suc, take-length, length-take-le}
use Rattle.table.proofs.Fronts.{front_more, front_length}

-- Copying: the first i numbers of the table stand in front

pub record Copied (t begin : List ℕ) (room : List ℕ) (i : ℕ) : Type 0 where
  pub within : i ≤ length t
  pub is : room ≡ take i t ++ drop i begin

pub none-copied : (t begin : List ℕ) → Copied t begin begin 0
none-copied t begin = record { within = omega arith; is = refl }

module _ (t begin room : List ℕ) (i : ℕ) (enough : length t ≤ length begin) (h : Copied t begin room i) where
  front_size : length (take i t) ≡ i
  front_size = length-take-le i t h.within

  pub copied-length : length room ≡ length begin
  copied-length = let b : i ≤ length t = h.within in ap length h.is ∙ front_length (take i t) begin i front_size (omega arith)

  pub one_copied : i < length t → (after : List ℕ) → after ≡ set room i (get_or t i 0) → Copied t begin after (i + 1)
  one_copied b after e =
      record {
        within = omega arith;
        is =
            e ∙ ap (λ (l : List ℕ). set l i (get_or t i 0)) h.is ∙ front_more (take i t) begin i (get_or t i 0) front_size (omega arith)
            ∙ ap (λ (l : List ℕ). l ++ drop (i + 1) begin) (sym (take-suc t i 0 b) ∙ ap (λ (n : ℕ). take n t) (sym (add-one i)));
      }

  pub all-copied : length t ≤ i → room ≡ t ++ drop (length t) begin
  all-copied end =
      let e : i ≡ length t = let b : i ≤ length t = h.within in omega arith in
      h.is ∙ ap (λ (n : ℕ). take n t ++ drop n begin) e ∙ ap (λ (l : List ℕ). l ++ drop (length t) begin) (take-length t)
