-- The way down, a term at a time.
-- Assumes nothing.
use mathlib.Core.Path.{◌≡◌, sym, ap, ◌∙◌}
use mathlib.Core.Bool.{Bool, not, ◌&&◌}
use mathlib.Core.List.{List}
use Prim.Native.Nat.{ℕ, zero, suc, pred, ◌-◌, ◌≤◌, ◌<◌}
use native.Mathlib.Nat.{not-suc-le-zero}
use native.Mathlib.Omega.{arith}
use lib.Dec.{ltb}
use lib.ListN.{length, replicate, length-replicate}
use Rattle.judge.specs.Code.Labelled.{truth_in}
use Rattle.explain.specs.Ways.{marked, looked_at, way_down, begun, way_of}
use Rattle.explain.proofs.Rows.{length_marked}
use Rattle.explain.proofs.Looks.{length_looked}

-- what is left of the way makes the whole
pub record Downward (w values truths : List ℕ) (n : ℕ) (marks : List ℕ) (k : ℕ) : Type 0 where
  pub left : way_down w values truths k marks ≡ way_of w values truths n
  pub row : 512 ≡ length marks

pub length-begun : (truths : List ℕ) (n : ℕ) → length (begun truths n) ≡ 512
length-begun truths n = length_marked (ltb 0 n && not (truth_in truths (pred n))) (pred n) (replicate 512 0) ∙ length-replicate {A = ℕ} 512 0

-- the rule is marked, where there is one that is not free
pub begun_as : (truths : List ℕ) (n k : ℕ) (on : Bool) → k ≡ n - 1 → on ≡ (ltb 0 n && not (truth_in truths k)) → marked on k (replicate 512 0) ≡ begun truths n
begun_as truths zero k on e h = ap (λ (b : Bool). marked b k (replicate 512 0)) h
begun_as truths (suc n) k on e h =
    let same : k ≡ n = omega arith in
    ap (λ (b : Bool). marked b k (replicate 512 0)) h ∙ ap (λ (i : ℕ). marked (ltb 0 (suc n) && not (truth_in truths i)) i (replicate 512 0)) same

module _ (w values truths : List ℕ) (n : ℕ) (marks : List ℕ) where
  pub down_begun : marks ≡ begun truths n → Downward w values truths n marks n
  down_begun e = record { left = ap (way_down w values truths n) e; row = sym (ap length e ∙ length-begun truths n) }

  pub down_one : (marks' : List ℕ) (k : ℕ) → Downward w values truths n marks k → 0 < k → marks' ≡ looked_at w values truths (k - 1) marks → Downward w values truths n marks' (k - 1)
  unfolding way_down
  down_one marks' zero d b e = absurd (not-suc-le-zero b)
  down_one marks' (suc k) d b e =
      let same : suc k - 1 ≡ k = omega arith in
      record {
        left =
            ap (λ (i : ℕ). way_down w values truths i marks') same
            ∙ ap (way_down w values truths k) (e ∙ ap (λ (i : ℕ). looked_at w values truths i marks) same)
            ∙ d.left;
        row = d.row ∙ sym (ap length e ∙ length_looked w values truths (suc k - 1) marks);
      }

  pub down_none : (k : ℕ) → Downward w values truths n marks k → k ≤ 0 → marks ≡ way_of w values truths n
  unfolding way_down
  down_none zero d b = d.left
  down_none (suc k) d b = absurd (not-suc-le-zero b)
