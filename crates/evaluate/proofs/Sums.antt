-- The sum of steps, term by term; it stays small.
-- Assumes nothing.
use mathlib.Core.Path.{◌≡◌, refl, ap, ◌∙◌}
use mathlib.Core.Bool.{Bool, true, false, cond}
use mathlib.Core.List.{List}
use Prim.Native.Nat.{ℕ, ◌+◌, ◌*◌, ◌≤◌, ◌<◌}
use native.Mathlib.Numerals.{add-one}
use native.Mathlib.Omega.{arith}
use Rattle.table.specs.declared.words.Term.{Term}
use Rattle.table.specs.Terms.{term_at}
use Rattle.table.specs.Faults.{is_read, size}
use Rattle.table.proofs.Sizes.{size_below}
use Rattle.evaluate.specs.Steps.{steps_of, steps}

pub steps_of-most : (w : List ℕ) (x : Term) → steps_of w x ≤ 131072
steps_of-most w x = go (is_read x)
  where
    go : (b : Bool) → cond b (size w x.p) 0 ≤ 131072
    go true = let b : size w x.p < 131072 = size_below 17 w x.p in omega arith
    go false = omega arith

-- the sum has come to term i of n
pub record Summed (w : List ℕ) (n sum i : ℕ) : Type 0 where
  pub within : i ≤ n
  pub small : sum ≤ 131072 * i
  pub is : sum ≡ steps w i

pub none_yet : (w : List ℕ) (n : ℕ) → Summed w n 0 0
unfolding steps
none_yet w n = record { within = omega arith; small = omega arith; is = refl }

module _ (w : List ℕ) (n sum i : ℕ) (h : Summed w n sum i) where
  pub one_more_lem : i < n → (s : ℕ) → s ≡ steps_of w (term_at w i) → Summed w n (sum + s) (i + 1)
  unfolding steps
  one_more_lem inside s e =
      record {
        within = omega arith;
        small = omega (arith, steps_of-most w (term_at w i), h.small);
        is = rw add-one (ap (λ (a : ℕ). a + s) h.is ∙ ap (λ (b : ℕ). steps w i + b) e);
      }

  pub all_summed : n ≤ i → sum ≡ steps w n
  all_summed end =
      let e : i ≡ n = let b : i ≤ n = h.within in omega arith in
      h.is ∙ ap (steps w) e
