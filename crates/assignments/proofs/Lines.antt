-- The names that are left after a name.
-- Assumes nothing.
use mathlib.Core.Path.{◌≡◌, refl, sym, ap}
use mathlib.Core.Bool.{cond}
use mathlib.Core.List.{List, [], ◌∷◌}
use Prim.Native.Nat.{ℕ, zero, suc, ◌+◌, ◌≤◌, ◌<◌}
use native.Mathlib.Omega.{arith}
use lib.Dec.{ltb}
use lib.ListN.{length}
use borrow.Author.Tests.{lt-ltb, le-ltb}
use Rattle.smtlib.specs.Bytes.{part}
use Rattle.parser.proofs.Ahead.{not_before, not-past_end}
use Rattle.outline.specs.Lines.{unfed, line_end}
use Rattle.assignments.specs.Seeking.{lines_from, names_left}

-- a line ends at its begin or later, and in the names
pub ends-after : (names : List ℕ) (at : ℕ) → at ≤ line_end names at
ends-after names at = not_before unfed names at

pub ends-within : (names : List ℕ) (at : ℕ) → at < length names → line_end names at ≤ length names
ends-within names at b = not-past_end unfed names at (omega arith)

-- one line more than there can be
one_more_lem : (n : ℕ) (names : List ℕ) (at : ℕ) → length names ≤ at + n → lines_from (suc n) names at ≡ lines_from n names at
unfolding lines_from
one_more_lem zero names at h = rw (le-ltb at (length names) (omega arith))
one_more_lem (suc n) names at h =
    ap (λ (l : List (List ℕ)). cond (ltb at (length names)) (part names at (line_end names at) ∷ l) [])
    (one_more_lem n names (line_end names at + 1) (omega (arith, h, ends-after names at)))

module _ (names : List ℕ) (at : ℕ) where
  none_from : (n : ℕ) → length names ≤ at → lines_from n names at ≡ []
  unfolding lines_from
  none_from zero b = refl
  none_from (suc n) b = rw (le-ltb at (length names) b)

  one_from : (n : ℕ) → n ≡ length names → at < length names → lines_from n names at ≡ part names at (line_end names at) ∷ lines_from n names (line_end names at + 1)
  unfolding lines_from
  one_from zero e b = absurd (omega arith)
  one_from (suc n) e b =
      rw (lt-ltb at (length names) b) (ap (λ (l : List (List ℕ)). part names at (line_end names at) ∷ l)
      (sym (one_more_lem n names (line_end names at + 1) (omega (arith, e, ends-after names at)))))

  pub no_name : length names ≤ at → names_left names at ≡ []
  no_name b = none_from (length names) b

  pub one_name : at < length names → (end : ℕ) → end ≡ line_end names at → names_left names at ≡ part names at end ∷ names_left names (end + 1)
  one_name b end e = rw e (one_from (length names) refl b)
