-- The row of named slots, a term at a time.
-- Assumes nothing.
use mathlib.Core.Path.{◌≡◌, refl, sym, ap, ap₂, subst, ◌∙◌}
use mathlib.Core.Bool.{Bool, true, ◌&&◌}
use mathlib.Core.List.{List}
use mathlib.Core.Logic.{⊎_elim}
use Prim.Native.Nat.{ℕ, zero, suc, ◌+◌, ◌<◌}
use native.Mathlib.Decide.{ℕ_discrete}
use native.Mathlib.Nat.{not-suc-le-zero}
use native.Mathlib.Numerals.{add-one}
use native.Mathlib.Omega.{arith}
use lib.ListN.{length, replicate, length-replicate}
use Rattle.ops.specs.Meaning.{holds}
use Rattle.ops.proofs.Booleans.{never, and_parts}
use Rattle.table.specs.declared.words.Term.{Term}
use Rattle.table.specs.Terms.{term_at}
use Rattle.table.specs.Faults.{is_variable}
use Rattle.explain.specs.Ways.{marked, on_way}
use Rattle.explain.specs.Repairs.{repair_of, named}
use Rattle.explain.proofs.Rows.{zeros, keep-marked, hit_marked, old_marked, length_marked}

module _ (w way : List ℕ) where
  abbrev on : ℕ → Bool
  on k = on_way way k && is_variable (term_at w k)

  pub length_repair : (n : ℕ) → length (repair_of w way n) ≡ 256
  unfolding repair_of
  length_repair zero = length-replicate {A = ℕ} 256 0
  length_repair (suc k) = length_marked (on k) (term_at w k).p (repair_of w way k) ∙ length_repair k

  -- As the code makes it

  pub none_named : replicate 256 0 ≡ repair_of w way 0
  unfolding repair_of
  none_named = refl

  pub one_more_lem : (k : ℕ) (row row' : List ℕ) (x : Term) → row ≡ repair_of w way k → x ≡ term_at w k → row' ≡ marked (on_way way k && is_variable x) x.p row → row' ≡ repair_of w way (k + 1)
  unfolding repair_of
  one_more_lem k row row' x e is e' =
      e' ∙ ap₂ (λ (y : Term) (l : List ℕ). marked (on_way way k && is_variable y) y.p l) is e ∙ sym (ap (repair_of w way) (add-one k))

  -- What it names

  -- a variable on the way among the first n terms, of a slot
  pub record On (n slot : ℕ) : Type 0 where
    pub term : ℕ
    pub below : term < n
    pub way_on : on_way way term ≡ true
    pub input : is_variable (term_at w term) ≡ true
    pub its : (term_at w term).p ≡ slot

  pub named_on : (n slot : ℕ) → named (repair_of w way n) slot ≡ true → On n slot
  unfolding repair_of
  named_on zero slot h = never (sym (ap holds (zeros 256 slot)) ∙ h)
  named_on (suc k) slot h =
      ⊎_elim
      (λ new. let parts = and_parts (on_way way k) (is_variable (term_at w k)) new.0 in record { term = k; below = omega arith; way_on = parts.0; input = parts.1; its = sym new.1 })
      (λ was. let o = named_on k slot was in let b = o.below in record { term = o.term; below = omega arith; way_on = o.way_on; input = o.input; its = o.its })
      (old_marked (on k) (term_at w k).p (repair_of w way k) slot h)

  pub on_named : (n k : ℕ) → k < n → on_way way k ≡ true → is_variable (term_at w k) ≡ true → (term_at w k).p < 256 → named (repair_of w way n) (term_at w k).p ≡ true
  unfolding repair_of
  on_named zero k b o v s = absurd (not-suc-le-zero b)
  on_named (suc n) k b o v s = go (ℕ_discrete k n) (λ c. on_named n k c o v s)
    where
      go : Dec (k ≡ n) → (k < n → named (repair_of w way n) (term_at w k).p ≡ true) → named (marked (on n) (term_at w n).p (repair_of w way n)) (term_at w k).p ≡ true
      go (yes e) before =
          subst (λ (i : ℕ). named (marked (on i) (term_at w i).p (repair_of w way n)) (term_at w k).p ≡ true) e
          (hit_marked (on k) (term_at w k).p (repair_of w way n) (ap₂ ◌&&◌ o v) (let l = length_repair n in omega arith))
      go (no e) before = keep-marked (on n) (term_at w n).p (repair_of w way n) (term_at w k).p (before (omega arith))
