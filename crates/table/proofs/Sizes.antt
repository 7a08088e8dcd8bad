-- The size of an array term, counted through so many terms.
-- Assumes nothing.
use mathlib.Core.Path.{◌≡◌, refl, sym, ap, subst}
use mathlib.Core.Bool.{Bool, true, false}
use mathlib.Core.List.{List}
use Prim.Native.Nat.{ℕ, zero, suc, ◌+◌, ◌-◌, ◌^◌, ◌≤◌, ◌<◌}
use native.Mathlib.Omega.{arith}
use lib.Dec.{leb}
use lib.Pow.{pow_mono}
use Rattle.table.specs.declared.words.Term.{Term}
use Rattle.table.specs.Terms.{term_at}
use Rattle.table.specs.Faults.{is_store, is_choice, size_from, size_within, size}
use Rattle.table.proofs.Stacks.{choice_no-store}

-- by the term: of the next in the row
module _ (left : ℕ) (t : List ℕ) (k : ℕ) where
  pub size-store : is_store (term_at t k) ≡ true → size_within (suc left) t k ≡ suc (size_within left t (term_at t k).p)
  unfolding size_within
  size-store s = rw s

  pub size-choice : is_choice (term_at t k) ≡ true → size_within (suc left) t k ≡ suc (size_within left t (term_at t k).q + size_within left t (term_at t k).r)
  unfolding size_within
  size-choice c = rw (choice_no-store (term_at t k) c, c)

  pub size_none : is_store (term_at t k) ≡ false → is_choice (term_at t k) ≡ false → size_within (suc left) t k ≡ 0
  unfolding size_within
  size_none s c = rw (s, c)

-- of a row of no terms
pub size_end : (t : List ℕ) (k : ℕ) → size_within 0 t k ≡ 0
unfolding size_within
size_end t k = refl

-- a tree through so many terms in a row has fewer than 2 to that many parts
pub size_below : (left : ℕ) (t : List ℕ) (k : ℕ) → size_within left t k < 2 ^ left
unfolding size_within
size_below zero t k = omega arith
size_below (suc left) t k =
    by (is_store (term_at t k)) (is_choice (term_at t k)) (size_below left t (term_at t k).p) (size_below left t (term_at t k).q) (size_below left t (term_at t k).r)
  where
    by : (s c : Bool) → size_within left t (term_at t k).p < 2 ^ left → size_within left t (term_at t k).q < 2 ^ left → size_within left t (term_at t k).r < 2 ^ left
        → size_from (size_within left t) (term_at t k) s c < 2 ^ suc left
    by true c b d e = omega arith
    by false true b d e = omega arith
    by false false b d e = omega arith

-- a term that is neither store nor choice is small
pub size-short : (t : List ℕ) (k : ℕ) → is_store (term_at t k) ≡ false → is_choice (term_at t k) ≡ false → leb (size t k) 16 ≡ true
size-short t k s c = rw (size_none 16 t k s c)

-- so it fits with room to spare
pub size_fits : (left : ℕ) → left ≤ 17 → (t : List ℕ) (k : ℕ) → size_within (left - 1) t k < 65536
size_fits left b t k =
    let small : size_within (left - 1) t k < 2 ^ (left - 1) = size_below (left - 1) t k in
    let most : 2 ^ (left - 1) ≤ 2 ^ 16 = let b : left - 1 ≤ 16 = omega arith in pow_mono b in
    omega arith

-- of a term at hand, x, with some terms left
module _ (t : List ℕ) (k left : ℕ) (x : Term) (here : x ≡ term_at t k) (some : left ≡ 0 → ⊥) where
  fewer : suc (left - 1) ≡ left
  fewer = omega arith

  pub store-sized : is_store x ≡ true → size_within (left - 1) t x.p + 1 ≡ size_within left t k
  store-sized =
      subst (λ (y : Term). is_store y ≡ true → size_within (left - 1) t y.p + 1 ≡ size_within left t k) (sym here)
      (λ s. omega (arith, size-store (left - 1) t k s, ap (λ (n : ℕ). size_within n t k) fewer))

  pub choice-sized : is_choice x ≡ true → size_within (left - 1) t x.q + size_within (left - 1) t x.r + 1 ≡ size_within left t k
  choice-sized =
      subst (λ (y : Term). is_choice y ≡ true → size_within (left - 1) t y.q + size_within (left - 1) t y.r + 1 ≡ size_within left t k) (sym here)
      (λ c. omega (arith, size-choice (left - 1) t k c, ap (λ (n : ℕ). size_within n t k) fewer))

  pub none-sized : is_store x ≡ false → is_choice x ≡ false → 0 ≡ size_within left t k
  none-sized =
      subst (λ (y : Term). is_store y ≡ false → is_choice y ≡ false → 0 ≡ size_within left t k) (sym here)
      (λ s c. omega (arith, size_none (left - 1) t k s c, ap (λ (n : ℕ). size_within n t k) fewer))
