-- Which slots a table uses, where first, and how they are declared.
-- Assumes nothing.
use mathlib.Core.Path.{◌≡◌, refl, sym, ap, ap₂, ◌∙◌}
use mathlib.Core.Bool.{Bool, true, false, cond, ◌&&◌}
use mathlib.Core.List.{List, [], ◌∷◌}
use mathlib.Core.Logic.{◌⊎◌, inl, inr}
use Prim.Native.Nat.{ℕ, ◌<◌}
use native.Mathlib.Decide.{dec_lt}
use native.Mathlib.Omega.{arith}
use lib.Dec.{eqb}
use borrow.Author.Tests.{eq-eqb, ne_eqb, eqb-true}
use Rattle.ops.proofs.Booleans.{never, and_parts}
use Rattle.table.specs.declared.words.Sort.{Sort}
use Rattle.table.specs.declared.words.Term.{Term}
use Rattle.table.specs.Terms.{terms, term_at, sort_at}
use Rattle.table.specs.Faults.{is_variable}
use Rattle.table.specs.WellFormed.{WellFormed}
use Rattle.table.proofs.Searches.{First, first_is}
use Rattle.table.proofs.Admitted.{slots_have_one_use}
use Rattle.printer.specs.Scripts.Command.{declare}
use Rattle.printer.specs.Printed.{uses, first_use, declaration}
use Rattle.printer.specs.Sharing.{UsedOnce}

-- a use is a variable with the slot
pub use_parts : (x : Term) (s : ℕ) → uses x s ≡ true → (is_variable x ≡ true) × (x.p ≡ s)
use_parts x s h =
    let parts = and_parts (is_variable x) (eqb x.p s) h in
    (parts.0, eqb-true x.p s parts.1)

pub use_of : (x : Term) (s : ℕ) → is_variable x ≡ true → x.p ≡ s → uses x s ≡ true
use_of x s v e = ap₂ ◌&&◌ v (eq-eqb x.p s e)

-- a slot that is used, and where first; a slot that no term uses
pub record Used (t : List ℕ) (s : ℕ) : Type 0 where
  pub inside : first_use t s < terms t
  pub used : uses (term_at t (first_use t s)) s ≡ true

abbrev pub Unused : List ℕ → ℕ → Type 0
Unused t s = (k : ℕ) → k < terms t → uses (term_at t k) s ≡ false

module _ (t : List ℕ) (s : ℕ) where
  -- the first use is the first of the terms that use the slot, or past them
  first : First (λ k. uses (term_at t k) s) (terms t) (first_use t s)
  unfolding first_use
  first = first_is (λ k. uses (term_at t k) s) (terms t) (first_use t s) refl

  -- a slot is used or not
  pub used_or-not : Used t s ⊎ Unused t s
  used_or-not = go (dec_lt (first_use t s) (terms t))
    where
      go : Dec (first_use t s < terms t) → Used t s ⊎ Unused t s
      go (yes b) = inl (record { inside = b; used = first.found b })
      go (no b) = inr (λ k h. first.before k (omega arith))

  -- a slot that a term uses is used
  use_known : (k : ℕ) → k < terms t → uses (term_at t k) s ≡ true → Used t s
  use_known k h u = go used_or-not
    where
      go : Used t s ⊎ Unused t s → Used t s
      go (inl here) = here
      go (inr none) = never (sym (none k h) ∙ u)

  -- where no slot is used twice, the first use is the only one
  pub only_use : UsedOnce t → (k : ℕ) → k < terms t → uses (term_at t k) s ≡ true → first_use t s ≡ k
  only_use once k h u =
      let here = use_known k h u in
      once s (first_use t s) k here.inside h here.used u

  -- a slot that is not used is not declared
  pub undeclared : Unused t s → declaration t s ≡ []
  unfolding declaration
  undeclared none = rw (eq-eqb (first_use t s) (terms t) (go (dec_lt (first_use t s) (terms t))))
    where
      go : Dec (first_use t s < terms t) → first_use t s ≡ terms t
      go (yes b) = never (sym (none (first_use t s) b) ∙ first.found b)
      go (no b) = omega (arith, first.within)

  -- a slot is declared with the sort of any term that uses it
  pub declared : {limit : ℕ} → WellFormed limit t → (k : ℕ) → k < terms t → uses (term_at t k) s ≡ true → declaration t s ≡ declare s (sort_at t k) ∷ []
  unfolding declaration
  declared {limit} w k h u =
      let here = use_known k h u in
      let j = first_use t s in
      let (v, p) = use_parts (term_at t j) s here.used in
      let (v', p') = use_parts (term_at t k) s u in
      let same : sort_at t j ≡ sort_at t k = (slots_have_one_use limit t w j k here.inside h v v' (p ∙ sym p')).0 in
      ap (λ (b : Bool). cond b [] (declare s (sort_at t j) ∷ [])) (ne_eqb j (terms t) (λ e. omega (arith, here.inside)))
      ∙ ap (λ (sort : Sort). declare s sort ∷ []) same
