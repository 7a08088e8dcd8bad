-- The latest array variable of each slot, term by term.
-- Assumes nothing.
use mathlib.Core.Path.{◌≡◌, refl, sym, ap, ◌∙◌}
use mathlib.Core.Bool.{Bool, true, false, cond, ◌&&◌}
use mathlib.Core.List.{List}
use Prim.Native.Nat.{ℕ, zero, suc, ◌+◌, ◌-◌, ◌≤◌, ◌<◌}
use native.Mathlib.Decide.{ℕ_discrete}
use native.Mathlib.Numerals.{add-one}
use native.Mathlib.Omega.{arith}
use lib.Dec.{eqb, leb}
use lib.ListN.{get_or, set, replicate, length-set, get_or-replicate}
use lib.Seq.{get_or-set_same, get_or-set_other}
use borrow.Author.Tests.{eqb-true, eq-eqb, ne_eqb, leb-true}
use Rattle.ops.proofs.Booleans.{and_parts, and_shut}
use Rattle.table.specs.declared.words.Sort.{Sort}
use Rattle.table.specs.declared.words.Term.{Term}
use Rattle.table.specs.Terms.{terms, term_at, sort_at, array}
use Rattle.table.specs.Faults.{is_variable}
use Rattle.table.specs.WellFormed.{WellFormed}
use Rattle.table.proofs.Admitted.{slots_have_one_use}
use Rattle.setting.specs.Arrays.{array_variable, array_entry, entry_sort, slot_sort}
use Rattle.setting.specs.Code.Entries.{Entries}

-- one term more

entry_passed : (w : List ℕ) (i slot : ℕ) → array_variable (term_at w i) ≡ false → array_entry w (i + 1) slot ≡ array_entry w i slot
unfolding array_entry
entry_passed w i slot e = rw (add-one, e)

entry_here : (w : List ℕ) (i slot : ℕ) → array_variable (term_at w i) ≡ true → (term_at w i).p ≡ slot → array_entry w (i + 1) slot ≡ i + 1
unfolding array_entry
entry_here w i slot e s = rw (add-one, e, eq-eqb (term_at w i).p slot s)

entry_other : (w : List ℕ) (i slot : ℕ) → (slot ≡ (term_at w i).p → ⊥) → array_entry w (i + 1) slot ≡ array_entry w i slot
unfolding array_entry
entry_other w i slot s = rw (add-one, ne_eqb (term_at w i).p slot (λ e. s (sym e)), and_shut (array_variable (term_at w i)))

-- an array variable's slot is at most 255
low : (x : Term) → array_variable x ≡ true → x.p ≤ 255
low x e = leb-true x.p 255 (and_parts (is_variable x && array x.sort) (leb x.p 255) e).1

pub none_yet : (w : List ℕ) → Entries w 0 (replicate 256 0)
unfolding array_entry
none_yet w = record { size = refl; is = λ slot b. get_or-replicate 256 slot 0 0 b }

module _ (w : List ℕ) (i : ℕ) (l : List ℕ) (h : Entries w i l) (x : Term) (here : x ≡ term_at w i) where
  pub passed : array_variable x ≡ false → Entries w (i + 1) l
  passed e =
      record {
        size = h.size;
        is = λ slot b. h.is slot b ∙ sym (entry_passed w i slot (ap array_variable (sym here) ∙ e));
      }

  pub low_slot : array_variable x ≡ true → x.p < 256
  low_slot e = let b : x.p ≤ 255 = low x e in omega arith

  pub noted : array_variable x ≡ true → Entries w (i + 1) (set l x.p (i + 1))
  noted e = record { size = length-set l x.p (i + 1) ∙ h.size; is = λ slot b. go slot b (ℕ_discrete slot x.p) }
    where
      go : (slot : ℕ) → slot < 256 → Dec (slot ≡ x.p) → get_or (set l x.p (i + 1)) slot 0 ≡ array_entry w (i + 1) slot
      go slot b (yes s) =
          ap (λ (k : ℕ). get_or (set l x.p (i + 1)) k 0) s
          ∙ get_or-set_same l x.p (i + 1) 0 (omega (arith, h.size, low_slot e))
          ∙ sym (entry_here w i slot (ap array_variable (sym here) ∙ e) (sym (ap (λ (y : Term). y.p) here) ∙ sym s))
      go slot b (no s) =
          get_or-set_other l x.p slot (i + 1) 0 s
          ∙ h.is slot b
          ∙ sym (entry_other w i slot (λ t. s (t ∙ sym (ap (λ (y : Term). y.p) here))))

-- the sort of a slot

pub entry_past : (w : List ℕ) (k slot : ℕ) → 256 ≤ slot → array_entry w k slot ≡ 0
unfolding array_entry
entry_past w zero slot b = refl
entry_past w (suc k) slot b = go (array_variable (term_at w k) && eqb (term_at w k).p slot) refl (entry_past w k slot b)
  where
    go : (c : Bool) → array_variable (term_at w k) && eqb (term_at w k).p slot ≡ c → array_entry w k slot ≡ 0 → cond c (suc k) (array_entry w k slot) ≡ 0
    go true e q =
        let parts = and_parts (array_variable (term_at w k)) (eqb (term_at w k).p slot) e in
        absurd (omega (arith, low (term_at w k) parts.0, eqb-true (term_at w k).p slot parts.1))
    go false e q = q

pub sort_past : (w : List ℕ) (slot : ℕ) → 256 ≤ slot → ◌≡◌ {A = Sort} (record { m = 0; n = 0 }) (slot_sort w slot)
unfolding slot_sort
sort_past w slot b = rw (entry_past w (terms w) slot b)

pub sort_none : (w : List ℕ) (slot entry : ℕ) → entry ≡ array_entry w (terms w) slot → entry ≡ 0 → ◌≡◌ {A = Sort} (record { m = 0; n = 0 }) (slot_sort w slot)
unfolding slot_sort
sort_none w slot entry e z = ap (entry_sort w) (sym z ∙ e)

pub sort_some : (w : List ℕ) (slot entry : ℕ) → entry ≡ array_entry w (terms w) slot → (entry ≡ 0 → ⊥) → sort_at w (entry - 1) ≡ slot_sort w slot
unfolding slot_sort
sort_some w slot entry e z = go entry refl
  where
    go : (n : ℕ) → entry ≡ n → sort_at w (entry - 1) ≡ entry_sort w (array_entry w (terms w) slot)
    go zero s = absurd (z s)
    go (suc n) s =
        let one : entry - 1 ≡ n = omega arith in
        ap (sort_at w) one ∙ sym (ap (entry_sort w) (sym e ∙ s))

-- In a well-formed table it is the sort of every array variable of the slot

-- an entry is one of the first k terms, an array variable of the slot
record Entry (w : List ℕ) (k slot entry : ℕ) : Type 0 where
  term : ℕ
  is : entry ≡ suc term
  below : term < k
  claims : array_variable (term_at w term) ≡ true
  slot_is : (term_at w term).p ≡ slot

entry_found : (w : List ℕ) (k slot j : ℕ) → j < k → array_variable (term_at w j) ≡ true → (term_at w j).p ≡ slot → Entry w k slot (array_entry w k slot)
unfolding array_entry
entry_found w zero slot j b e s = absurd (omega arith)
entry_found w (suc k) slot j b e s = go (array_variable (term_at w k) && eqb (term_at w k).p slot) refl (ℕ_discrete j k) (λ c. entry_found w k slot j c e s)
  where
    go : (c : Bool) → array_variable (term_at w k) && eqb (term_at w k).p slot ≡ c → Dec (j ≡ k) → (j < k → Entry w k slot (array_entry w k slot)) → Entry w (suc k) slot (cond c (suc k) (array_entry w k slot))
    go true c d before =
        let parts = and_parts (array_variable (term_at w k)) (eqb (term_at w k).p slot) c in
        record { term = k; is = refl; below = omega arith; claims = parts.0; slot_is = eqb-true (term_at w k).p slot parts.1 }
    go false c (yes d) before =
        let here : array_variable (term_at w k) && eqb (term_at w k).p slot ≡ true = ap (λ (i : ℕ). array_variable (term_at w i) && eqb (term_at w i).p slot) (sym d) ∙ rw (e, eq-eqb (term_at w j).p slot s) in
        absurd (Rattle.ops.proofs.Booleans.never (sym c ∙ here))
    go false c (no d) before =
        let found = before (omega arith) in
        let b : found.term < k = found.below in
        record { term = found.term; is = found.is; below = omega arith; claims = found.claims; slot_is = found.slot_is }

pub slot_sort_is : (limit : ℕ) (w : List ℕ) → WellFormed limit w → (j : ℕ) → j < terms w → array_variable (term_at w j) ≡ true → slot_sort w (term_at w j).p ≡ sort_at w j
unfolding slot_sort
slot_sort_is limit w f j b e =
    let found = entry_found w (terms w) (term_at w j).p j b e refl in
    let var : (x : Term) → array_variable x ≡ true → is_variable x ≡ true = λ x a. (and_parts (is_variable x) (array x.sort) (and_parts (is_variable x && array x.sort) (leb x.p 255) a).0).0 in
    ap (entry_sort w) found.is
    ∙ (slots_have_one_use limit w f found.term j found.below b (var (term_at w found.term) found.claims) (var (term_at w j) e) found.slot_is).0
