-- The scan of the terms with the first clash known: what the code computes of a term is the definition's.
-- Assumes nothing.
use mathlib.Core.Path.{◌≡◌, refl, sym, ap, ◌∙◌}
use mathlib.Core.Bool.{Bool, true, false, not, ◌&&◌}
use mathlib.Core.List.{List}
use Prim.Native.Nat.{ℕ, suc, ◌+◌, ◌≤◌, ◌<◌}
use native.Mathlib.Decide.{ℕ_discrete}
use native.Mathlib.Omega.{arith}
use lib.Dec.{eqb, leb}
use borrow.Author.Tests.{eq-eqb, ne_eqb}
use Rattle.ops.proofs.Booleans.{never, and_parts}
use Rattle.table.specs.declared.words.Term.{Term}
use Rattle.ops.specs.declared.Op.{Op}
use Rattle.ops.specs.declared.Op.TheVariants.{Constant, Variable, Apply, Ite, Select, Store, Unknown}
use Rattle.ops.specs.Numbers.{op_of}
use Rattle.table.specs.Terms.{term_at}
use Rattle.table.specs.Ranks.{rank_of, fields_of, slotted}
use Rattle.table.specs.Faults.{fields, known, sorted, placed_as, typed, is_variable, valued_as, conflicts, clash, size, refuse_unless, fault_if, fault}
use Rattle.table.specs.Code.Clashes.{slot_clash, first_clash}
use Rattle.table.specs.Folds.{any_below}
use Rattle.table.specs.Answers.{Acceptance}
use Rattle.table.proofs.Searches.{First, first_is}
use Rattle.table.proofs.Scans.{Scanned, begun, on}

pub slot-valued : (op : Op) (x : Term) → slotted op ≡ true → valued_as (fields_of (rank_of op)) x ≡ leb x.p 255 && leb x.q 1
slot-valued Constant x e = never e
slot-valued Variable x e = refl
slot-valued (Apply f) x e = never e
slot-valued Ite x e = never e
slot-valued Select x e = never e
slot-valued Store x e = never e
slot-valued Unknown x e = never e

-- what a test has cut off does not count
cut : (number : ℕ) (ok : Bool) (a b : ℕ) → (ok ≡ true → a ≡ b) → refuse_unless number ok a ≡ refuse_unless number ok b
cut number true a b h = h refl
cut number false a b h = refl

pub refuse_zero : (n : ℕ) (ok : Bool) (rest : ℕ) → refuse_unless (suc n) ok rest ≡ 0 → (ok ≡ true) × (rest ≡ 0)
refuse_zero n true rest h = (refl, h)
refuse_zero n false rest h = absurd (omega arith)

-- a clash refuses, whatever else there is
clash-refuses : (t : List ℕ) (i : ℕ) → fault_if t i true ≡ 0 → ⊥
unfolding fault_if
clash-refuses t i h =
    let x = term_at t i in
    let after-7 : ℕ = refuse_unless 7 (valued_as (fields x) x) 8 in
    let after-6 : ℕ = refuse_unless 6 (typed t x) after-7 in
    let after-5 : ℕ = refuse_unless 5 (placed_as (fields x) i x) after-6 in
    let after_4 : ℕ = refuse_unless 4 (sorted x.sort) after-5 in
    let z3 = refuse_zero 2 (known x) after_4 h in
    let z4 = refuse_zero 3 (sorted x.sort) after-5 z3.1 in
    let z5 = refuse_zero 4 (placed_as (fields x) i x) after-6 z4.1 in
    let z6 = refuse_zero 5 (typed t x) after-7 z5.1 in
    let z : ◌≡◌ {A = ℕ} 8 0 = (refuse_zero 6 (valued_as (fields x) x) 8 z6.1).1 in
    omega arith

-- where the slot is over 255, 7 comes first
without_low : (v low any b : Bool) → v && low && (v && any) ≡ b → (v ≡ true → low ≡ true) → v && any ≡ b
without_low true low any b e h = rw (h refl) at e
without_low false low any b e h = e

module _ (t : List ℕ) (i : ℕ) where
  clash_of : (b : Bool) → slot_clash t i ≡ b → valued_as (fields (term_at t i)) (term_at t i) ≡ true → clash t i ≡ b
  unfolding clash
  clash_of b e ok =
      let x = term_at t i in
      without_low (is_variable x) (leb x.p 255) (any_below i (λ k. is_variable (term_at t k) && conflicts (term_at t k) x)) b e
      (λ v. (and_parts (leb x.p 255) (leb x.q 1) (sym (slot-valued (op_of x.op) x v) ∙ ok)).0)

  fault_of_lem : (b : Bool) → slot_clash t i ≡ b → fault_if t i b ≡ fault t i
  unfolding fault_if fault
  fault_of_lem b e =
      let x = term_at t i in
      ap (λ (rest : ℕ). refuse_unless 3 (known x) (refuse_unless 4 (sorted x.sort) (refuse_unless 5 (placed_as (fields x) i x) (refuse_unless 6 (typed t x) rest))))
      (cut 7 (valued_as (fields x) x) _ _ (λ ok. ap (λ (c : Bool). refuse_unless 8 (not c) (refuse_unless 9 (leb (size t i) 16) 0)) (sym (clash_of b e ok))))

  module _ (n first : ℕ) (h : First (slot_clash t) n first) (inside : i < n) (reached : i ≤ first) where
    -- what the code computes of term i is the definition's
    fault-here : fault_if t i (eqb i first) ≡ fault t i
    fault-here = go (ℕ_discrete i first)
      where
        go : Dec (i ≡ first) → fault_if t i (eqb i first) ≡ fault t i
        go (yes e) = rw (eq-eqb i first e) (fault_of_lem true (ap (slot_clash t) e ∙ h.found (omega arith)))
        go (no e) = rw (ne_eqb i first e) (fault_of_lem false (h.before i (omega arith)))

    -- no fault: the first clash is further on
    reached_on : fault_if t i (eqb i first) ≡ 0 → i + 1 ≤ first
    reached_on z = go (ℕ_discrete i first)
      where
        go : Dec (i ≡ first) → i + 1 ≤ first
        go (yes e) = absurd (clash-refuses t i (rw (eq-eqb i first e) at z))
        go (no e) = omega arith

-- The scan has come to term i, and not past the first clash
pub record Reached (t : List ℕ) (n first : ℕ) (rest : Acceptance) (i : ℕ) : Type 0 where
  pub scanned : Scanned (fault t) n rest i
  pub reached : i ≤ first

module _ (t : List ℕ) (n first : ℕ) (rest : Acceptance) where
  pub begun-reached : Reached t n first rest 0
  begun-reached = record { scanned = begun (fault t) n rest; reached = omega arith }

  module _ (i : ℕ) (h : Reached t n first rest i) (c : first ≡ first_clash t n) (inside : i < n) (f : ℕ) (e : f ≡ fault_if t i (eqb i first)) where
    is-first : First (slot_clash t) n first
    is-first = first_is (slot_clash t) n first c

    pub here : f ≡ fault t i
    here = e ∙ fault-here t i n first is-first inside h.reached

    pub on_reached : f ≡ 0 → Reached t n first rest (i + 1)
    on_reached z =
        record {
          scanned = on (fault t) n rest i h.scanned inside f here z;
          reached = reached_on t i n first is-first inside h.reached (sym e ∙ z);
        }
