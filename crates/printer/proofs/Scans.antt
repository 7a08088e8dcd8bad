-- Looking for the first variable of a slot.
-- Assumes nothing.
use mathlib.Core.Path.{◌≡◌, refl, sym, ap, ap₂, subst, ◌∙◌}
use mathlib.Core.Bool.{Bool, true, false, cond, ◌&&◌}
use mathlib.Core.List.{List}
use Prim.Native.Nat.{ℕ, suc, ◌+◌, ◌-◌, ◌%◌, ◌≤◌, ◌<◌}
use native.Mathlib.Nat.{mod-eq_of_lt}
use native.Mathlib.Numerals.{add-one}
use native.Mathlib.Omega.{arith}
use lib.Dec.{eqb, ltb}
use lib.ListN.{length, get_or, set, length-set}
use lib.Seq.{get_or-set_same, get_or-set_other}
use borrow.Author.Tests.{ne_eqb, eqb-true, eqb-false, ltb-true, ltb-false}
use Rattle.table.specs.declared.words.Term.{Term}
use Rattle.table.specs.Terms.{term_at}
use Rattle.table.specs.Faults.{is_variable}
use Rattle.table.specs.Folds.{first_from}
use Rattle.ops.proofs.Booleans.{and_parts}
use Rattle.printer.specs.Printed.{uses}
use Rattle.printer.specs.Code.Slots.{slotted, FirstUses}

-- the first of left terms, from at on, that is a variable of slot s
abbrev pub found : List ℕ → ℕ → ℕ → ℕ → ℕ
found t s at left = first_from (λ k. uses (term_at t k) s) left at

-- the row has come to term n - i
pub record Looking (t : List ℕ) (n : ℕ) (row : List ℕ) (i : ℕ) : Type 0 where
  pub within : i ≤ n
  pub size : length row ≡ 256
  pub is : (s : ℕ) → s < 256 → get_or row s 0 ≡ found t s (n - i) i

module _ (t : List ℕ) (n : ℕ) where
  pub none_looked : (row : List ℕ) → length row ≡ 256 → ((s : ℕ) → s < 256 → get_or row s 0 ≡ n) → Looking t n row 0
  unfolding first_from
  none_looked row size is = record { within = omega arith; size = size; is = λ s h. omega (arith, is s h) }

  module _ (row : List ℕ) (i : ℕ) (was : Looking t n row i) (h : i < n) (k : ℕ) (here : k ≡ n - 1 - i) where
    turn : (s : ℕ) (b : Bool) → uses (term_at t k) s ≡ b → found t s (n - (i + 1)) (i + 1) ≡ cond b k (found t s (n - i) i)
    unfolding first_from
    turn s b e =
        let one : n - (i + 1) ≡ k = omega arith in
        let up : suc k ≡ n - i = omega arith in
        ap₂ (found t s) one (add-one i) ∙ ap (λ (c : Bool). cond c k (found t s (suc k) i)) e ∙ ap (λ (j : ℕ). cond b k (found t s j i)) up

    pub one_passed : (x : Term) → x ≡ term_at t k → slotted x ≡ false → Looking t n row (i + 1)
    one_passed x at-k e =
        record {
          within = omega arith;
          size = was.size;
          is = λ s low. was.is s low ∙ sym (turn s false (ap (λ (y : Term). uses y s) (sym at-k) ∙ unused (is_variable x) x.p s low e));
        }
      where
        unused : (v : Bool) (p s : ℕ) → s < 256 → v && ltb p 256 ≡ false → v && eqb p s ≡ false
        unused true p s low q = ne_eqb p s (λ same. omega (arith, ltb-false p 256 q))
        unused false p s low q = refl

    -- the slot's place is p % 256, p being below 256
    pub one_looked : (x : Term) → x ≡ term_at t k → slotted x ≡ true → Looking t n (set row (x.p % 256) k) (i + 1)
    one_looked x at-k e = subst (λ (j : ℕ). Looking t n (set row j k) (i + 1)) (sym (mod-eq_of_lt inside))
        (record {
          within = omega arith;
          size = length-set row x.p k ∙ was.size;
          is = λ s low. go s low (eqb x.p s) refl;
        })
      where
        is_variable_lem : is_variable x ≡ true
        is_variable_lem = (and_parts (is_variable x) (ltb x.p 256) e).0

        inside : x.p < 256
        inside = ltb-true x.p 256 (and_parts (is_variable x) (ltb x.p 256) e).1

        uses_is : (s : ℕ) (b : Bool) → eqb x.p s ≡ b → uses (term_at t k) s ≡ b
        uses_is s b q = ap (λ (y : Term). uses y s) (sym at-k) ∙ ap (λ (v : Bool). v && eqb x.p s) is_variable_lem ∙ q

        go : (s : ℕ) → s < 256 → (b : Bool) → eqb x.p s ≡ b → get_or (set row x.p k) s 0 ≡ found t s (n - (i + 1)) (i + 1)
        go s low true q = ap (λ (j : ℕ). get_or (set row x.p k) j 0) (sym (eqb-true x.p s q)) ∙ get_or-set_same row x.p k 0 (omega (arith, inside, was.size)) ∙ sym (turn s true (uses_is s true q))
        go s low false q = get_or-set_other row x.p s k 0 (λ same. eqb-false x.p s q (sym same)) ∙ was.is s low ∙ sym (turn s false (uses_is s false q))

  pub all_looked : (row : List ℕ) (i : ℕ) → Looking t n row i → n ≤ i → FirstUses t n row
  all_looked row i was end =
      let b : i ≤ n = was.within in
      let z : n - i ≡ 0 = omega arith in
      let e : i ≡ n = omega arith in
      record { size = was.size; is = λ s low. was.is s low ∙ ap₂ (found t s) z e }
