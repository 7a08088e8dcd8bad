-- A rule of many declarations is refused by 7 at the first variable whose slot is over 255.
-- Assumes nothing.
use mathlib.Core.Path.{◌≡◌, refl, sym, ap, ◌∙◌, subst}
use mathlib.Core.Bool.{true, false, ◌&&◌}
use mathlib.Core.List.{List, [], ◌∷◌}
use Prim.Native.Nat.{ℕ, zero, suc, pred, ◌+◌, ◌*◌, ◌/◌, ◌%◌, ◌≤◌, ◌<◌}
use native.Mathlib.Nat.{mul-mod_left, mul-div_cancel}
use native.Mathlib.Numerals.{add-one}
use native.Mathlib.Omega.{arith}
use lib.Dec.{leb}
use lib.ListN.{length, get_or}
use borrow.Author.Tests.{le-leb, lt-leb, ne_eqb, le-ltb}
use Rattle.table.specs.declared.words.Term.{Term}
use Rattle.table.specs.Terms.{terms, term_at}
use Rattle.table.specs.Faults.{is_store, fields, typed, valued_as, is_choice, refuse_unless, fault}
use Rattle.table.specs.Admission.{refused, scan, ended, admission_within, admission}
use Rattle.table.proofs.Scans.{Scanned}
use Rattle.table.proofs.Sizes.{size_none}
use Rattle.table.proofs.Scans as scans
use Rattle.parser.specs.Words.{marked}
use Rattle.parser.specs.Expressions.{constant_term}
use Rattle.parser.specs.Rules.{variable_term}
use Rattle.parser.specs.Grammar.{Declared}
use Rattle.parser.specs.Trees.{variables}
use Rattle.parser.specs.Laws.{numbers_of}
use Rattle.meanings.proofs.NumbersTables.{same-term, Clean}
use Rattle.meanings.proofs.Numbers.{fault_is}
use Rattle.meanings.proofs.NumbersMany.{booleans}

-- Terms of a row

pub numbers_at : (xs : List Term) (k : ℕ) → k < length xs → term_at (numbers_of xs) k ≡ get_or xs k (constant_term 0 0)
unfolding numbers_of
numbers_at [] k h = absurd (omega arith)
numbers_at (x ∷ xs) zero h = refl
numbers_at (x ∷ xs) (suc k) h =
    same-term (numbers_of (x ∷ xs)) (numbers_of xs) (suc k) k
    (λ i b. let e : suc k * 6 + i ≡ suc (suc (suc (suc (suc (suc (k * 6 + i)))))) = omega arith in ap (λ (j : ℕ). get_or (numbers_of (x ∷ xs)) j 0) e)
    ∙ numbers_at xs k (omega arith)

pub variables_at : (ds : List Declared) (i n k j : ℕ) → j < n
    → get_or (variables ds i (booleans n k)) j (constant_term 0 0) ≡ variable_term 0 0 (i + j) false
unfolding variables marked
variables_at ds i zero k j h = absurd (omega arith)
variables_at ds i (suc n) k zero h = let e : i ≡ i + 0 = omega arith in ap (λ (s : ℕ). variable_term 0 0 s false) e
variables_at ds i (suc n) k (suc j) h =
    let e : suc i + j ≡ i + suc j = omega arith in
    variables_at ds (suc i) n (suc k) j (omega arith) ∙ ap (λ (s : ℕ). variable_term 0 0 s false) e

-- Their faults

module _ (t : List ℕ) (clean : (k : ℕ) → Clean k (term_at t k)) where
  module _ (k : ℕ) (e : term_at t k ≡ variable_term 0 0 k false) where
    typed_is : typed t (term_at t k) ≡ true
    unfolding typed
    typed_is = ap (typed t) e

    valued_is : valued_as (fields (term_at t k)) (term_at t k) ≡ leb k 255 && true
    valued_is = ap (λ (x : Term). valued_as (fields x) x) e

    variable_fault_lem : fault t k ≡ refuse_unless 7 (leb k 255 && true) 0
    variable_fault_lem = fault_is t clean k ∙ rw (typed_is, valued_is, size_none 16 t k (ap (λ (x : Term). is_store x) e) (ap (λ (x : Term). is_choice x) e))

    slot-fits : k ≤ 255 → fault t k ≡ 0
    slot-fits h = variable_fault_lem ∙ rw (le-leb k 255 h)

    slot_over : 255 < k → fault t k ≡ 7
    slot_over h = variable_fault_lem ∙ rw (lt-leb k 255 h)

  -- a table of c terms, of which the first 257 are variables
  module _ (c : ℕ) (long : length t ≡ c * 6) (many : 256 < c) (few : c ≤ 512)
      (first : (k : ℕ) → k ≤ 256 → term_at t k ≡ variable_term 0 0 k false) where
    terms_are : terms t ≡ c
    terms_are = ap (λ (n : ℕ). n / 6) long ∙ mul-div_cancel c (omega arith)

    scanned : (i : ℕ) → i ≤ 256 → Scanned (fault t) c (ended t (pred (terms t))) i
    scanned zero h = scans.begun (fault t) c (ended t (pred (terms t)))
    scanned (suc i) h =
        let z = slot-fits i (first i (omega arith)) (omega arith) in
        subst (Scanned (fault t) c (ended t (pred (terms t)))) (add-one i)
        (scans.on (fault t) c (ended t (pred (terms t))) i (scanned i (omega arith)) (omega arith) (fault t i) refl z)

    pub slots_over : admission t ≡ refused 7 256
    unfolding admission_within
    slots_over =
        let over = slot_over 256 (first 256 (omega arith)) (omega arith) in
        let stop = scans.stop (fault t) c (ended t (pred (terms t))) 256 (scanned 256 (omega arith)) (omega arith) 7 (sym over) (λ z. omega arith) in
        rw (ne_eqb (length t) 0 (λ e. omega arith), ap (λ (n : ℕ). n % 6) long ∙ mul-mod_left c 6, le-ltb 512 (terms t) (omega (arith, terms_are)))
        (ap (λ (n : ℕ). scan (fault t) n 0 (ended t (pred (terms t)))) terms_are ∙ sym stop)
