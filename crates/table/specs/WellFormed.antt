-- What an admitted table satisfies: the record that the other routines rest on.
-- Assumes nothing.
use Rattle.std.specs.Prelude.{◌≡◌, true, false, List, ℕ, zero, suc, pred, ◌+◌, ◌*◌, ◌≤◌, ◌<◌, length}
use Rattle.table.specs.Terms.{words, terms, term_at, sort_at, boolean, array}
use Rattle.table.specs.Faults.{fields, is_variable, is_store, is_choice, known, sorted, placed_as, typed, valued_as, clash, size}
use Rattle.table.specs.Admission.{admission_within}
use Rattle.table.specs.Answers.{accepted}

-- Of term k: an op up to 20; one of the three sorts; operands below and unused fields 0; sorts as the op's line asks;
-- a constant that fits, a slot up to 255 and a mark up to 1; no clash; a size of at most 16.
pub record Sound (t : List ℕ) (k : ℕ) : Type 0 where
  pub is_known : known (term_at t k) ≡ true
  pub is_sorted : sorted (sort_at t k) ≡ true
  pub is_placed : placed_as (fields (term_at t k)) k (term_at t k) ≡ true
  pub is_typed : typed t (term_at t k) ≡ true
  pub is_valued : valued_as (fields (term_at t k)) (term_at t k) ≡ true
  pub no-clash : clash t k ≡ false
  pub short : size t k ≤ 16

-- Of a table: at least one term and at most limit, whole; each of them sound; the last one Boolean.
pub record WellFormed (limit : ℕ) (t : List ℕ) : Type 0 where
  pub some : 0 < terms t
  pub whole : length t ≡ terms t * words
  pub few : terms t ≤ limit
  pub sound : (k : ℕ) → k < terms t → Sound t k
  pub rule : boolean (sort_at t (pred (terms t))) ≡ true

-- A slot is used with one sort and one mark.
abbrev pub OneUse : List ℕ → Type 0
OneUse t =
    (j k : ℕ) → j < terms t → k < terms t → is_variable (term_at t j) ≡ true → is_variable (term_at t k) ≡ true → (term_at t j).p ≡ (term_at t k).p
    → (sort_at t j ≡ sort_at t k) × ((term_at t j).q ≡ (term_at t k).q)

-- The theorems: just the well-formed tables are admitted, and they use each slot with one sort and mark.
abbrev pub AdmissionSound : Type 0
AdmissionSound = (limit : ℕ) (t : List ℕ) → admission_within limit t ≡ accepted → WellFormed limit t

abbrev pub AdmissionComplete : Type 0
AdmissionComplete = (limit : ℕ) (t : List ℕ) → WellFormed limit t → admission_within limit t ≡ accepted

abbrev pub SlotsHaveOneUse : Type 0
SlotsHaveOneUse = (limit : ℕ) (t : List ℕ) → WellFormed limit t → OneUse t

-- An array term is a tree of stores and choices over variables, each of its sort and over earlier terms; its size counts the stores and the choices.
pub data Tree (t : List ℕ) : ℕ → ℕ → Type 0 where
  variable : {k : ℕ} → is_variable (term_at t k) ≡ true → Tree t k zero
  store : {k n : ℕ} → is_store (term_at t k) ≡ true → (term_at t k).p < k → sort_at t (term_at t k).p ≡ sort_at t k → Tree t (term_at t k).p n → Tree t k (suc n)
  choice : {k m n : ℕ} → is_choice (term_at t k) ≡ true → (term_at t k).q < k → (term_at t k).r < k → sort_at t (term_at t k).q ≡ sort_at t k → sort_at t (term_at t k).r ≡ sort_at t k
      → Tree t (term_at t k).q m → Tree t (term_at t k).r n → Tree t k (suc (m + n))

-- Of an array term, its size: the tree's, at most 16.
pub record SmallTree (t : List ℕ) (k : ℕ) : Type 0 where
  pub tree : Tree t k (size t k)
  pub small : size t k ≤ 16

abbrev pub ArrayTerms : Type 0
ArrayTerms = (limit : ℕ) (t : List ℕ) → WellFormed limit t → (k : ℕ) → k < terms t → array (sort_at t k) ≡ true → SmallTree t k
