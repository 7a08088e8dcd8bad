-- A setting is refused for the finished table as it is for the table.
-- Assumes nothing.
use mathlib.Core.Path.{◌≡◌, refl, ap, ap₂, ◌∙◌}
use mathlib.Core.Bool.{Bool, true, false, cond, not, ◌&&◌}
use mathlib.Core.List.{List}
use Prim.Native.Nat.{ℕ, zero, suc, ◌+◌, ◌-◌, ◌%◌, ◌≤◌, ◌<◌}
use native.Mathlib.Nat.{zero-add, suc-add, add-zero, add-suc, le_refl}
use native.Mathlib.Omega.{arith}
use lib.Dec.{eqb}
use lib.ListN.{length}
use Rattle.ops.specs.Fits.{fits}
use Rattle.table.specs.declared.words.Sort.{Sort}
use Rattle.table.specs.declared.words.Term.{Term}
use Rattle.table.specs.Answers.{Acceptance, accepted}
use Rattle.table.specs.Terms.{terms, term_at, array}
use Rattle.table.specs.Faults.{is_variable, refuse_unless}
use Rattle.table.specs.Admission.{refused, refused_by, scan}
use Rattle.table.specs.WellFormed.{WellFormed}
use Rattle.setting.specs.declared.cells.Cell.{Cell}
use Rattle.setting.specs.Cells.{cell_at, cell_count}
use Rattle.setting.specs.Arrays.{array_variable, array_entry, entry_sort, slot_sort}
use Rattle.setting.specs.Check.{variable_fault, cell_fault, check}
use Rattle.finish.specs.Finished.{added}
use Rattle.finish.proofs.Layouts.{Layout}
use Rattle.finish.proofs.AddedKinds.{no_inputs}

-- A scan that finds no fault past the first n is that of the first n

module _ (faults faults' : ℕ → ℕ) (rest : Acceptance) where
  scan-none : (left at : ℕ) → ((k : ℕ) → at ≤ k → k < at + left → faults k ≡ 0) → scan faults left at rest ≡ rest
  unfolding scan
  scan-none zero at h = refl
  scan-none (suc left) at h = rw (h at (omega arith) (omega arith)) (scan-none left (suc at) (λ k b c. h k (omega arith) (omega arith)))

  scan_front : (n more at : ℕ) → ((k : ℕ) → k < at + n → faults k ≡ faults' k) → ((k : ℕ) → at + n ≤ k → k < at + n + more → faults k ≡ 0)
      → scan faults (n + more) at rest ≡ scan faults' n at rest
  unfolding scan
  scan_front zero more at same none = rw zero-add (scan-none more at (λ k b c. none k (omega arith) (omega arith)))
  scan_front (suc n) more at same none =
      rw (suc-add, same at (omega arith))
      (ap (refused_by (faults' at) at) (scan_front n more (suc at) (λ k b. same k (omega arith)) (λ k b c. none k (omega arith) (omega arith))))

-- What is no variable is refused nothing and has no slot

no-variable_fault : (values : List ℕ) (x : Term) → is_variable x ≡ false → variable_fault values x ≡ 0
no-variable_fault values x v = rw v

entry_within : (w : List ℕ) (slot k : ℕ) → array_entry w k slot ≤ k
unfolding array_entry
entry_within w slot zero = omega arith
entry_within w slot (suc k) = go (array_variable (term_at w k) && eqb (term_at w k).p slot) (entry_within w slot k)
  where
    go : (z : Bool) → array_entry w k slot ≤ k → cond z (suc k) (array_entry w k slot) ≤ suc k
    go true before = omega arith
    go false before = omega arith

module _ (w f : List ℕ) (l : Layout w f) where
  added_no_variable : (k : ℕ) → terms w ≤ k → k < terms f → is_variable (term_at f k) ≡ false
  added_no_variable k b c =
      let here : k ≡ terms w + (k - terms w) = omega arith in
      let count : terms f ≡ terms w + length (added w) = l.count in
      let inside : k - terms w < length (added w) = omega arith in
      ap (λ (i : ℕ). is_variable (term_at f i)) here ∙ ap is_variable (l.has (k - terms w) inside) ∙ (no_inputs w (k - terms w) inside).0

  variables-same : (values : List ℕ) (rest : Acceptance) → scan (λ k. variable_fault values (term_at f k)) (terms f) 0 rest ≡ scan (λ k. variable_fault values (term_at w k)) (terms w) 0 rest
  variables-same values rest =
      let faults : ℕ → ℕ = λ k. variable_fault values (term_at f k) in
      let count : terms f ≡ terms w + length (added w) = l.count in
      ap (λ (n : ℕ). scan faults n 0 rest) l.count
      ∙ scan_front faults (λ k. variable_fault values (term_at w k)) rest (terms w) (length (added w)) 0
      (λ k b. ap (variable_fault values) (l.old k (omega arith)))
      (λ k b c. no-variable_fault values (term_at f k) (added_no_variable k (omega arith) (omega arith)))

  -- the entries are those of the table
  entry_old : (slot k : ℕ) → k ≤ terms w → array_entry f k slot ≡ array_entry w k slot
  unfolding array_entry
  entry_old slot zero b = refl
  entry_old slot (suc k) b =
      ap₂ (λ (x : Term) (e : ℕ). cond (array_variable x && eqb x.p slot) (suc k) e) (l.old k (omega arith)) (entry_old slot k (omega arith))

  entry_added : (slot more : ℕ) → terms w + more ≤ terms f → array_entry f (terms w + more) slot ≡ array_entry w (terms w) slot
  unfolding array_entry
  entry_added slot zero b = ap (λ (n : ℕ). array_entry f n slot) (add-zero (terms w)) ∙ entry_old slot (terms w) (le_refl (terms w))
  entry_added slot (suc more) b =
      ap (λ (n : ℕ). array_entry f n slot) (add-suc (terms w) more)
      ∙ rw (added_no_variable (terms w + more) (omega arith) (omega arith)) (entry_added slot more (omega arith))

  sort_same : (entry : ℕ) → entry ≤ terms w → entry_sort f entry ≡ entry_sort w entry
  sort_same zero b = refl
  sort_same (suc k) b = ap (λ (x : Term). x.sort) (l.old k b)

  slot_same : (slot : ℕ) → slot_sort f slot ≡ slot_sort w slot
  unfolding slot_sort
  slot_same slot =
      let count : terms f ≡ terms w + length (added w) = l.count in
      ap (entry_sort f) (ap (λ (n : ℕ). array_entry f n slot) count ∙ entry_added slot (length (added w)) (omega arith))
      ∙ sort_same (array_entry w (terms w) slot) (entry_within w slot (terms w))

  cells_same : (c : Cell) → cell_fault f c ≡ cell_fault w c
  cells_same c = ap (λ (s : Sort). refuse_unless 14 (array s) (refuse_unless 15 (fits s.m c.index && fits s.n c.value) 0)) (slot_same c.slot)

-- variables as those of the table, cells by the sorts of its slots
pub check-same : (w f values cells : List ℕ) → WellFormed 512 w → Layout w f → check f values cells ≡ check w values cells
unfolding check
check-same w f values cells wf l =
    ap (cond (not (eqb (length cells % 3) 0)) (refused 11 0))
    (variables-same w f l values (scan (λ k. cell_fault f (cell_at cells k)) (cell_count cells) 0 accepted)
    ∙ λ i. scan (λ k. variable_fault values (term_at w k)) (terms w) 0 (scan (λ k. cells_same w f l (cell_at cells k) i) (cell_count cells) 0 accepted))
