-- A setting that is not refused fits.
-- Assumes nothing.
use mathlib.Core.Path.{◌≡◌, ap, subst, ◌∙◌}
use mathlib.Core.Bool.{Bool, true, false, not, ◌&&◌, ◌||◌}
use mathlib.Core.List.{List}
use Prim.Native.Nat.{ℕ, ◌^◌, ◌%◌, ◌<◌}
use native.Mathlib.Omega.{arith}
use lib.Dec.{eqb, ltb}
use lib.ListN.{length, get_or}
use borrow.Author.Tests.{ltb-true, eqb-true, ne_eqb, le-leb}
use Rattle.ops.specs.Fits.{fits}
use Rattle.ops.proofs.Booleans.{never, and_parts}
use Rattle.table.specs.declared.words.Sort.{Sort}
use Rattle.table.specs.declared.words.Term.{Term}
use Rattle.table.specs.Terms.{terms, term_at, sort_at, array}
use Rattle.table.specs.Faults.{is_variable, refuse_unless}
use Rattle.table.specs.Admission.{scan}
use Rattle.table.specs.WellFormed.{WellFormed}
use Rattle.table.proofs.Admitted.{cond_admitted}
use Rattle.table.proofs.Scans.{scan-sound}
use Rattle.table.proofs.SoundTerms.{widths, slot-most}
use Rattle.table.proofs.TermFaults.{refuse_zero}
use Rattle.setting.specs.Cells.{cell_at, cell_count, matches, look}
use Rattle.setting.specs.Arrays.{array_variable, slot_sort}
use Rattle.setting.specs.Check.{variable_fault, cell_fault, check_cells, check}
use Rattle.setting.specs.Interpretation.{interpret, Fit, CheckedFits}
use Rattle.setting.specs.declared.cells.Cell.{Cell}
use Rattle.setting.proofs.Looks.{look-all}
use Rattle.setting.proofs.Latest.{slot_sort_is}
use Rattle.table.specs.Answers.{accepted}

-- what no refusal leaves

not-or : (a b : Bool) → not a || b ≡ true → a ≡ true → b ≡ true
not-or true b h e = h
not-or false b h e = never e

variable_sound : (values : List ℕ) (x : Term) → variable_fault values x ≡ 0 → is_variable x ≡ true → fits x.sort.n (get_or values x.p 0) ≡ true
variable_sound values x h v =
    let later : ℕ = refuse_unless 13 (not (is_variable x) || fits x.sort.n (get_or values x.p 0)) 0 in
    not-or (is_variable x) (fits x.sort.n (get_or values x.p 0))
    (refuse_zero 12 (not (is_variable x) || fits x.sort.n (get_or values x.p 0)) 0 (refuse_zero 11 (not (is_variable x) || ltb x.p (length values)) later h).1).0
    v

cell-sound : (w : List ℕ) (c : Cell) → cell_fault w c ≡ 0 → fits (slot_sort w c.slot).n c.value ≡ true
cell-sound w c h =
    let s = slot_sort w c.slot in
    let later : ℕ = refuse_unless 15 (fits s.m c.index && fits s.n c.value) 0 in
    (and_parts (fits s.m c.index) (fits s.n c.value)
    (refuse_zero 14 (fits s.m c.index && fits s.n c.value) 0 (refuse_zero 13 (array s) later h).1).0).1

-- at a width that is not 0, to fit is to be below the power
pub below_of-fits : (n v : ℕ) → (n ≡ 0 → ⊥) → fits n v ≡ true → v < 2 ^ n
below_of-fits n v z h = ltb-true v (2 ^ n) (rw (ne_eqb n 0 z) at h)

module _ (limit : ℕ) (w values cells : List ℕ) (f : WellFormed limit w)
    (variables : (k : ℕ) → k < terms w → variable_fault values (term_at w k) ≡ 0)
    (listed : (k : ℕ) → k < cell_count cells → cell_fault w (cell_at cells k) ≡ 0) where
  module _ (k : ℕ) (b : k < terms w) (v : is_variable (term_at w k) ≡ true) where
    own : fits (sort_at w k).n (get_or values (term_at w k).p 0) ≡ true
    own = variable_sound values (term_at w k) (variables k b) v

    module _ (a : array (sort_at w k) ≡ true) where
      nonzero : (sort_at w k).n ≡ 0 → ⊥
      nonzero e = let p : 0 < (sort_at w k).n = (widths (sort_at w k) (f.sound k b).is_sorted).array_n a in omega arith

      claims : array_variable (term_at w k) ≡ true
      claims = rw (v, a, le-leb (term_at w k).p 255 (slot-most w k (f.sound k b) v))

      -- a cell of the variable's slot holds a value of its width
      cell_below : (j : ℕ) (c : Cell) → cell_fault w c ≡ 0 → matches c (term_at w k).p j ≡ true → c.value < 2 ^ (sort_at w k).n
      cell_below j c h e =
          let slot : c.slot ≡ (term_at w k).p = eqb-true c.slot (term_at w k).p (and_parts (eqb c.slot (term_at w k).p) (eqb c.index j) e).0 in
          let sort : slot_sort w c.slot ≡ sort_at w k = ap (slot_sort w) slot ∙ slot_sort_is limit w f k b claims in
          below_of-fits (sort_at w k).n c.value nonzero (subst (λ (s : Sort). fits s.n c.value ≡ true) sort (cell-sound w c h))

      cells_fit : (j : ℕ) → look cells (term_at w k).p j (get_or values (term_at w k).p 0) < 2 ^ (sort_at w k).n
      cells_fit j =
          look-all (λ (x : ℕ). x < 2 ^ (sort_at w k).n) (cell_at cells) (cell_count cells) 0 (term_at w k).p j (get_or values (term_at w k).p 0)
          (below_of-fits (sort_at w k).n (get_or values (term_at w k).p 0) nonzero own)
          (λ i c e. cell_below j (cell_at cells i) (listed i (omega arith)) e)

    fit : Fit (sort_at w k) (interpret values (look cells) (term_at w k).p)
    fit = record { num = λ s. own; cell = λ a j c. cells_fit a j }

pub checked-fits : CheckedFits
unfolding check
checked-fits limit w values cells f h =
    let rest = scan (λ k. cell_fault w (cell_at cells k)) (cell_count cells) 0 accepted in
    let whole = cond_admitted (not (eqb (length cells % 3) 0)) 11 (check_cells w values (cell_at cells) (cell_count cells)) h in
    let variables = scan-sound (λ k. variable_fault values (term_at w k)) (terms w) rest whole.1 in
    let listed = scan-sound (λ k. cell_fault w (cell_at cells k)) (cell_count cells) accepted variables.0 in
    λ k b v. fit limit w values cells f variables.1 listed.1 k b v
