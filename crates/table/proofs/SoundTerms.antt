-- What a sound term's sort and slot say of numbers.
-- Assumes nothing.
use mathlib.Core.Path.{◌≡◌, sym, ap, ◌∙◌}
use mathlib.Core.Bool.{true, ◌&&◌, ◌||◌}
use mathlib.Core.Logic.{⊎_elim}
use mathlib.Core.List.{List}
use Prim.Native.Nat.{ℕ, ◌*◌, ◌≤◌, ◌<◌}
use native.Mathlib.Decide.{dec_lt}
use native.Mathlib.Omega.{arith}
use lib.ListN.{length, get_or-eq_default}
use lib.Dec.{eqb, ltb, leb}
use borrow.Author.Tests.{eqb-true, ltb-true, leb-true}
use Rattle.ops.specs.declared.Op.{Op}
use Rattle.ops.specs.declared.Op.TheVariants.{Constant, Variable, Apply, Ite, Select, Store, Unknown}
use Rattle.ops.specs.Numbers.{op_of}
use Rattle.ops.proofs.Booleans.{never, and_parts, or_parts}
use Rattle.table.specs.declared.words.Sort.{Sort}
use Rattle.table.specs.declared.words.Term.{Term}
use Rattle.table.specs.Terms.{words, terms, word_at, term_at, sort_at, boolean, array}
use Rattle.table.specs.Ranks.{rank_of, fields_of, picks, writes}
use Rattle.table.specs.Faults.{is_variable, is_store, is_choice, width, sorted, placed_as}
use Rattle.table.specs.WellFormed.{Sound, WellFormed}
use Rattle.table.proofs.TermFaults.{slot-valued}
use Rattle.table.proofs.Stacks.{Stacked}

-- widths are at most 32, and an array's are at least 1
pub record Widths (s : Sort) : Type 0 where
  pub m_most : s.m ≤ 32
  pub n_most : s.n ≤ 32
  pub array_n : array s ≡ true → 0 < s.n

width_of : (n : ℕ) → width n ≡ true → (0 < n) × (n ≤ 32)
width_of n h =
    let parts = and_parts (ltb 0 n) (leb n 32) h in
    (ltb-true 0 n parts.0, leb-true n 32 parts.1)

pub widths : (s : Sort) → sorted s ≡ true → Widths s
widths s h = ⊎_elim (λ k. ⊎_elim bool vec (or_parts (boolean s) (eqb s.m 0 && width s.n) k)) arr (or_parts (boolean s || (eqb s.m 0 && width s.n)) (width s.m && width s.n) h)
  where
    bool : boolean s ≡ true → Widths s
    bool k =
        let parts = and_parts (eqb s.m 0) (eqb s.n 0) k in
        let zm : s.m ≡ 0 = eqb-true s.m 0 parts.0 in
        let zn : s.n ≡ 0 = eqb-true s.n 0 parts.1 in
        record { m_most = omega arith; n_most = omega arith; array_n = λ a. let b : 0 < s.m = ltb-true 0 s.m a in omega arith }

    vec : eqb s.m 0 && width s.n ≡ true → Widths s
    vec k =
        let parts = and_parts (eqb s.m 0) (width s.n) k in
        let zm : s.m ≡ 0 = eqb-true s.m 0 parts.0 in
        let n = width_of s.n parts.1 in
        record { m_most = omega arith; n_most = n.1; array_n = λ a. n.0 }

    arr : width s.m && width s.n ≡ true → Widths s
    arr k =
        let parts = and_parts (width s.m) (width s.n) k in
        let n = width_of s.n parts.1 in
        record { m_most = (width_of s.m parts.0).1; n_most = n.1; array_n = λ a. n.0 }

-- a variable's slot is at most 255
pub slot-most : (t : List ℕ) (k : ℕ) → Sound t k → is_variable (term_at t k) ≡ true → (term_at t k).p ≤ 255
slot-most t k s v =
    let x = term_at t k in
    leb-true x.p 255 (and_parts (leb x.p 255) (leb x.q 1) (sym (slot-valued (op_of x.op) x v) ∙ s.is_valued)).0

-- a store's array is an earlier term
writes-placed : (op : Op) (i : ℕ) (x : Term) → writes op ≡ true → placed_as (fields_of (rank_of op)) i x ≡ true → x.p < i
writes-placed Constant i x s h = never s
writes-placed Variable i x s h = never s
writes-placed (Apply f) i x s h = never s
writes-placed Ite i x s h = never s
writes-placed Select i x s h = never s
writes-placed Store i x s h = ltb-true x.p i (and_parts (ltb x.p i) (ltb x.q i) (and_parts (ltb x.p i && ltb x.q i) (ltb x.r i) h).0).0
writes-placed Unknown i x s h = never s

-- a choice's branches are
picks-placed : (op : Op) (i : ℕ) (x : Term) → picks op ≡ true → placed_as (fields_of (rank_of op)) i x ≡ true → (x.q < i) × (x.r < i)
picks-placed Constant i x s h = never s
picks-placed Variable i x s h = never s
picks-placed (Apply f) i x s h = never s
picks-placed Ite i x s h =
    let parts = and_parts (ltb x.p i && ltb x.q i) (ltb x.r i) h in
    (ltb-true x.q i (and_parts (ltb x.p i) (ltb x.q i) parts.0).1, ltb-true x.r i parts.1)
picks-placed Select i x s h = never s
picks-placed Store i x s h = never s
picks-placed Unknown i x s h = never s

-- past a table's end every number is 0
module _ (limit : ℕ) (t : List ℕ) (w : WellFormed limit t) where
  pub past_end : (k j : ℕ) → terms t ≤ k → word_at t k j ≡ 0
  past_end k j b =
      let whole : length t ≡ terms t * words = w.whole in
      get_or-eq_default t 0 (omega arith)

  -- so widths are at most 32 everywhere
  pub n_most_at : (k : ℕ) → (sort_at t k).n ≤ 32
  n_most_at k = go (dec_lt k (terms t))
    where
      go : Dec (k < terms t) → (sort_at t k).n ≤ 32
      go (yes b) = (widths (sort_at t k) (w.sound k b).is_sorted).n_most
      go (no b) = omega (arith, past_end k 2 (omega arith))

  -- a choice is one of the table, and its branches are earlier terms
  choice-below : (k : ℕ) → is_choice (term_at t k) ≡ true → ((term_at t k).q < k) × ((term_at t k).r < k)
  choice-below k s = go (dec_lt k (terms t))
    where
      is-picked : picks (op_of (term_at t k).op) ≡ true
      is-picked = (and_parts (picks (op_of (term_at t k).op)) (array (sort_at t k)) s).0

      go : Dec (k < terms t) → ((term_at t k).q < k) × ((term_at t k).r < k)
      go (yes b) = picks-placed (op_of (term_at t k).op) k (term_at t k) is-picked (w.sound k b).is_placed
      go (no b) = never (sym (ap (λ (op : ℕ). picks (op_of op)) (past_end k 0 (omega arith))) ∙ is-picked)

  -- and a store stands on an earlier term
  pub store_below : (k : ℕ) → is_store (term_at t k) ≡ true → (term_at t k).p < k
  store_below k s = go (dec_lt k (terms t))
    where
      go : Dec (k < terms t) → (term_at t k).p < k
      go (yes b) = writes-placed (op_of (term_at t k).op) k (term_at t k) s (w.sound k b).is_placed
      go (no b) = never (sym (ap (λ (op : ℕ). writes (op_of op)) (past_end k 0 (omega arith))) ∙ s)

  -- so arrays are stacked
  pub stacked : Stacked t
  stacked = record { stored = store_below; first = λ k c. (choice-below k c).0; second = λ k c. (choice-below k c).1 }
