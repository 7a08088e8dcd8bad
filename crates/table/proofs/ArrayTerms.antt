-- An array term of an admitted table is a tree of stores and choices over variables, of size at most 16.
-- Assumes nothing.
use mathlib.Core.Path.{◌≡◌, sym, ap, subst, ◌∙◌}
use mathlib.Core.Bool.{true, false, ◌&&◌}
use mathlib.Core.Logic.{◌⊎◌, inl, inr}
use mathlib.Core.List.{List}
use Prim.Native.Nat.{ℕ, zero, suc, ◌≤◌, ◌<◌}
use native.Mathlib.Nat.{not-suc-le-zero}
use native.Mathlib.Omega.{arith}
use Rattle.ops.specs.declared.Op.{Op}
use Rattle.ops.specs.declared.Op.TheVariants.{Variable, Ite, Store}
use Rattle.ops.specs.Numbers.{op_of}
use Rattle.table.specs.declared.words.Sort.{Sort}
use Rattle.table.specs.Terms.{terms, term_at, sort_at, boolean, array, vector_of, same_sort}
use Rattle.table.specs.Ranks.{slotted, picks, writes}
use Rattle.table.specs.Faults.{is_store, is_choice, size_within, size}
use Rattle.table.specs.WellFormed.{WellFormed, Tree, ArrayTerms}
use Rattle.table.specs.WellFormed.Tree.{variable, store, choice}
use Rattle.table.proofs.OperandSorts.{array_op, same_sort_lem, three, four, op_at, typing, typing_as, placing_as, three_placed}
use Rattle.table.proofs.Sizes.{size-store, size-choice, size_none}

one_sort : (a b : Sort) → same_sort a b ≡ true → a ≡ b
one_sort a b h = let s = same_sort_lem a b h in λ i. record { m = s.m i; n = s.n i }

module _ (limit : ℕ) (t : List ℕ) (f : WellFormed limit t) where
  module _ (k : ℕ) (b : k < terms t) where
    -- a store stands on an earlier array of its sort
    module _ (e : op_of (term_at t k).op ≡ Store) where
      beneath : (term_at t k).p < k
      beneath = (three_placed k (term_at t k) (placing_as t k (f.sound k b) Store e)).0

      beneath_sort : sort_at t (term_at t k).p ≡ sort_at t k
      beneath_sort =
          one_sort (sort_at t (term_at t k).p) (sort_at t k)
          (four (array (sort_at t k)) (same_sort (sort_at t (term_at t k).p) (sort_at t k)) (vector_of (sort_at t k).m (sort_at t (term_at t k).q)) (vector_of (sort_at t k).n (sort_at t (term_at t k).r))
          (typing_as t k (f.sound k b) Store e)).1

    -- a choice on two
    module _ (e : op_of (term_at t k).op ≡ Ite) where
      placed : ((term_at t k).p < k) × ((term_at t k).q < k) × ((term_at t k).r < k)
      placed = three_placed k (term_at t k) (placing_as t k (f.sound k b) Ite e)

      sorts : (boolean (sort_at t (term_at t k).p) ≡ true) × (same_sort (sort_at t (term_at t k).q) (sort_at t k) ≡ true) × (same_sort (sort_at t (term_at t k).r) (sort_at t k) ≡ true)
      sorts =
          three (boolean (sort_at t (term_at t k).p)) (same_sort (sort_at t (term_at t k).q) (sort_at t k)) (same_sort (sort_at t (term_at t k).r) (sort_at t k)) (typing_as t k (f.sound k b) Ite e)

  -- through as many terms in a row as the size, and one
  tree_within : (left k : ℕ) → k < terms t → array (sort_at t k) ≡ true → size_within left t k < left → Tree t k (size_within left t k)
  tree_within zero k b a small = absurd (not-suc-le-zero small)
  tree_within (suc left) k b a small =
      by
      (array_op (op_of (term_at t k).op) (sort_at t k) (sort_at t (term_at t k).p) (sort_at t (term_at t k).q) (sort_at t (term_at t k).r) (op_at t k (f.sound k b)) (typing t k (f.sound k b)) a)
      (λ j. tree_within left j)
    where
      by : (op_of (term_at t k).op ≡ Variable) ⊎ (op_of (term_at t k).op ≡ Store) ⊎ (op_of (term_at t k).op ≡ Ite)
          → ((j : ℕ) → j < terms t → array (sort_at t j) ≡ true → size_within left t j < left → Tree t j (size_within left t j))
          → Tree t k (size_within (suc left) t k)
      by (inl v) later =
          let none : is_store (term_at t k) ≡ false = ap (λ (o : Op). writes o) v in
          let never : is_choice (term_at t k) ≡ false = ap (λ (o : Op). picks o && array (sort_at t k)) v in
          subst (Tree t k) (sym (size_none left t k none never)) (variable (ap (λ (o : Op). slotted o) v))
      by (inr (inl v)) later =
          let s : is_store (term_at t k) ≡ true = ap (λ (o : Op). writes o) v in
          let is = size-store left t k s in
          let below : (term_at t k).p < k = beneath k b v in
          let same = beneath_sort k b v in
          subst (Tree t k) (sym is)
          (store s below same (later (term_at t k).p (omega arith) (subst (λ (z : Sort). array z ≡ true) (sym same) a) (omega (arith, is, small))))
      by (inr (inr v)) later =
          let c : is_choice (term_at t k) ≡ true = ap (λ (o : Op). picks o && array (sort_at t k)) v ∙ a in
          let is = size-choice left t k c in
          let place = placed k b v in
          let q : (term_at t k).q < k = place.1 in
          let r : (term_at t k).r < k = place.2 in
          let same-q = one_sort (sort_at t (term_at t k).q) (sort_at t k) (sorts k b v).1 in
          let same-r = one_sort (sort_at t (term_at t k).r) (sort_at t k) (sorts k b v).2 in
          subst (Tree t k) (sym is)
          (choice c q r same-q same-r
          (later (term_at t k).q (omega arith) (subst (λ (z : Sort). array z ≡ true) (sym same-q) a) (omega (arith, is, small)))
          (later (term_at t k).r (omega arith) (subst (λ (z : Sort). array z ≡ true) (sym same-r) a) (omega (arith, is, small))))

pub array-terms : ArrayTerms
array-terms limit t f k b a =
    let short : size t k ≤ 16 = (f.sound k b).short in
    record { tree = tree_within limit t f 17 k b a (omega arith); small = short }
