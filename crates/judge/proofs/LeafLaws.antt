-- The variables that a read meets: those of the arrays that an array stands on, one after the other; at most 17.
-- Assumes nothing.
use mathlib.Core.Path.{◌≡◌, refl, sym, ap, subst, ◌∙◌}
use mathlib.Core.Bool.{Bool, true, false, ◌&&◌}
use mathlib.Core.List.{List, [], ◌∷◌, ◌++◌}
use Prim.Native.Nat.{ℕ, zero, suc, ◌+◌, ◌≤◌, ◌<◌}
use native.Mathlib.Decide.{dec_lt}
use native.Mathlib.Nat.{not-suc-le-zero, add-zero}
use native.Mathlib.Omega.{arith}
use lib.ListN.{length, get_or, drop, set, length-append, get_or-append}
use lib.Seq.{sets, sets-eq}
use Rattle.ops.specs.declared.Op.{Op}
use Rattle.ops.specs.declared.Op.TheVariants.{Constant, Variable, Apply, Ite, Select, Store, Unknown}
use Rattle.ops.specs.Numbers.{op_of}
use Rattle.ops.proofs.Booleans.{never, and_parts}
use Rattle.table.specs.declared.words.Term.{Term}
use Rattle.table.specs.Terms.{terms, term_at, sort_at, array, vector_of, same_sort}
use Rattle.table.specs.Ranks.{rank_of, slotted, picks, writes}
use Rattle.table.specs.Faults.{is_store, is_choice, size, typed_as}
use Rattle.table.specs.WellFormed.{WellFormed, Tree}
use Rattle.table.specs.WellFormed.Tree.{variable, store, choice}
use Rattle.table.proofs.ArrayTerms.{array-terms}
use Rattle.table.proofs.OperandSorts.{four, typing}
use Rattle.table.proofs.SoundTerms.{stacked, past_end}
use Rattle.table.proofs.Stacks.{Stacked, by_shape, at_end, at_store, at_choice}
use Rattle.judge.specs.Code.Leaves.{leaves_within, leaves_at}

module _ (w : List ℕ) (st : Stacked w) where
  abbrev end : ℕ → List ℕ
  end a = (term_at w a).p ∷ []

  leaves_law : (left a : ℕ) → leaves_within (suc left) w a
      ≡ by_shape (term_at w a) (leaves_within left w (term_at w a).p) (leaves_within left w (term_at w a).q ++ leaves_within left w (term_at w a).r) (end a)
  unfolding leaves_within
  leaves_law left a = refl

  pub leaves_variable : (a : ℕ) → is_store (term_at w a) ≡ false → is_choice (term_at w a) ≡ false → leaves_at w a ≡ (term_at w a).p ∷ []
  leaves_variable a s c = at_end w st (λ f k. leaves_within f w k) (λ k l. l) (λ k l m. l ++ m) end leaves_law a s c

  pub leaves_store : (a : ℕ) → is_store (term_at w a) ≡ true → leaves_at w a ≡ leaves_at w (term_at w a).p
  leaves_store a s = at_store w st (λ f k. leaves_within f w k) (λ k l. l) (λ k l m. l ++ m) end leaves_law a s

  pub leaves_choice : (a : ℕ) → is_choice (term_at w a) ≡ true → leaves_at w a ≡ leaves_at w (term_at w a).q ++ leaves_at w (term_at w a).r
  leaves_choice a c = at_choice w st (λ f k. leaves_within f w k) (λ k l. l) (λ k l m. l ++ m) end leaves_law a c

  pub leaves_both : (a : ℕ) → is_choice (term_at w a) ≡ true → length (leaves_at w a) ≡ length (leaves_at w (term_at w a).q) + length (leaves_at w (term_at w a).r)
  leaves_both a c = ap length (leaves_choice a c) ∙ length-append (leaves_at w (term_at w a).q) (leaves_at w (term_at w a).r)

  -- there is one at least
  some_within : (n a : ℕ) → a < n → 0 < length (leaves_at w a)
  some_within zero a b = absurd (not-suc-le-zero b)
  some_within (suc n) a b =
      by (is_store (term_at w a)) (is_choice (term_at w a)) refl refl (λ i c. some_within n i (omega arith))
    where
      by : (s c : Bool) → is_store (term_at w a) ≡ s → is_choice (term_at w a) ≡ c → ((i : ℕ) → i < a → 0 < length (leaves_at w i)) → 0 < length (leaves_at w a)
      by true c e g later = omega (arith, ap length (leaves_store a e), later (term_at w a).p (st.stored a e))
      by false true e g later = omega (arith, leaves_both a g, later (term_at w a).q (st.first a g))
      by false false e g later = omega (arith, ap length (leaves_variable a e g))

  pub some_leaves : (a : ℕ) → 0 < length (leaves_at w a)
  some_leaves a = some_within (suc a) a (omega arith)

  -- of a term at hand, x
  module _ (a : ℕ) (x : Term) (here : x ≡ term_at w a) where
    pub under_store : is_store x ≡ true → leaves_at w x.p ≡ leaves_at w a
    under_store = subst (λ (y : Term). is_store y ≡ true → leaves_at w y.p ≡ leaves_at w a) (sym here) (λ s. sym (leaves_store a s))

    pub at_variable : is_store x ≡ false → is_choice x ≡ false → x.p ∷ [] ≡ leaves_at w a
    at_variable = subst (λ (y : Term). is_store y ≡ false → is_choice y ≡ false → y.p ∷ [] ≡ leaves_at w a) (sym here) (λ s c. sym (leaves_variable a s c))

    pub of_both : is_choice x ≡ true → leaves_at w x.q ++ leaves_at w x.r ≡ leaves_at w a
    of_both = subst (λ (y : Term). is_choice y ≡ true → leaves_at w y.q ++ leaves_at w y.r ≡ leaves_at w a) (sym here) (λ c. sym (leaves_choice a c))

    pub count_both : is_choice x ≡ true → length (leaves_at w x.q) + length (leaves_at w x.r) ≡ length (leaves_at w a)
    count_both c = sym (length-append (leaves_at w x.q) (leaves_at w x.r)) ∙ ap length (of_both c)

-- Numbers set one after the other

pub sets_then : (l : List ℕ) (i : ℕ) (xs ys : List ℕ) → sets (sets l i xs) (i + length xs) ys ≡ sets l i (xs ++ ys)
sets_then l i [] ys = ap (λ (k : ℕ). sets l k ys) (add-zero i)
sets_then l i (x ∷ xs) ys = ap (λ (k : ℕ). sets (sets (set l i x) (suc i) xs) k ys) (let e : i + suc (length xs) ≡ suc i + length xs = omega arith in e) ∙ sets_then (set l i x) (suc i) xs ys

pub sets_read : (l xs : List ℕ) (m : ℕ) → length xs ≤ length l → m < length xs → get_or (sets l 0 xs) m 0 ≡ get_or xs m 0
sets_read l xs m b c =
    ap (λ (k : List ℕ). get_or k m 0) (sets-eq xs l 0 (omega (arith, b))) ∙ get_or-append xs (drop (0 + length xs) l) 0 m c

-- There are few: a tree with so many stores and choices has at most one variable more

slotted-ends : (op : Op) → slotted op ≡ true → (writes op ≡ false) × (picks op ≡ false)
slotted-ends Constant h = never h
slotted-ends Variable h = (refl, refl)
slotted-ends (Apply f) h = never h
slotted-ends Ite h = never h
slotted-ends Select h = never h
slotted-ends Store h = never h
slotted-ends Unknown h = never h

tree_leaves : (w : List ℕ) → Stacked w → (k n : ℕ) → Tree w k n → length (leaves_at w k) ≤ suc n
tree_leaves w st k _ (variable v) =
    let ends = slotted-ends (op_of (term_at w k).op) v in
    omega (arith, ap length (leaves_variable w st k ends.0 (ap (λ (b : Bool). b && array (sort_at w k)) ends.1)))
tree_leaves w st k _ (store {n = n} s b e t) = omega (arith, ap length (leaves_store w st k s), tree_leaves w st (term_at w k).p n t)
tree_leaves w st k _ (choice {m = m} {n = n} c b d e g t u) =
    omega (arith, leaves_both w st k c, tree_leaves w st (term_at w k).q m t, tree_leaves w st (term_at w k).r n u)

module _ (limit : ℕ) (w : List ℕ) (f : WellFormed limit w) where
  few_of-array : (k : ℕ) → k < terms w → array (sort_at w k) ≡ true → length (leaves_at w k) ≤ 17
  few_of-array k b r =
      let small = array-terms limit w f k b r in
      omega (arith, small.small, tree_leaves w (stacked limit w f) k (size w k) small.tree)

  -- a term of the table, by what it is
  inside : (k : ℕ) → (op_of (term_at w k).op ≡ Constant → ⊥) → k < terms w
  inside k h = go (dec_lt k (terms w))
    where
      go : Dec (k < terms w) → k < terms w
      go (yes b) = b
      go (no b) = absurd (h (ap (λ (op : ℕ). op_of op) (past_end limit w f k 0 (omega arith))))

  store-array : (op : Op) (k : ℕ) → writes op ≡ true → typed_as (rank_of op) (sort_at w k) (sort_at w (term_at w k).p) (sort_at w (term_at w k).q) (sort_at w (term_at w k).r) ≡ true → array (sort_at w k) ≡ true
  store-array Constant k s h = never s
  store-array Variable k s h = never s
  store-array (Apply g) k s h = never s
  store-array Ite k s h = never s
  store-array Select k s h = never s
  store-array Store k s h = (four (array (sort_at w k)) (same_sort (sort_at w (term_at w k).p) (sort_at w k)) (vector_of (sort_at w k).m (sort_at w (term_at w k).q)) (vector_of (sort_at w k).n (sort_at w (term_at w k).r)) h).0
  store-array Unknown k s h = never s

  pub few_leaves : (k : ℕ) → length (leaves_at w k) ≤ 17
  few_leaves k = by (is_store (term_at w k)) (is_choice (term_at w k)) refl refl
    where
      by : (s c : Bool) → is_store (term_at w k) ≡ s → is_choice (term_at w k) ≡ c → length (leaves_at w k) ≤ 17
      by true c s e =
          let b : k < terms w = inside k (λ o. never (sym (ap (λ (p : Op). writes p) o) ∙ s)) in
          few_of-array k b (store-array (op_of (term_at w k).op) k s (typing w k (f.sound k b)))
      by false true s e =
          let parts = and_parts (picks (op_of (term_at w k).op)) (array (sort_at w k)) e in
          few_of-array k (inside k (λ o. never (sym (ap (λ (p : Op). picks p) o) ∙ parts.0))) parts.1
      by false false s e = omega (arith, ap length (leaves_variable w (stacked limit w f) k s e))
