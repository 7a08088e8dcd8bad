-- How many terms a group has, and all of them.
-- Assumes nothing.
use mathlib.Core.Path.{◌≡◌, refl, sym, ap, ap₂, subst, ◌∙◌}
use mathlib.Core.Bool.{Bool, true, false, cond, ◌&&◌}
use mathlib.Core.List.{List, [], ◌∷◌, ◌++◌, append-nil, append_assoc}
use Prim.Native.Nat.{ℕ, zero, suc, ◌+◌, ◌*◌, ◌≤◌, ◌<◌}
use native.Mathlib.Decide.{dec_lt}
use native.Mathlib.Nat.{not-suc-le-zero, le_trans}
use native.Mathlib.Omega.{arith}
use lib.ListN.{length, length-append}
use Rattle.ops.specs.declared.Op.{Op}
use Rattle.ops.specs.declared.Op.TheVariants.{Constant, Variable, Apply, Ite, Select, Store, Unknown}
use Rattle.ops.specs.Numbers.{op_of}
use Rattle.ops.specs.Meaning.{Operation}
use Rattle.ops.specs.Ranks.{FunctionRank, arity}
use Rattle.ops.proofs.Booleans.{never}
use Rattle.table.specs.declared.words.Term.{Term}
use Rattle.table.specs.Folds.{fold}
use Rattle.table.specs.Terms.{terms, word_at, term_at, sort_at, array}
use Rattle.table.specs.Ranks.{rank_of, fields_of, picks, reads, writes}
use Rattle.table.specs.Faults.{is_store, is_choice, is_read, placed_as, size_within, size}
use Rattle.table.specs.WellFormed.{WellFormed}
use Rattle.table.proofs.FoldLaws.{fold-below}
use Rattle.table.proofs.SoundTerms.{past_end}
use Rattle.table.proofs.Sizes.{size-store, size-choice, size_none}
use Rattle.table.proofs.Stacks.{by_shape}
use Rattle.evaluate.specs.Steps.{steps_of, steps}
use Rattle.table.proofs.OperandSorts.{is_known, op_at, two_placed, three_placed}
use Rattle.sheets.specs.Marks.{own_marks}
use Rattle.groups.specs.FunctionGroups.{FunctionGroup, function_group, group_kind, kind_of}
use Rattle.groups.specs.FunctionGroups.FunctionGroup.{unary, strict, conjunction, disjunction, implication, by_zero, by_ones, by_bounds, by_signed, by_fixed, shift}
use Rattle.groups.specs.Groups.{choice_group, store_group, array_choice_group}
use Rattle.groups.specs.Plans.{Plan, last_of, taken, cp, cq, cr, grown, store_read, choice_read, built, plan_by, plan_in, plan_of, groups, next, plans, plan_at}
use Rattle.groups.specs.Sizes.{size_by, size_of, sizes}

-- The size of an array

module _ (w : List ℕ) where
  -- a size below its fuel is the same with one more
  size_enough : (left k : ℕ) → size_within left w k < left → size_within (suc left) w k ≡ size_within left w k
  size_enough zero k b = absurd (not-suc-le-zero b)
  size_enough (suc left) k b = go (is_store (term_at w k)) (is_choice (term_at w k)) refl refl (size_enough left)
    where
      go : (z y : Bool) → is_store (term_at w k) ≡ z → is_choice (term_at w k) ≡ y → ((i : ℕ) → size_within left w i < left → size_within (suc left) w i ≡ size_within left w i)
          → size_within (suc (suc left)) w k ≡ size_within (suc left) w k
      go true y s c before =
          let is = size-store left w k s in
          size-store (suc left) w k s ∙ ap suc (before (term_at w k).p (omega (arith, is))) ∙ sym is
      go false true s c before =
          let is = size-choice left w k c in
          size-choice (suc left) w k c ∙ ap₂ (λ (m n : ℕ). suc (m + n)) (before (term_at w k).q (omega (arith, is))) (before (term_at w k).r (omega (arith, is))) ∙ sym is
      go false false s c before = size_none (suc left) w k s c ∙ sym (size_none left w k s c)

  -- where it is at most 16, it is made of its operands' sizes
  pub size_is : (k : ℕ) → size w k ≤ 16 → size w k ≡ by_shape (term_at w k) (suc (size w (term_at w k).p)) (suc (size w (term_at w k).q + size w (term_at w k).r)) 0
  size_is k b = go (is_store (term_at w k)) (is_choice (term_at w k)) refl refl
    where
      go : (z y : Bool) → is_store (term_at w k) ≡ z → is_choice (term_at w k) ≡ y
          → size w k ≡ cond z (suc (size w (term_at w k).p)) (cond y (suc (size w (term_at w k).q + size w (term_at w k).r)) 0)
      go true y s c = let is = size-store 16 w k s in is ∙ ap suc (sym (size_enough 16 (term_at w k).p (omega (arith, is))))
      go false true s c =
          let is = size-choice 16 w k c in
          is ∙ ap₂ (λ (m n : ℕ). suc (m + n)) (sym (size_enough 16 (term_at w k).q (omega (arith, is)))) (sym (size_enough 16 (term_at w k).r (omega (arith, is))))
      go false false s c = size_none 16 w k s c

-- in an admitted table it is, past its end too
pub size_small : (w : List ℕ) (limit : ℕ) → WellFormed limit w → (k : ℕ) → size w k ≤ 16
size_small w limit f k = go (dec_lt k (terms w))
  where
    go : Dec (k < terms w) → size w k ≤ 16
    go (yes b) = (f.sound k b).short
    go (no b) =
        let past : word_at w k 0 ≡ 0 = past_end limit w f k 0 (omega arith) in
        omega (arith, size_none 16 w k (ap (λ (op : ℕ). writes (op_of op)) past) (ap (λ (op : ℕ). picks (op_of op) && array (sort_at w k)) past))

-- The groups of one term

-- the plan of a choice, between arrays or not
module _ (marked : Term → Bool) (yes no : ℕ) (plan : ℕ → Plan) (b width : ℕ) (t : Term) where
  abbrev pub choice_plan : Bool → Plan
  choice_plan z =
      cond z (built (choice_read marked yes no plan b width t))
      (grown marked yes no plan b width t (choice_group b t.p t.q t.r (cp marked yes no plan b width t) (cq marked yes no plan b width t) (cr marked yes no plan b width t)))

record Sized (x : Plan) (size read_size : ℕ) : Type 0 where
  whole : length x.group ≡ size
  read : (s j cj : ℕ) → length (x.read_group s j cj) ≡ read_size

-- by its operator: i is its number, n the sizes of the terms before it
module _ (marked : Term → Bool) (yes no : ℕ) (plan : ℕ → Plan) (b width : ℕ) (t : Term) (i : ℕ) (n : ℕ → ℕ)
    (below : (k : ℕ) → k < i → (s j cj : ℕ) → length ((plan k).read_group s j cj) ≡ 1 + 9 * n k) where
  store-size : (s j cj : ℕ) → t.p < i → length (store_read marked yes no plan b width t s j cj) ≡ 1 + 9 * suc (n t.p)
  store-size s j cj l =
      let under : List Term = (plan t.p).read_group s j cj in
      length-append under (store_group (s + length under) t.sort.n t.p t.q t.r j (cq marked yes no plan b width t) (cr marked yes no plan b width t) cj (last_of s under))
      ∙ omega (arith, below t.p l s j cj)

  choice-size : (s j cj : ℕ) → t.q < i → t.r < i → length (choice_read marked yes no plan b width t s j cj) ≡ 1 + 9 * suc (n t.q + n t.r)
  choice-size s j cj l m =
      let q : List Term = (plan t.q).read_group s j cj in
      let r : List Term = (plan t.r).read_group (s + length q) j cj in
      let eight : List Term = array_choice_group (s + length q + length r) t.sort.n t.p t.q t.r j (cp marked yes no plan b width t) (last_of s q) (last_of (s + length q) r) in
      length-append q (r ++ eight)
      ∙ omega (arith, length-append r eight, below t.q l s j cj, below t.r m (s + length q) j cj)

  sized_function : {o : Operation} {r : FunctionRank (arity o)} (g : FunctionGroup o r) → Sized (plan_by marked yes no plan b width t (group_kind g)) (size_by (group_kind g) (n t.p)) 1
  unfolding plan_by
  sized_function unary = record { whole = refl; read = λ s j cj. refl }
  sized_function strict = record { whole = refl; read = λ s j cj. refl }
  sized_function conjunction = record { whole = refl; read = λ s j cj. refl }
  sized_function disjunction = record { whole = refl; read = λ s j cj. refl }
  sized_function implication = record { whole = refl; read = λ s j cj. refl }
  sized_function by_zero = record { whole = refl; read = λ s j cj. refl }
  sized_function by_ones = record { whole = refl; read = λ s j cj. refl }
  sized_function by_bounds = record { whole = refl; read = λ s j cj. refl }
  sized_function by_signed = record { whole = refl; read = λ s j cj. refl }
  sized_function by_fixed = record { whole = refl; read = λ s j cj. refl }
  sized_function shift = record { whole = refl; read = λ s j cj. refl }

  sized-choice : (z : Bool) → t.q < i → t.r < i → Sized (choice_plan marked yes no plan b width t z) (cond z 0 6) (1 + 9 * cond z (suc (n t.q + n t.r)) 0)
  sized-choice true l m = record { whole = refl; read = λ s j cj. choice-size s j cj l m }
  sized-choice false l m = record { whole = refl; read = λ s j cj. refl }

  sized_by : (op : Op) → is_known op ≡ true → placed_as (fields_of (rank_of op)) i t ≡ true
      → Sized (plan_by marked yes no plan b width t (kind_of op)) (cond (picks op && array t.sort) 0 (size_by (kind_of op) (n t.p)))
      (1 + 9 * cond (writes op) (suc (n t.p)) (cond (picks op && array t.sort) (suc (n t.q + n t.r)) 0))
  unfolding plan_by is_known
  sized_by Constant k place = record { whole = refl; read = λ s j cj. refl }
  sized_by Variable k place = record { whole = refl; read = λ s j cj. refl }
  sized_by (Apply f) k place = sized_function (function_group f)
  sized_by Ite k place = let l = three_placed i t place in sized-choice (array t.sort) l.1 l.2
  sized_by Select k place = record { whole = below t.p (two_placed i t place).0 b t.q (cq marked yes no plan b width t); read = λ s j cj. refl }
  sized_by Store k place = record { whole = refl; read = λ s j cj. store-size s j cj (three_placed i t place).0 }
  sized_by Unknown k place = never k

-- Every term of the table

groups-append : (xs ys : List Plan) → groups (xs ++ ys) ≡ groups xs ++ groups ys
unfolding groups
groups-append [] ys = refl
groups-append (x ∷ xs) ys = ap (λ (l : List Term). x.group ++ l) (groups-append xs ys) ∙ sym (append_assoc x.group (groups xs) (groups ys))

groups_one : (x : Plan) → groups (x ∷ []) ≡ x.group
unfolding groups
groups_one x = append-nil x.group

module _ (w : List ℕ) (marked : Term → Bool) where
  -- of a term that is passed the list has its plan
  pub plan_below : (k i : ℕ) → i < k → plan_in (plans w marked k) i ≡ plan_at w marked i
  plan_below k i b = fold-below (λ ps j. plan_of w marked ps (term_at w j)) (taken 0) k i b

  pub groups-more : (k : ℕ) → groups (plans w marked (suc k)) ≡ groups (plans w marked k) ++ (plan_at w marked k).group
  unfolding fold
  groups-more k = groups-append (plans w marked k) (plan_at w marked k ∷ []) ∙ ap (λ (l : List Term). groups (plans w marked k) ++ l) (groups_one (plan_at w marked k))

  module _ (f : WellFormed 512 w) where
    sized-step : (k : ℕ) → k < terms w → ((i : ℕ) → i < k → (s j cj : ℕ) → length ((plan_at w marked i).read_group s j cj) ≡ 1 + 9 * size w i)
        → Sized (plan_at w marked k) (size_of w (term_at w k)) (1 + 9 * size w k)
    sized-step k b before =
        let x = term_at w k in
        subst (λ (c : ℕ). Sized (plan_at w marked k) (size_of w x) (1 + 9 * c)) (sym (size_is w k (f.sound k b).short))
        (sized_by marked (terms w) (terms w + 1) (plan_in (plans w marked k)) (next w (plans w marked k)) (sort_at w x.p).n x k (size w)
        (λ i l s j cj. ap (λ (y : Plan). length (y.read_group s j cj)) (plan_below k i l) ∙ before i l s j cj)
        (op_of x.op) (op_at w k (f.sound k b)) (f.sound k b).is_placed)

    sized-within : (n k : ℕ) → k < n → k < terms w → Sized (plan_at w marked k) (size_of w (term_at w k)) (1 + 9 * size w k)
    sized-within zero k b l = absurd (not-suc-le-zero b)
    sized-within (suc n) k b l = sized-step k l (λ i m. (sized-within n i (omega arith) (omega arith)).read)

    module _ (k : ℕ) (b : k < terms w) where
      pub read-size : (s j cj : ℕ) → length ((plan_at w marked k).read_group s j cj) ≡ 1 + 9 * size w k
      read-size = (sized-within (suc k) k (omega arith) b).read

      pub group_size : length (plan_at w marked k).group ≡ size_of w (term_at w k)
      group_size = (sized-within (suc k) k (omega arith) b).whole

    pub groups-size : (k : ℕ) → k ≤ terms w → length (groups (plans w marked k)) ≡ sizes w k
    unfolding fold groups sizes
    groups-size zero b = refl
    groups-size (suc k) b =
        ap length (groups-more k) ∙ length-append (groups (plans w marked k)) (plan_at w marked k).group
        ∙ ap₂ ◌+◌ (groups-size k (omega arith)) (group_size k (omega arith))

-- the next group begins where this one ends
pub next_more : (w : List ℕ) (k : ℕ) → next w (plans w own_marks (suc k)) ≡ next w (plans w own_marks k) + length (plan_at w own_marks k).group
next_more w k = ap (λ (g : List Term). terms w + 2 + length g) (groups-more w own_marks k) ∙ rw length-append (omega arith)

-- How many they are at most

-- nine terms, but for a read
function_most : {o : Operation} {r : FunctionRank (arity o)} (g : FunctionGroup o r) (c : ℕ) → size_by (group_kind g) c ≤ 9
function_most unary c = omega arith
function_most strict c = omega arith
function_most conjunction c = omega arith
function_most disjunction c = omega arith
function_most implication c = omega arith
function_most by_zero c = omega arith
function_most by_ones c = omega arith
function_most by_bounds c = omega arith
function_most by_signed c = omega arith
function_most by_fixed c = omega arith
function_most shift c = omega arith

size-most : (op : Op) (a : Bool) (c : ℕ) → cond (picks op && a) 0 (size_by (kind_of op) c) ≤ cond (reads op) (1 + 9 * c) 9
size-most Constant a c = omega arith
size-most Variable a c = omega arith
size-most (Apply f) a c = function_most (function_group f) c
size-most Ite true c = omega arith
size-most Ite false c = omega arith
size-most Select a c = omega arith
size-most Store a c = omega arith
size-most Unknown a c = omega arith

most_by_steps : (z : Bool) (c : ℕ) → cond z (1 + 9 * c) 9 ≤ 9 + 9 * cond z c 0
most_by_steps true c = omega arith
most_by_steps false c = omega arith

most_by_terms : (z : Bool) (c : ℕ) → c ≤ 16 → cond z (1 + 9 * c) 9 ≤ 145
most_by_terms true c b = omega arith
most_by_terms false c b = omega arith

pub sizes_by_steps : (w : List ℕ) → WellFormed 512 w → (k : ℕ) → k ≤ terms w → sizes w k ≤ 9 * k + 9 * steps w k
unfolding sizes steps
sizes_by_steps w f zero b = omega arith
sizes_by_steps w f (suc k) b =
    let x = term_at w k in
    let c = size w x.p in
    let before : sizes w k ≤ 9 * k + 9 * steps w k = sizes_by_steps w f k (omega arith) in
    let here : size_of w x ≤ 9 + 9 * steps_of w x = le_trans (size-most (op_of x.op) (array x.sort) c) (most_by_steps (is_read x) c) in
    omega arith

pub sizes_by_terms : (w : List ℕ) → WellFormed 512 w → (k : ℕ) → k ≤ terms w → sizes w k ≤ 145 * k
unfolding sizes
sizes_by_terms w f zero b = omega arith
sizes_by_terms w f (suc k) b =
    let x = term_at w k in
    let c = size w x.p in
    let before : sizes w k ≤ 145 * k = sizes_by_terms w f k (omega arith) in
    let here : size_of w x ≤ 145 = le_trans (size-most (op_of x.op) (array x.sort) c) (most_by_terms (is_read x) c (size_small w 512 f x.p)) in
    omega arith
