-- What the placing and the sorts of a term say of its operands, by its operator.
-- Assumes nothing.
use mathlib.Core.Path.{◌≡◌, refl, sym, ap, subst, ◌∙◌}
use mathlib.Core.Bool.{Bool, true, false, ◌&&◌}
use mathlib.Core.Logic.{◌⊎◌, inl, inr}
use mathlib.Core.List.{List, [], ◌∷◌}
use Prim.Native.Nat.{ℕ, zero, suc, ◌≤◌, ◌<◌}
use native.Mathlib.Nat.{not-suc-le-zero, le_of_suc-le-suc}
use native.Mathlib.Omega.{arith}
use lib.Dec.{eqb, ltb}
use lib.ListN.{length, get_or}
use borrow.Author.Tests.{eqb-true, ltb-true, leb-true}
use Rattle.ops.specs.declared.Op.{Op}
use Rattle.ops.specs.declared.Op.TheVariants.{Constant, Variable, Apply, Ite, Select, Store, Unknown}
use Rattle.ops.specs.Numbers.{ops, op_of, last_op}
use Rattle.ops.specs.Ranks.{Arity, FunctionRank, function_rank}
use Rattle.ops.specs.Ranks.Arity.{one, two}
use Rattle.ops.specs.Ranks.FunctionRank.{bool_unary, bool_binary, equality, bv_unary, bv_binary, bv_compare}
use Rattle.ops.proofs.Booleans.{never, and_parts}
use Rattle.table.specs.declared.words.Sort.{Sort}
use Rattle.table.specs.declared.words.Term.{Term}
use Rattle.table.specs.Terms.{term_at, sort_at, boolean, vector, scalar, array, vector_of, same_sort}
use Rattle.table.specs.Folds.{every}
use Rattle.table.specs.declared.ranks.Fields.TheVariants.{One, Two}
use Rattle.table.specs.Ranks.{applied, rank_of, fields_of, slotted, immediate, writes}
use Rattle.table.specs.Faults.{known, placed_as, typed_as, typed}
use Rattle.table.specs.WellFormed.{Sound}

-- an op up to the last is one of the list

unfoldable pub is_known : Op → Bool
is_known Constant = true
is_known Variable = true
is_known (Apply f) = true
is_known Ite = true
is_known Select = true
is_known Store = true
is_known Unknown = false

all_at : (f : Op → Bool) (l : List Op) (d : Op) → every f l ≡ true → (i : ℕ) → i < length l → f (get_or l i d) ≡ true
unfolding every
all_at f [] d h i b = absurd (not-suc-le-zero b)
all_at f (x ∷ l) d h zero b = (and_parts (f x) (every f l) h).0
all_at f (x ∷ l) d h (suc i) b = all_at f l d (and_parts (f x) (every f l) h).1 i (le_of_suc-le-suc b)

pub op_known : (x : Term) → known x ≡ true → is_known (op_of x.op) ≡ true
unfolding every is_known
op_known x h = all_at is_known ops Unknown refl x.op (let b : x.op ≤ last_op = leb-true x.op last_op h in omega arith)

-- sorts

pub not-array : (s : Sort) → scalar s ≡ true → array s ≡ true → ⊥
not-array s h a =
    let z : s.m ≡ 0 = eqb-true s.m 0 h in
    let p : 0 < s.m = ltb-true 0 s.m a in
    omega arith

pub record SameSort (a b : Sort) : Type 0 where
  pub m : a.m ≡ b.m
  pub n : a.n ≡ b.n

pub same_sort_lem : (a b : Sort) → same_sort a b ≡ true → SameSort a b
same_sort_lem a b h =
    let parts = and_parts (eqb a.m b.m) (eqb a.n b.n) h in
    record { m = eqb-true a.m b.m parts.0; n = eqb-true a.n b.n parts.1 }

pub boolean-scalar : (s : Sort) → boolean s ≡ true → scalar s ≡ true
boolean-scalar s h = (and_parts (eqb s.m 0) (eqb s.n 0) h).0

pub vector-scalar : (s : Sort) → vector s ≡ true → scalar s ≡ true
vector-scalar s h = (and_parts (eqb s.m 0) (ltb 0 s.n) h).0

pub same-scalar : (a b : Sort) → same_sort a b ≡ true → scalar b ≡ true → scalar a ≡ true
same-scalar a b h s = ap (λ (m : ℕ). eqb m 0) (same_sort_lem a b h).m ∙ s

pub scalar-same : (a b : Sort) → same_sort a b ≡ true → scalar a ≡ true → scalar b ≡ true
scalar-same a b h s = ap (λ (m : ℕ). eqb m 0) (sym (same_sort_lem a b h).m) ∙ s

pub vector_of-scalar : (n : ℕ) (s : Sort) → vector_of n s ≡ true → scalar s ≡ true
vector_of-scalar n s h = (and_parts (eqb s.m 0) (eqb s.n n) h).0

-- three tests in a row
pub three : (a b c : Bool) → a && b && c ≡ true → (a ≡ true) × (b ≡ true) × (c ≡ true)
three a b c h =
    let ab-c = and_parts (a && b) c h in
    let a-b = and_parts a b ab-c.0 in
    (a-b.0, a-b.1, ab-c.1)

pub four : (a b c d : Bool) → a && b && c && d ≡ true → (a ≡ true) × (b ≡ true) × (c ≡ true) × (d ≡ true)
four a b c d h =
    let abc-d = and_parts (a && b && c) d h in
    let t = three a b c abc-d.0 in
    (t.0, t.1, t.2, abc-d.1)

-- a function's term is no array, by its rank
pub rank-scalar : {n : Arity} (r : FunctionRank n) (x a b c : Sort) → typed_as (applied r) x a b c ≡ true → scalar x ≡ true
rank-scalar bool_unary x a b c h = boolean-scalar x (and_parts (boolean x) (boolean a) h).0
rank-scalar bool_binary x a b c h = boolean-scalar x (three (boolean x) (boolean a) (boolean b) h).0
rank-scalar equality x a b c h = boolean-scalar x (three (boolean x) (scalar a) (same_sort a b) h).0
rank-scalar bv_unary x a b c h = vector-scalar x (and_parts (vector x) (same_sort a x) h).0
rank-scalar bv_binary x a b c h = vector-scalar x (three (vector x) (same_sort a x) (same_sort b x) h).0
rank-scalar bv_compare x a b c h = boolean-scalar x (three (boolean x) (vector a) (same_sort a b) h).0

-- nor are its operands
pub unary_scalar : (r : FunctionRank one) (x a b c : Sort) → typed_as (applied r) x a b c ≡ true → scalar a ≡ true
unary_scalar bool_unary x a b c h = boolean-scalar a (and_parts (boolean x) (boolean a) h).1
unary_scalar bv_unary x a b c h = let s = and_parts (vector x) (same_sort a x) h in same-scalar a x s.1 (vector-scalar x s.0)

pub binary_scalars : (r : FunctionRank two) (x a b c : Sort) → typed_as (applied r) x a b c ≡ true → (scalar a ≡ true) × (scalar b ≡ true)
binary_scalars bool_binary x a b c h = let s = three (boolean x) (boolean a) (boolean b) h in (boolean-scalar a s.1, boolean-scalar b s.2)
binary_scalars equality x a b c h = let s = three (boolean x) (scalar a) (same_sort a b) h in (s.1, scalar-same a b s.2 s.1)
binary_scalars bv_binary x a b c h =
    let s = three (vector x) (same_sort a x) (same_sort b x) h in
    (same-scalar a x s.1 (vector-scalar x s.0), same-scalar b x s.2 (vector-scalar x s.0))
binary_scalars bv_compare x a b c h = let s = three (boolean x) (vector a) (same_sort a b) h in (vector-scalar a s.1, scalar-same a b s.2 (vector-scalar a s.1))

-- only variables, stores and choices are arrays
pub array_op : (op : Op) (x a b c : Sort) → is_known op ≡ true → typed_as (rank_of op) x a b c ≡ true → array x ≡ true → (op ≡ Variable) ⊎ (op ≡ Store) ⊎ (op ≡ Ite)
unfolding is_known
array_op Constant x a b c k h r = absurd (not-array x h r)
array_op Variable x a b c k h r = inl refl
array_op (Apply f) x a b c k h r = absurd (not-array x (rank-scalar (function_rank f) x a b c h) r)
array_op Ite x a b c k h r = inr (inr refl)
array_op Select x a b c k h r = absurd (not-array x (vector_of-scalar a.n x (three (array a) (vector_of a.m b) (vector_of a.n x) h).2) r)
array_op Store x a b c k h r = inr (inl refl)
array_op Unknown x a b c k h r = never k

-- a term of a Boolean or vector sort is no store
pub no_store : (op : Op) (x a b c : Sort) → typed_as (rank_of op) x a b c ≡ true → scalar x ≡ true → writes op ≡ false
no_store Constant x a b c h s = refl
no_store Variable x a b c h s = refl
no_store (Apply f) x a b c h s = refl
no_store Ite x a b c h s = refl
no_store Select x a b c h s = refl
no_store Store x a b c h s = absurd (not-array x s (four (array x) (same_sort a x) (vector_of x.m b) (vector_of x.n c) h).0)
no_store Unknown x a b c h s = refl

-- What admission says of term k, by its operator

module _ (w : List ℕ) (k : ℕ) (s : Sound w k) where
  pub op_at : is_known (op_of (term_at w k).op) ≡ true
  op_at = op_known (term_at w k) s.is_known

  pub typing : typed_as (rank_of (op_of (term_at w k).op)) (sort_at w k) (sort_at w (term_at w k).p) (sort_at w (term_at w k).q) (sort_at w (term_at w k).r) ≡ true
  unfolding typed
  typing = s.is_typed

  module _ (op : Op) (e : op_of (term_at w k).op ≡ op) where
    pub typing_as : typed_as (rank_of op) (sort_at w k) (sort_at w (term_at w k).p) (sort_at w (term_at w k).q) (sort_at w (term_at w k).r) ≡ true
    typing_as = subst (λ (o : Op). typed_as (rank_of o) (sort_at w k) (sort_at w (term_at w k).p) (sort_at w (term_at w k).q) (sort_at w (term_at w k).r) ≡ true) e typing

    pub placing_as : placed_as (fields_of (rank_of op)) k (term_at w k) ≡ true
    placing_as = subst (λ (o : Op). placed_as (fields_of (rank_of o)) k (term_at w k) ≡ true) e s.is_placed

-- operands below
pub two_placed : (i : ℕ) (x : Term) → ltb x.p i && ltb x.q i && eqb x.r 0 ≡ true → (x.p < i) × (x.q < i)
two_placed i x h =
    let parts = three (ltb x.p i) (ltb x.q i) (eqb x.r 0) h in
    (ltb-true x.p i parts.0, ltb-true x.q i parts.1)

pub three_placed : (i : ℕ) (x : Term) → ltb x.p i && ltb x.q i && ltb x.r i ≡ true → (x.p < i) × (x.q < i) × (x.r < i)
three_placed i x h =
    let parts = three (ltb x.p i) (ltb x.q i) (ltb x.r i) h in
    (ltb-true x.p i parts.0, ltb-true x.q i parts.1, ltb-true x.r i parts.2)

-- all fields are below: those that are not used are 0
pub one_below : (i : ℕ) (x : Term) → placed_as One i x ≡ true → (x.p < i) × (x.q < i) × (x.r < i)
one_below i x h =
    let parts = three (ltb x.p i) (eqb x.q 0) (eqb x.r 0) h in
    let p : x.p < i = ltb-true x.p i parts.0 in
    let q : x.q ≡ 0 = eqb-true x.q 0 parts.1 in
    let r : x.r ≡ 0 = eqb-true x.r 0 parts.2 in
    (p, omega arith, omega arith)

pub two_below : (i : ℕ) (x : Term) → placed_as Two i x ≡ true → (x.p < i) × (x.q < i) × (x.r < i)
two_below i x h =
    let parts = three (ltb x.p i) (ltb x.q i) (eqb x.r 0) h in
    let p : x.p < i = ltb-true x.p i parts.0 in
    let r : x.r ≡ 0 = eqb-true x.r 0 parts.2 in
    (p, ltb-true x.q i parts.1, omega arith)

-- of a function, by its rank
pub rank_below : {n : Arity} (r : FunctionRank n) (i : ℕ) (x : Term) → placed_as (fields_of (applied r)) i x ≡ true → (x.p < i) × (x.q < i) × (x.r < i)
rank_below bool_unary i x h = one_below i x h
rank_below bool_binary i x h = two_below i x h
rank_below equality i x h = two_below i x h
rank_below bv_unary i x h = one_below i x h
rank_below bv_binary i x h = two_below i x h
rank_below bv_compare i x h = two_below i x h

-- of any operator
pub operands-placed : (op : Op) (i : ℕ) (x : Term) → placed_as (fields_of (rank_of op)) i x ≡ true → immediate op ≡ false → slotted op ≡ false → (x.p < i) × (x.q < i) × (x.r < i)
operands-placed Constant i x h c v = never (sym c)
operands-placed Variable i x h c v = never (sym v)
operands-placed (Apply f) i x h c v = rank_below (function_rank f) i x h
operands-placed Ite i x h c v = three_placed i x h
operands-placed Select i x h c v = two_below i x h
operands-placed Store i x h c v = three_placed i x h
operands-placed Unknown i x h c v = three_placed i x h
