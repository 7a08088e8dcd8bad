-- A term by what its fields hold: its operands, where they are, and what is kept when they are moved.
-- Assumes nothing.
use mathlib.Core.Path.{◌≡◌, refl, sym, ap, ◌∙◌}
use mathlib.Core.Bool.{Bool, true, false}
use mathlib.Core.List.{List, [], ◌∷◌, map}
use Prim.Native.Nat.{ℕ, ◌<◌}
use native.Mathlib.Omega.{arith}
use lib.Dec.{eqb, ltb}
use borrow.Author.Tests.{eqb-true}
use Rattle.ops.specs.declared.Op.{Op}
use Rattle.ops.specs.declared.Op.TheVariants.{Constant, Variable, Apply, Ite, Select, Store, Unknown}
use Rattle.ops.specs.Numbers.{op_of}
use Rattle.ops.specs.Ranks.{Arity, FunctionRank, function_rank}
use Rattle.ops.specs.Ranks.FunctionRank.{bool_unary, bool_binary, equality, bv_unary, bv_binary, bv_compare}
use Rattle.ops.proofs.Booleans.{never, and_parts}
use Rattle.table.specs.declared.ranks.Fields.{Fields}
use Rattle.table.specs.declared.ranks.Fields.TheVariants.{Value, Slot, One, Two, Three}
use Rattle.table.specs.declared.words.Term.{Term}
use Rattle.table.specs.Ranks.{applied, rank_of, fields_of, by_op, slotted, immediate}
use Rattle.table.specs.Faults.{fields, is_variable, is_constant, placed_as}
use Rattle.table.proofs.OpNumbers.{number_of}
use Rattle.table.proofs.OperandSorts.{three, one_below, two_placed, three_placed}
use Rattle.printer.specs.Printed.{operands}
use Rattle.printer.specs.Sharing.{moved_as, moved}

-- Constants hold values, variables slots, the others operands

abbrev by_fields : {A : Type 0} → A → A → A → Fields → A
by_fields c v o Value = c
by_fields c v o Slot = v
by_fields c v o One = o
by_fields c v o Two = o
by_fields c v o Three = o

module _ {A : Type 0} (c v o : A) where
  -- a function holds operands
  by_rank : {n : Arity} (r : FunctionRank n) → o ≡ by_fields c v o (fields_of (applied r))
  by_rank bool_unary = refl
  by_rank bool_binary = refl
  by_rank equality = refl
  by_rank bv_unary = refl
  by_rank bv_binary = refl
  by_rank bv_compare = refl

  -- what is told by the operator is told by its fields
  by_fields_lem : (op : Op) → by_op c v o o o o o op ≡ by_fields c v o (fields_of (rank_of op))
  by_fields_lem Constant = refl
  by_fields_lem Variable = refl
  by_fields_lem (Apply f) = by_rank (function_rank f)
  by_fields_lem Ite = refl
  by_fields_lem Select = refl
  by_fields_lem Store = refl
  by_fields_lem Unknown = refl

-- a variable holds a slot, a constant a value, and nothing else does
variable_by : (x : Term) → is_variable x ≡ by_fields false true false (fields x)
variable_by x = by_fields_lem false true false (op_of x.op)

constant_by : (x : Term) → is_constant x ≡ by_fields true false false (fields x)
constant_by x = by_fields_lem true false false (op_of x.op)

-- a variable's number is 1, a constant's 0
pub variable_number_lem : (x : Term) → is_variable x ≡ true → x.op ≡ 1
variable_number_lem x v = eqb-true x.op 1 (number_of slotted 1 refl refl x.op ∙ v)

pub constant_number : (x : Term) → is_constant x ≡ true → x.op ≡ 0
constant_number x c = eqb-true x.op 0 (number_of immediate 0 refl refl x.op ∙ c)

-- Operands

-- all of some numbers are below n
abbrev pub Below : ℕ → List ℕ → Type 0
Below n [] = Unit {0}
Below n (k ∷ ks) = (k < n) × Below n ks

-- the operands of a term in place are below it
pub placed_below : (s : Fields) (i n : ℕ) (x : Term) → i < n → placed_as s i x ≡ true → Below n (operands s x)
placed_below Value i n x b h = tt
placed_below Slot i n x b h = tt
placed_below One i n x b h = (omega (arith, (one_below i x h).0), tt)
placed_below Two i n x b h = let l = two_placed i x h in (omega (arith, l.0), (omega (arith, l.1), tt))
placed_below Three i n x b h = let l = three_placed i x h in (omega (arith, l.0), (omega (arith, l.1), (omega (arith, l.2), tt)))

-- the operands of a moved term are the moved operands
pub operands-moved : (s : Fields) (f : ℕ → ℕ) (x : Term) → operands s (moved_as s f x) ≡ map f (operands s x)
operands-moved Value f x = refl
operands-moved Slot f x = refl
operands-moved One f x = refl
operands-moved Two f x = refl
operands-moved Three f x = refl

-- moving keeps operator and sort
pub moved_op : (s : Fields) (f : ℕ → ℕ) (x : Term) → (moved_as s f x).op ≡ x.op
moved_op Value f x = refl
moved_op Slot f x = refl
moved_op One f x = refl
moved_op Two f x = refl
moved_op Three f x = refl

pub moved_sort : (s : Fields) (f : ℕ → ℕ) (x : Term) → (moved_as s f x).sort ≡ x.sort
moved_sort Value f x = refl
moved_sort Slot f x = refl
moved_sort One f x = refl
moved_sort Two f x = refl
moved_sort Three f x = refl

-- and a constant or a variable whole
moved_none : (c v : Bool) (s : Fields) (f : ℕ → ℕ) (x : Term) → by_fields c v false s ≡ true → moved_as s f x ≡ x
moved_none c v Value f x h = refl
moved_none c v Slot f x h = refl
moved_none c v One f x h = never h
moved_none c v Two f x h = never h
moved_none c v Three f x h = never h

pub moved_variable : (f : ℕ → ℕ) (x : Term) → is_variable x ≡ true → moved f x ≡ x
moved_variable f x v = moved_none false true (fields x) f x (sym (variable_by x) ∙ v)

pub moved-constant : (f : ℕ → ℕ) (x : Term) → is_constant x ≡ true → moved f x ≡ x
moved-constant f x c = moved_none true false (fields x) f x (sym (constant_by x) ∙ c)

-- a term moved nowhere is as it was
pub moved_nowhere : (s : Fields) (x : Term) → moved_as s (λ k. k) x ≡ x
moved_nowhere Value x = refl
moved_nowhere Slot x = refl
moved_nowhere One x = refl
moved_nowhere Two x = refl
moved_nowhere Three x = refl

-- A term is its operator, its sort and what its fields hold: the rest is 0

same-term : (x y : Term) → x.op ≡ y.op → x.sort ≡ y.sort → x.p ≡ y.p → x.q ≡ y.q → x.r ≡ y.r → x ≡ y
same-term x y op sort p q r = λ i. record { op = op i; sort = sort i; p = p i; q = q i; r = r i }

both_zero : (a b : ℕ) → eqb a 0 ≡ true → eqb b 0 ≡ true → a ≡ b
both_zero a b p q = eqb-true a 0 p ∙ sym (eqb-true b 0 q)

module _ (f : ℕ → ℕ) (i j : ℕ) (x y : Term) (op : x.op ≡ y.op) (sort : x.sort ≡ y.sort) where
  -- by what the fields hold
  moved_as_lem : (s : Fields) → placed_as s i x ≡ true → placed_as s j y ≡ true
      → (by_fields false true false s ≡ true → (x.p ≡ y.p) × (x.q ≡ y.q)) → (by_fields true false false s ≡ true → x.p ≡ y.p)
      → (by_fields false true false s ≡ false → by_fields true false false s ≡ false → map f (operands s x) ≡ operands s y)
      → moved_as s f x ≡ y
  moved_as_lem Value h k slot value names =
      let a = and_parts (eqb x.q 0) (eqb x.r 0) h in
      let b = and_parts (eqb y.q 0) (eqb y.r 0) k in
      same-term x y op sort (value refl) (both_zero x.q y.q a.0 b.0) (both_zero x.r y.r a.1 b.1)
  moved_as_lem Slot h k slot value names = same-term x y op sort (slot refl).0 (slot refl).1 (both_zero x.r y.r h k)
  moved_as_lem One h k slot value names =
      let a = three (ltb x.p i) (eqb x.q 0) (eqb x.r 0) h in
      let b = three (ltb y.p j) (eqb y.q 0) (eqb y.r 0) k in
      let e = names refl refl in
      same-term (moved_as One f x) y op sort (cc) (both_zero x.q y.q a.1 b.1) (both_zero x.r y.r a.2 b.2)
  moved_as_lem Two h k slot value names =
      let a = three (ltb x.p i) (ltb x.q i) (eqb x.r 0) h in
      let b = three (ltb y.p j) (ltb y.q j) (eqb y.r 0) k in
      let e = names refl refl in
      same-term (moved_as Two f x) y op sort (cc) (cc) (both_zero x.r y.r a.2 b.2)
  moved_as_lem Three h k slot value names = let e = names refl refl in same-term (moved_as Three f x) y op sort (cc) (cc) (cc)

  -- y is x moved where it has x's slot and mark, x's value, or x's operands moved
  pub moved_is : placed_as (fields x) i x ≡ true → placed_as (fields y) j y ≡ true
      → (is_variable x ≡ true → (x.p ≡ y.p) × (x.q ≡ y.q)) → (is_constant x ≡ true → x.p ≡ y.p)
      → (is_variable x ≡ false → is_constant x ≡ false → map f (operands (fields x) x) ≡ operands (fields y) y)
      → moved f x ≡ y
  moved_is h k slot value names =
      let v = variable_by x in
      let c = constant_by x in
      let same : fields x ≡ fields y = ap (λ (o : ℕ). fields_of (rank_of (op_of o))) op in
      moved_as_lem (fields x) h (ap (λ (s : Fields). placed_as s j y) same ∙ k)
      (λ e. slot (v ∙ e)) (λ e. value (c ∙ e)) (λ e d. names (v ∙ e) (c ∙ d) ∙ ap (λ (s : Fields). operands s y) (sym same))
