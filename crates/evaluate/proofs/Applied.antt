-- An operator's value is its term's where its operands' values are.
-- Assumes nothing.
use mathlib.Core.Path.{◌≡◌, refl, sym, ap}
use mathlib.Core.Bool.{false, cond}
use Prim.Native.Nat.{ℕ}
use lib.Dec.{eqb}
use Rattle.ops.specs.declared.Op.{Op}
use Rattle.ops.specs.declared.Op.TheVariants.{Constant, Variable, Apply, Ite, Select, Store, Unknown}
use Rattle.ops.specs.Meaning as Ops
use Rattle.ops.specs.Meaning.{Operation, operation, holds}
use Rattle.ops.specs.Meaning.Operation.{unary, strict, absorbing, shift, fixed}
use Rattle.ops.specs.Ranks.{FunctionRank, arity, function_rank}
use Rattle.ops.specs.Ranks.Arity.{one, two}
use Rattle.ops.specs.Ranks.FunctionRank.{bool_unary, bool_binary, equality, bv_unary, bv_binary, bv_compare}
use Rattle.ops.proofs.Booleans.{never}
use Rattle.table.specs.declared.ranks.Fields.{Fields}
use Rattle.table.specs.declared.ranks.Fields.TheVariants.{Value as Literal, Slot, One, Two, Three}
use Rattle.table.specs.declared.words.Term.{Term}
use Rattle.table.specs.Ranks as Ranks
use Rattle.table.specs.Ranks.{rank_of, fields_of, immediate, slotted}
use Rattle.setting.specs.Interpretation.{Value, Interpretation}
use Rattle.evaluate.specs.Values.{scalar_value, array_value, value_by}
use Rattle.evaluate.specs.Applied.{applied}

-- of term x, by the values v of the terms and its first operand's width; beside them a width and operands' values of some other source
module _ (v : ℕ → Value) (x : Term) (width width' : ℕ) (val : ℕ → Value) where
  -- they are the same, as far as the fields hold operands
  abbrev pub SameOperands : Fields → Type 0
  SameOperands Literal = Unit {0}
  SameOperands Slot = Unit {0}
  SameOperands One = (width' ≡ width) × (val 0 ≡ v x.p)
  SameOperands Two = (width' ≡ width) × (val 0 ≡ v x.p) × (val 1 ≡ v x.q)
  SameOperands Three = (width' ≡ width) × (val 0 ≡ v x.p) × (val 1 ≡ v x.q) × (val 2 ≡ v x.r)

  -- a function has one operand or two
  of_one : (r : FunctionRank one) → SameOperands (fields_of (Ranks.applied r)) → SameOperands One
  of_one bool_unary h = h
  of_one bv_unary h = h

  of_two : (r : FunctionRank two) → SameOperands (fields_of (Ranks.applied r)) → SameOperands Two
  of_two bool_binary h = h
  of_two equality h = h
  of_two bv_binary h = h
  of_two bv_compare h = h

  function_value : (o : Operation) (r : FunctionRank (arity o)) → SameOperands (fields_of (Ranks.applied r))
      → Ops.value_by o width' (val 0).num (val 1).num ≡ Ops.value_by o width (v x.p).num (v x.q).num
  function_value (unary f) r h = let (n, p) = of_one r h in λ i. f (n i) (p i).num
  function_value (strict f) r h = let (n, p, q) = of_two r h in λ i. f (n i) (p i).num (q i).num
  function_value (absorbing f a b) r h = let (n, p, q) = of_two r h in λ i. f (n i) (p i).num (q i).num
  function_value (shift f b) r h = let (n, p, q) = of_two r h in λ i. f (n i) (p i).num (q i).num
  function_value (fixed f a b) r h = let (n, p, q) = of_two r h in λ i. f (n i) (p i).num (q i).num

  pub applied-value : (I : Interpretation) (op : Op) → immediate op ≡ false → slotted op ≡ false → SameOperands (fields_of (rank_of op))
      → applied op width' val ≡ value_by I v width x op
  unfolding value_by Ops.apply
  applied-value I Constant c s h = never (sym c)
  applied-value I Variable c s h = never (sym s)
  applied-value I (Apply f) c s h = ap scalar_value (function_value (operation f) (function_rank f) h)
  applied-value I Ite c s (n, p, q, r) = λ i. cond (holds (p i).num) (q i) (r i)
  applied-value I Select c s (n, p, q) = λ i. scalar_value ((p i).cell (q i).num)
  applied-value I Store c s (n, p, q, r) = λ i. array_value (λ j. cond (eqb (q i).num j) (r i).num ((p i).cell j))
  applied-value I Unknown c s h = refl
