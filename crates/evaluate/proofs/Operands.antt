-- The operands of a term stand among the terms before it.
-- Assumes nothing.
use mathlib.Core.Path.{◌≡◌, sym, subst}
use mathlib.Core.Bool.{true, false}
use mathlib.Core.List.{List}
use Prim.Native.Nat.{ℕ}
use lib.ListN.{length}
use Rattle.ops.specs.Numbers.{op_of}
use Rattle.table.specs.declared.words.Term.{Term}
use Rattle.table.specs.Faults.{fields, is_constant, is_variable, placed_as}
use Rattle.table.specs.WellFormed.{WellFormed}
use Rattle.table.proofs.OperandSorts.{operands-placed}
use Rattle.evaluate.specs.Code.Turns.{Next, Behind}

pub behind : (limit : ℕ) (w front : List ℕ) (x : Term) → WellFormed limit w → Next w front x → is_constant x ≡ false → is_variable x ≡ false → Behind front x
behind limit w front x f n c v =
    let is : placed_as (fields x) (length front) x ≡ true = subst (λ (y : Term). placed_as (fields y) (length front) y ≡ true) (sym n.is) (f.sound (length front) n.inside).is_placed in
    let below = operands-placed (op_of x.op) (length front) x is c v in
    record { p = below.0; q = below.1; r = below.2 }
