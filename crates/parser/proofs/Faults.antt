-- Whether a state has a fault, as the code asks it.
-- Assumes nothing.
use Rattle.std.specs.Prelude.{◌≡◌, Bool, true, false, Option, None, Some, is_some, not, eqb}
use Rattle.std.proofs.Common.{refl, sym, ◌∙◌, arith}
use Rattle.std.proofs.lemmas.Bool.{false≢true}
use borrow.Author.Tests.{ne_eqb}
use Rattle.parser.specs.declared.states.Fault.{Fault}
use Rattle.parser.specs.declared.states.Fault.TheVariants as fault_kind
use Rattle.parser.specs.Expressions.{fault_number, numbered}

-- no fault is none
pub some_number : (f : Fault) → fault_number f ≡ 0 → ⊥
some_number fault_kind.Unexpected e = omega (arith, e)
some_number fault_kind.Undeclared e = omega (arith, e)
some_number fault_kind.TooDeep e = omega (arith, e)
some_number fault_kind.Miscounted e = omega (arith, e)
some_number fault_kind.Unasserted e = omega (arith, e)

pub faulted : (f : Option Fault) {r : Bool} → r ≡ is_some f → r ≡ true → numbered f ≡ 0 → ⊥
faulted None e t = absurd (false≢true (sym e ∙ t))
faulted (Some f) e t = some_number f

pub clean : (f : Option Fault) {r : Bool} → r ≡ is_some f → r ≡ false → numbered f ≡ 0
clean None e t = refl
clean (Some f) e t = absurd (false≢true (sym t ∙ e))

pub none_from : (f : Option Fault) → numbered f ≡ 0 → f ≡ None
none_from None e = refl
none_from (Some f) e = absurd (some_number f e)

pub is_faulted : (f : Option Fault) → is_some f ≡ not (eqb (numbered f) 0)
is_faulted None = refl
is_faulted (Some f) = rw (ne_eqb (fault_number f) 0 (some_number f))
