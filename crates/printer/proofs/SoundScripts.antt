-- The script of a well-formed table is sound: its constants fit their widths, its operators have names.
-- Assumes nothing.
use mathlib.Core.Path.{◌≡◌, refl, ap, subst, ◌∙◌}
use mathlib.Core.Bool.{Bool, true, false, cond}
use mathlib.Core.List.{List, [], ◌∷◌, ◌++◌, map}
use Prim.Native.Nat.{ℕ, zero, suc, ◌≤◌, ◌<◌}
use native.Mathlib.Omega.{arith}
use lib.Dec.{eqb}
use borrow.Author.Tests.{eqb-false, leb-true}
use Rattle.ops.specs.declared.Op.{Op}
use Rattle.ops.specs.declared.Op.TheVariants.{Constant, Variable}
use Rattle.ops.specs.Numbers.{op_of, last_op}
use Rattle.ops.specs.Fits.{fits}
use Rattle.smtlib.specs.Bytes.{each}
use Rattle.smtlib.specs.Laws.{Named}
use Rattle.table.specs.declared.words.Term.{Term}
use Rattle.table.specs.Terms.{terms, term_at, sort_at}
use Rattle.table.specs.Ranks.{rank_of, fields_of, slotted, immediate}
use Rattle.table.specs.Faults.{fields, is_variable, is_constant, valued_as}
use Rattle.table.specs.WellFormed.{Sound}
use Rattle.table.proofs.OpNumbers.{number_of}
use Rattle.printer.specs.Scripts.{Command, SoundBody, SoundCommands}
use Rattle.printer.specs.Scripts.Body.{constant, application}
use Rattle.printer.specs.Scripts.Command.{declare, define}
use Rattle.printer.specs.Printed.{name, operands, body, first_use, declaration, definition, script}
use Rattle.printer.specs.Meaning.{ScriptSound}
use Rattle.printer.proofs.Operands.{variable_number_lem, constant_number}

-- Commands one after the other are sound where each is

sound-append : (cs ds : List Command) → SoundCommands cs → SoundCommands ds → SoundCommands (cs ++ ds)
unfolding SoundCommands
sound-append [] ds p q = q
sound-append (c ∷ cs) ds (p, ps) q = (p, sound-append cs ds ps q)

sound-each : (line : ℕ → List Command) (n : ℕ) → ((k : ℕ) → k < n → SoundCommands (line k)) → SoundCommands (each line n)
unfolding each SoundCommands
sound-each line zero h = tt
sound-each line (suc n) h = sound-append (each line n) (line n) (sound-each line n (λ k b. h k (omega arith))) (h n (omega arith))

-- The operator of a constant is Constant, of a variable Variable

pub constant_op : (x : Term) → is_constant x ≡ true → op_of x.op ≡ Constant
constant_op x c = ap op_of (constant_number x c)

pub variable_op : (x : Term) → is_variable x ≡ true → op_of x.op ≡ Variable
variable_op x v = ap op_of (variable_number_lem x v)

-- a declaration has nothing that could fail
declaration-sound : (t : List ℕ) (s : ℕ) → SoundCommands (declaration t s)
unfolding declaration SoundCommands
declaration-sound t s = go (eqb (first_use t s) (terms t))
  where
    go : (b : Bool) → SoundCommands (cond b [] (declare s (sort_at t (first_use t s)) ∷ []))
    go true = tt
    go false = (tt, tt)

module _ (t : List ℕ) (k : ℕ) (sound : Sound t k) where
  abbrev x : Term
  x = term_at t k

  constant-fits : is_constant x ≡ true → fits x.sort.n x.p ≡ true
  constant-fits c = subst (λ (op : Op). valued_as (fields_of (rank_of op)) x ≡ true) (constant_op x c) sound.is_valued

  operator_named : is_variable x ≡ false → is_constant x ≡ false → Named x.op
  operator_named v c =
      let zero-not = eqb-false x.op 0 (number_of immediate 0 refl refl x.op ∙ c) in
      let one-not = eqb-false x.op 1 (number_of slotted 1 refl refl x.op ∙ v) in
      let known : x.op ≤ last_op = leb-true x.op last_op sound.is_known in
      (omega (arith, zero-not, one-not), omega arith)

  body-sound : is_variable x ≡ false → SoundBody x.sort.n (body t x)
  unfolding body
  body-sound v = go (is_constant x) refl
    where
      go : (b : Bool) → is_constant x ≡ b → SoundBody x.sort.n (cond b (constant x.p) (application x.op (map (name t) (operands (fields x) x))))
      go true c = constant-fits c
      go false c = operator_named v c

  definition-sound : SoundCommands (definition t k)
  unfolding definition SoundCommands
  definition-sound = go (is_variable x) refl
    where
      go : (b : Bool) → is_variable x ≡ b → SoundCommands (cond b [] (define k (sort_at t k) (body t x) ∷ []))
      go true v = tt
      go false v = (body-sound v, tt)

-- The script of a well-formed table is sound.
pub script-sound : ScriptSound
unfolding script
script-sound limit t w =
    sound-append (each (declaration t) 256) (each (definition t) (terms t))
    (sound-each (declaration t) 256 (λ s b. declaration-sound t s))
    (sound-each (definition t) (terms t) (λ k b. definition-sound t k (w.sound k b)))
