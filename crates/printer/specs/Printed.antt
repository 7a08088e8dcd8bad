-- The script of a table: Req 01, "one declare-const for each used slot, ascending .. one define-fun for each other term, ascending
-- .. an assert of the last term".
-- Assumes nothing.
use Rattle.std.specs.Prelude.{Bool, cond, ◌&&◌, List, [], ◌∷◌, ◌++◌, map, ℕ, pred, eqb}
use Rattle.smtlib.specs.Bytes.{each}
use Rattle.table.specs.declared.ranks.Fields.{Fields}
use Rattle.table.specs.declared.ranks.Fields.TheVariants.{Value, Slot, One, Two, Three}
use Rattle.table.specs.declared.words.Term.{Term}
use Rattle.table.specs.Folds.{first_from}
use Rattle.table.specs.Terms.{terms, term_at, sort_at}
use Rattle.table.specs.Faults.{fields, is_variable, is_constant}
use Rattle.printer.specs.Scripts.{Name, Body, Command, Script, script_text}
use Rattle.printer.specs.Scripts.Name.{input, defined}
use Rattle.printer.specs.Scripts.Body.{constant, application}
use Rattle.printer.specs.Scripts.Command.{declare, define}

-- the name of term k, as an operand and in the assert: a variable has no t, it is v and its slot
unfoldable pub name : List ℕ → ℕ → Name
name t k = cond (is_variable (term_at t k)) (input (term_at t k).p) (defined k)

-- the operands p, q, r in this order
abbrev pub operands : Fields → Term → List ℕ
operands Value x = []
operands Slot x = []
operands One x = x.p ∷ []
operands Two x = x.p ∷ x.q ∷ []
operands Three x = x.p ∷ x.q ∷ x.r ∷ []

unfoldable pub body : List ℕ → Term → Body
body t x = cond (is_constant x) (constant x.p) (application x.op (map (name t) (operands (fields x) x)))

-- a variable of slot s
abbrev pub uses : Term → ℕ → Bool
uses x s = is_variable x && eqb x.p s

-- the first term that is a variable of slot s; the count of terms where there is none
unfoldable pub first_use : List ℕ → ℕ → ℕ
first_use t s = first_from (λ k. uses (term_at t k) s) (terms t) 0

-- the declaration of a slot that is used; the definition of a term that is no variable
unfoldable pub declaration : List ℕ → ℕ → List Command
declaration t s = cond (eqb (first_use t s) (terms t)) [] (declare s (sort_at t (first_use t s)) ∷ [])

unfoldable pub definition : List ℕ → ℕ → List Command
definition t k = cond (is_variable (term_at t k)) [] (define k (sort_at t k) (body t (term_at t k)) ∷ [])

unfoldable pub script : List ℕ → Script
script t =
    record {
      commands = each (declaration t) 256 ++ each (definition t) (terms t);
      asserted = name t (pred (terms t));
    }

-- the text of a table
abbrev pub text : List ℕ → List ℕ
text t = script_text (script t)
