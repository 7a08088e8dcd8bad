-- What a solver reads in a script: each name's sort and value, in order, and the value of the assertion, in an interpretation of the
-- declared constants. Values are SMT-LIB's.
-- Assumes nothing.
use Rattle.std.specs.Prelude.{Ok, Err, ◌≡◌, Bool, true, false, cond, ◌||◌, List, [], ◌∷◌, ℕ, pred, ◌+◌, ◌*◌, ◌≤◌, eqb, length, get_or, take}
use Rattle.ops.specs.Numbers.{op_of}
use Rattle.table.specs.declared.words.Sort.{Sort}
use Rattle.table.specs.Folds.{every}
use Rattle.table.specs.Terms.{terms, boolean, scalar}
use Rattle.table.specs.Ranks.{rank_of, fields_of, operand_count}
use Rattle.table.specs.Faults.{sorted, typed_as}
use Rattle.table.specs.WellFormed.{WellFormed}
use Rattle.setting.specs.Interpretation.{Value, Interpretation}
use Rattle.evaluate.specs.Values.{scalar_value, value_at}
use Rattle.evaluate.specs.Applied.{applied, input_value}
use Rattle.printer.specs.Printing.{Printing}
use Rattle.printer.specs.Scripts.{Name, Body, Command, Script, SoundCommands, script_text}
use Rattle.printer.specs.Scripts.Name.{input, defined}
use Rattle.printer.specs.Scripts.Body.{constant, application}
use Rattle.printer.specs.Scripts.Command.{declare, define}
use Rattle.printer.specs.Printed.{script}

-- a name with its sort and its value
pub record Binding : Type 0 where
  pub name : Name
  pub sort : Sort
  pub value : Value

abbrev pub same_name : Name → Name → Bool
same_name (input a) (input b) = eqb a b
same_name (input a) (defined b) = false
same_name (defined a) (input b) = false
same_name (defined a) (defined b) = eqb a b

-- the latest binding of a name
unfoldable pub lookup : List Binding → Name → Binding
lookup [] x = record { name = x; sort = record { m = 0; n = 0 }; value = scalar_value 0 }
lookup (b ∷ bs) x = cond (same_name b.name x) b (lookup bs x)

-- operand i among some names
abbrev pub operand : List Binding → List Name → ℕ → Binding
operand bs xs i = lookup bs (get_or xs i (defined 0))

unfoldable pub body_value : List Binding → Body → Value
body_value bs (constant v) = scalar_value v
body_value bs (application op xs) = applied (op_of op) (operand bs xs 0).sort.n (λ i. (operand bs xs i).value)

-- a declared constant has the interpretation's value at its sort, a defined one its body's
abbrev pub bind : Interpretation → List Binding → Command → Binding
bind I bs (declare s sort) = record { name = input s; sort = sort; value = input_value sort (I s) }
bind I bs (define k sort body) = record { name = defined k; sort = sort; value = body_value bs body }

unfoldable pub read : Interpretation → List Binding → List Command → List Binding
read I bs [] = bs
read I bs (c ∷ cs) = read I (bind I bs c ∷ bs) cs

-- the value of the asserted name
abbrev pub meaning : Interpretation → Script → Value
meaning I s = (lookup (read I [] s.commands) s.asserted).value

-- What SMT-LIB asks of a script besides its grammar: each name is bound once and before it is used, each body has the sort that its
-- definition says, the assertion is Boolean. Sorts are asked by the operator's line in paper 01's table, which is SMT-LIB's. That operators
-- have names and constants fit is SoundCommands, beside it.

-- a name is bound
unfoldable pub has_name : Name → List Binding → Bool
has_name x [] = false
has_name x (b ∷ bs) = same_name b.name x || has_name x bs

-- every one of some names is bound, and they are as many as the operator has operands
abbrev pub TakesOperands : List Binding → ℕ → List Name → Type 0
TakesOperands bs op xs = (every (λ x. has_name x bs) xs ≡ true) × (length xs ≡ operand_count (fields_of (rank_of (op_of op))))

abbrev pub TakesBody : List Binding → Sort → Body → Type 0
TakesBody bs s (constant v) = scalar s ≡ true
TakesBody bs s (application op xs) =
    TakesOperands bs op xs × (typed_as (rank_of (op_of op)) s (operand bs xs 0).sort (operand bs xs 1).sort (operand bs xs 2).sort ≡ true)

abbrev pub TakesCommand : List Binding → Command → Type 0
TakesCommand bs (declare s sort) = (has_name (input s) bs ≡ false) × (sorted sort ≡ true)
TakesCommand bs (define k sort body) = (has_name (defined k) bs ≡ false) × (sorted sort ≡ true) × TakesBody bs sort body

unfoldable pub Takes : Interpretation → List Binding → List Command → Type 0
Takes I bs [] = Unit {0}
Takes I bs (c ∷ cs) = TakesCommand bs c × Takes I (bind I bs c ∷ bs) cs

pub record Taken (I : Interpretation) (s : Script) : Type 0 where
  pub commands : Takes I [] s.commands
  pub asserted : has_name s.asserted (read I [] s.commands) ≡ true
  pub truth : boolean (lookup (read I [] s.commands) s.asserted).sort ≡ true

abbrev pub ScriptTaken : Type 0
ScriptTaken = (limit : ℕ) (t : List ℕ) → WellFormed limit t → (I : Interpretation) → Taken I (script t)

-- Constants fit and operators have names, so that the text is read in one way.
abbrev pub ScriptSound : Type 0
ScriptSound = (limit : ℕ) (t : List ℕ) → WellFormed limit t → SoundCommands (script t).commands

-- The theorem: the asserted value is the rule's, in every interpretation.
abbrev pub ScriptMeansRule : Type 0
ScriptMeansRule = (limit : ℕ) (t : List ℕ) → WellFormed limit t → (I : Interpretation) → meaning I (script t) ≡ value_at t I (pred (terms t))

-- So of every script that has this text: the solver's question is ours.
pub record Question (t x : List ℕ) : Type 0 where
  pub sound : SoundCommands (script t).commands
  pub taken : (I : Interpretation) → Taken I (script t)
  pub reading : (s : Script) → SoundCommands s.commands → script_text s ≡ x → s ≡ script t
  pub means : (s : Script) → SoundCommands s.commands → script_text s ≡ x → (I : Interpretation) → meaning I s ≡ value_at t I (pred (terms t))
  pub few : length x ≤ 14639 + 88 * terms t

-- what printing promises besides its answer: nothing for a refusal. room is what it left
abbrev pub PrintingPromise : List ℕ → List ℕ → Printing → Type 0
PrintingPromise t room (Ok n) = Question t (take n room)
PrintingPromise t room (Err r) = Unit {0}
