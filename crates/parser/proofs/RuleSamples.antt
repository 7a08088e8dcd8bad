-- Rules by computation: how far texts are read, with no room.
-- Assumes nothing.
use Rattle.parser.specs.declared.states.Fault.TheVariants as fault_kind
use Rattle.std.specs.Prelude.{None, Some}
use mathlib.Core.Path.{◌≡◌, refl}
use mathlib.Core.List.{List, [], ◌∷◌}
use Prim.Native.Nat.{ℕ}
use lib.ListN.{replicate}
use Rattle.smtlib.specs.Bytes.{bytes, same_bytes, place_in}
use Rattle.smtlib.specs.Numerals.{value_of}
use Rattle.table.specs.Folds.{every}
use Rattle.table.specs.Code.Writing.{placed}
use Rattle.parser.specs.declared.states.State.{State}
use Rattle.parser.specs.Words.{among, symbol, private, marked, plain_of, word_of, ahead, word_from, token_at}
use Rattle.parser.specs.Names.{closing, index_from}
use Rattle.parser.specs.Expressions.{fault_in, head_of, expression_of}
use Rattle.parser.specs.Rules.{expected, width_of, vector_of, array_of, sort_of, new_name, declaration_of, joined_rule, assert_of, ended_rule, check_of, command_by, command_of, commands_of, start}

-- the state after a text of so many commands
read : ℕ → List ℕ → State
read n text = (commands_of n text (record { progress = start; room = [] })).progress.state

-- the fault of a text, and its place
faults : ℕ → List ℕ → List ℕ
faults n text = (fault_in (read n text)) ∷ (read n text).at ∷ []

empty : faults 1 [] ∷ faults 1 (bytes " \n") ∷ [] ≡ (31 ∷ 0 ∷ []) ∷ (31 ∷ 2 ∷ []) ∷ []
unfolding read faults same_bytes place_in value_of every among symbol private plain_of word_of ahead word_from token_at expected ended_rule check_of command_by command_of commands_of
empty = refl

-- 35 at the word; a word that is no command
no-assert : faults 2 (bytes "(check-sat)") ∷ faults 2 (bytes "(exit)") ∷ [] ≡ (35 ∷ 1 ∷ []) ∷ (31 ∷ 1 ∷ []) ∷ []
unfolding read faults same_bytes place_in value_of every among symbol private plain_of word_of ahead word_from token_at expected ended_rule check_of command_by command_of commands_of
no-assert = refl

sorts : sort_of (bytes "Bool") start.state ∷ sort_of (bytes "(_ BitVec 8)") start.state ∷ sort_of (bytes "(_ BitVec 08)") start.state ∷ sort_of (bytes "Array") start.state ∷ []
    ≡ record { state = record { at = 4; count = 0; root = 0; fault = None }; sort = record { m = 0; n = 0 } } ∷ record { state = record { at = 12; count = 0; root = 0; fault = None }; sort = record { m = 0; n = 8 } }
    ∷ record { state = record { at = 10; count = 0; root = 0; fault = Some fault_kind.Unexpected }; sort = record { m = 0; n = 0 } } ∷ record { state = record { at = 0; count = 0; root = 0; fault = Some fault_kind.Unexpected }; sort = record { m = 0; n = 0 } } ∷ []
unfolding same_bytes place_in value_of every among symbol private plain_of word_of ahead word_from token_at expected width_of vector_of array_of sort_of
sorts = refl

array : sort_of (bytes "(Array (_ BitVec 4) (_ BitVec 8))") start.state ≡ record { state = record { at = 33; count = 0; root = 0; fault = None }; sort = record { m = 4; n = 8 } }
unfolding same_bytes place_in value_of every among symbol private plain_of word_of ahead word_from token_at expected width_of vector_of array_of sort_of
array = refl

-- a name declared again
again : faults 2 (bytes "(declare-const a Bool)(declare-const a Bool)") ≡ 32 ∷ 37 ∷ []
unfolding read faults same_bytes place_in value_of every among symbol private marked plain_of word_of ahead word_from token_at closing index_from placed expected width_of vector_of array_of sort_of new_name declaration_of ended_rule check_of command_by command_of commands_of
again = refl

-- a sole assert of a name is joined with itself; of a constant it is not
bare : read 3 (bytes "(declare-const a Bool)(assert a)(check-sat)") ∷ read 2 (bytes "(assert true)(check-sat)") ∷ [] ≡ record { at = 43; count = 2; root = 1; fault = None } ∷ record { at = 24; count = 1; root = 0; fault = None } ∷ []
unfolding read same_bytes place_in value_of every among symbol private marked plain_of word_of ahead word_from token_at closing index_from placed head_of expression_of expected width_of vector_of array_of sort_of new_name declaration_of joined_rule assert_of ended_rule check_of command_by command_of commands_of
bare = refl

-- the table: a marked vector, two constants, and the second assert joined after the first
table : (commands_of 4 (bytes "(declare-const x1 (_ BitVec 3))(assert true)(assert false)(check-sat)") (record { progress = start; room = replicate 24 0 })).room
    ≡ 1 ∷ 0 ∷ 3 ∷ 0 ∷ 1 ∷ 0 ∷ 0 ∷ 0 ∷ 0 ∷ 1 ∷ 0 ∷ 0 ∷ 0 ∷ 0 ∷ 0 ∷ 0 ∷ 0 ∷ 0 ∷ 3 ∷ 0 ∷ 0 ∷ 1 ∷ 2 ∷ 0 ∷ []
unfolding same_bytes place_in value_of every among symbol private marked plain_of word_of ahead word_from token_at closing index_from placed head_of expression_of expected width_of vector_of array_of sort_of new_name declaration_of joined_rule assert_of ended_rule check_of command_by command_of commands_of
table = refl
