-- What is handed to a solver: an SMT-LIB script of declarations, definitions and one assertion, and its text. Req 01, line by line.
-- Assumes nothing.
use Rattle.std.specs.Prelude.{◌≡◌, true, List, [], ◌∷◌, ℕ}
use Rattle.ops.specs.Fits.{fits}
use Rattle.smtlib.specs.Bytes.{◌⧺◌, bytes}
use Rattle.smtlib.specs.Numerals.{numeral}
use Rattle.smtlib.specs.Symbols.{operator_name, sort_name, constant_name}
use Rattle.smtlib.specs.Laws.{Named}
use Rattle.table.specs.declared.words.Sort.{Sort}

-- a name: of an input, v and its slot; of a definition, t and its number
pub data Name : Type 0 where
  input : ℕ → Name
  defined : ℕ → Name

-- the body of a definition: a constant, by its value; an operator, by paper 01's number, and its operands
pub data Body : Type 0 where
  constant : ℕ → Body
  application : ℕ → List Name → Body

-- a line: the declaration of a slot with its sort; the definition of a number with its sort and body
pub data Command : Type 0 where
  declare : ℕ → Sort → Command
  define : ℕ → Sort → Body → Command

pub record Script : Type 0 where
  pub commands : List Command
  pub asserted : Name

-- The text

unfoldable pub name_text : Name → List ℕ
name_text (input s) = bytes "v" ⧺ numeral s
name_text (defined k) = bytes "t" ⧺ numeral k

-- operands, each after a space
unfoldable pub operands_text : List Name → List ℕ
operands_text [] = []
operands_text (x ∷ xs) = bytes " " ⧺ name_text x ⧺ operands_text xs

abbrev pub sort_text : Sort → List ℕ
sort_text s = sort_name s.m s.n

-- of width n
unfoldable pub body_text : ℕ → Body → List ℕ
body_text n (constant v) = constant_name n v
body_text n (application op xs) = bytes "(" ⧺ operator_name op ⧺ operands_text xs ⧺ bytes ")"

unfoldable pub command_text : Command → List ℕ
command_text (declare s sort) = bytes "(declare-const " ⧺ name_text (input s) ⧺ bytes " " ⧺ sort_text sort ⧺ bytes ")\n"
command_text (define k sort body) =
    bytes "(define-fun " ⧺ name_text (defined k) ⧺ bytes " () " ⧺ sort_text sort ⧺ bytes " " ⧺ body_text sort.n body ⧺ bytes ")\n"

unfoldable pub commands_text : List Command → List ℕ
commands_text [] = []
commands_text (c ∷ cs) = command_text c ⧺ commands_text cs

unfoldable pub script_text : Script → List ℕ
script_text s =
    bytes "(set-logic QF_ABV)\n"
    ⧺ commands_text s.commands
    ⧺ bytes "(assert " ⧺ name_text s.asserted ⧺ bytes ")\n"
    ⧺ bytes "(check-sat)\n"

-- What has one text: constants fit their width, operators have names

abbrev pub SoundBody : ℕ → Body → Type 0
SoundBody n (constant v) = fits n v ≡ true
SoundBody n (application op xs) = Named op

abbrev pub SoundCommand : Command → Type 0
SoundCommand (declare s sort) = Unit {0}
SoundCommand (define k sort body) = SoundBody sort.n body

unfoldable pub SoundCommands : List Command → Type 0
SoundCommands [] = Unit {0}
SoundCommands (c ∷ cs) = SoundCommand c × SoundCommands cs

-- The theorem: a text is read in one way.
abbrev pub OneReading : Type 0
OneReading = (a b : Script) → SoundCommands a.commands → SoundCommands b.commands → script_text a ≡ script_text b → a ≡ b
