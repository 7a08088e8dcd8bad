-- The language as a grammar: Req 02, as settled. A derivation says which words stand where, and what they spell:
--     rule        = { declaration } { assert } "(" "check-sat" ")"
--     declaration = "(" "declare-const" name sort ")"
--     sort        = "Bool" | vector | "(" "Array" vector vector ")"
--     vector      = "(" "_" "BitVec" width ")"
--     assert      = "(" "assert" expression ")"
--     expression  = constant | name | "(" operator { expression } ")"
-- Any count of operands, any depth, any names: what is asked besides is in Trees.
-- Assumes nothing.
use Rattle.std.specs.Prelude.{Option, Some, ◌≡◌, List, [], ◌∷◌, ℕ}
use Rattle.smtlib.specs.Bytes.{part}
use Rattle.table.specs.declared.words.Sort.{Sort}
use Rattle.parser.specs.declared.words.Word.{Word}
use Rattle.parser.specs.declared.words.Word.TheVariants.{Open, Close, Keyword, Operator, Literal, Width, Name, End}
use Rattle.parser.specs.declared.words.Keyword.TheVariants.{DeclareConst, Assert, CheckSat, Underscore}
use Rattle.parser.specs.declared.words.SortName.{SortName}
use Rattle.parser.specs.declared.words.SortName.TheVariants as sort_name
use Rattle.parser.specs.Words.{token_at}

-- what is spelt: expressions
mutual
  pub data Tree : Type 0 where
    literal : ℕ → ℕ → Tree
    symbol : List ℕ → Tree
    apply : ℕ → Trees → Tree

  pub data Trees : Type 0 where
    nil : Trees
    cons : Tree → Trees → Trees

-- a declared name with its sort
pub record Declared : Type 0 where
  pub name : List ℕ
  pub sort : Sort

pub record Rule : Type 0 where
  pub declarations : List Declared
  pub asserts : List Tree

-- the word w stands at a place, and the next one is sought from another
pub record Stands (text : List ℕ) (from : ℕ) (w : Word) (to : ℕ) : Type 0 where
  pub here : (token_at text from).word ≡ w
  pub after : (token_at text from).next ≡ to

-- a name, by its bytes
pub record Named (text : List ℕ) (from : ℕ) (w : List ℕ) (to : ℕ) : Type 0 where
  pub sort : Option SortName
  pub stands : Stands text from (Name sort) to
  pub bytes_are : part text (token_at text from).from (token_at text from).next ≡ w

-- Sorts

pub data Vector (text : List ℕ) : ℕ → ℕ → ℕ → Type 0 where
  vector : {from a b c d n to : ℕ}
      → Stands text from Open a → Stands text a (Keyword Underscore) b → Stands text b (Name (Some sort_name.BitVec)) c → Stands text c (Width n) d → Stands text d Close to
      → Vector text from n to

pub data Sorting (text : List ℕ) : ℕ → Sort → ℕ → Type 0 where
  bool : {from to : ℕ} → Stands text from (Name (Some sort_name.Bool)) to → Sorting text from (record { m = 0; n = 0 }) to
  vector : {from n to : ℕ} → Vector text from n to → Sorting text from (record { m = 0; n = n }) to
  array : {from a b c d m n to : ℕ}
      → Stands text from Open a → Stands text a (Name (Some sort_name.Array)) b → Vector text b m c → Vector text c n d → Stands text d Close to
      → Sorting text from (record { m = m; n = n }) to

-- Expressions

mutual
  pub data Expression (text : List ℕ) : ℕ → Tree → ℕ → Type 0 where
    constant : {from n v to : ℕ} → Stands text from (Literal n v) to → Expression text from (literal n v) to
    name : {from to : ℕ} {w : List ℕ} → Named text from w to → Expression text from (symbol w) to
    list : {from op a b c to : ℕ} {ts : Trees}
        → Stands text from Open a → Stands text a (Operator op) b → Operands text b ts c → Stands text c Close to
        → Expression text from (apply op ts) to

  pub data Operands (text : List ℕ) : ℕ → Trees → ℕ → Type 0 where
    none : {from : ℕ} → Operands text from nil from
    more : {from mid to : ℕ} {t : Tree} {ts : Trees} → Expression text from t mid → Operands text mid ts to → Operands text from (cons t ts) to

-- Declarations and asserts, from the left

pub data Declarations (text : List ℕ) : ℕ → List Declared → ℕ → Type 0 where
  none : {from : ℕ} → Declarations text from [] from
  more : {from a b c d e to : ℕ} {w : List ℕ} {s : Sort} {ds : List Declared}
      → Stands text from Open a → Stands text a (Keyword DeclareConst) b → Named text b w c → Sorting text c s d → Stands text d Close e
      → Declarations text e ds to → Declarations text from (record { name = w; sort = s } ∷ ds) to

pub data Asserts (text : List ℕ) : ℕ → List Tree → ℕ → Type 0 where
  none : {from : ℕ} → Asserts text from [] from
  more : {from a b c d to : ℕ} {t : Tree} {ts : List Tree}
      → Stands text from Open a → Stands text a (Keyword Assert) b → Expression text b t c → Stands text c Close d → Asserts text d ts to
      → Asserts text from (t ∷ ts) to

-- a whole text
pub record Reads (text : List ℕ) (r : Rule) : Type 0 where
  pub declared_to : ℕ
  pub asserted_to : ℕ
  pub opened_to : ℕ
  pub checked_to : ℕ
  pub closed_to : ℕ
  pub declarations : Declarations text 0 r.declarations declared_to
  pub asserts : Asserts text declared_to r.asserts asserted_to
  pub opened : Stands text asserted_to Open opened_to
  pub checked : Stands text opened_to (Keyword CheckSat) checked_to
  pub closed : Stands text checked_to Close closed_to
  pub ended : (token_at text closed_to).word ≡ End

-- The theorem: a text has one reading.
abbrev pub OneReading : Type 0
OneReading = (text : List ℕ) (r r' : Rule) → Reads text r → Reads text r' → r ≡ r'
