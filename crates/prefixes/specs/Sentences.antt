-- The grammar over words alone: Grammar of the parser has it over the places of a text. A phrase leads from the words at its beginning
-- to those after it; a sentence is a whole rule and the end.
-- Assumes nothing.
use Rattle.std.specs.Prelude.{Option, Some, List, [], ◌∷◌, ℕ, suc}
use Rattle.parser.specs.declared.words.Word.{Word}
use Rattle.parser.specs.declared.words.Word.TheVariants.{Open, Close, Keyword, Operator, Literal, Width, Name, End}
use Rattle.parser.specs.declared.words.Keyword.TheVariants.{DeclareConst, Assert, CheckSat, Underscore}
use Rattle.parser.specs.declared.words.SortName.{SortName}
use Rattle.parser.specs.declared.words.SortName.TheVariants as sort_name

pub data Vector : List Word → List Word → Type 0 where
  vector : {n : ℕ} {us : List Word} → Vector (Open ∷ Keyword Underscore ∷ Name (Some sort_name.BitVec) ∷ Width (suc n) ∷ Close ∷ us) us

pub data Sorting : List Word → List Word → Type 0 where
  bool : {us : List Word} → Sorting (Name (Some sort_name.Bool) ∷ us) us
  vector : {ws us : List Word} → Vector ws us → Sorting ws us
  array : {ws vs us : List Word} → Vector ws vs → Vector vs (Close ∷ us) → Sorting (Open ∷ Name (Some sort_name.Array) ∷ ws) us

mutual
  pub data Expression : List Word → List Word → Type 0 where
    constant : {n v : ℕ} {us : List Word} → Expression (Literal n v ∷ us) us
    name : {k : Option SortName} {us : List Word} → Expression (Name k ∷ us) us
    list : {op : ℕ} {ws us : List Word} → Operands ws (Close ∷ us) → Expression (Open ∷ Operator op ∷ ws) us

  pub data Operands : List Word → List Word → Type 0 where
    none : {us : List Word} → Operands us us
    more : {ws vs us : List Word} → Expression ws vs → Operands vs us → Operands ws us

pub data Declarations : List Word → List Word → Type 0 where
  none : {us : List Word} → Declarations us us
  more : {k : Option SortName} {ws vs us : List Word} → Sorting ws (Close ∷ vs) → Declarations vs us → Declarations (Open ∷ Keyword DeclareConst ∷ Name k ∷ ws) us

pub data Asserts : List Word → List Word → Type 0 where
  none : {us : List Word} → Asserts us us
  more : {ws vs us : List Word} → Expression ws (Close ∷ vs) → Asserts vs us → Asserts (Open ∷ Keyword Assert ∷ ws) us

pub record Sentence (ws : List Word) : Type 0 where
  pub declared : List Word
  pub declarations : Declarations ws declared
  pub asserts : Asserts declared (Open ∷ Keyword CheckSat ∷ Close ∷ End ∷ [])
