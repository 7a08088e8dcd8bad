-- What is proved of parsing, as named statements. The proofs are in proofs/.
-- Assumes nothing.
use Rattle.parser.specs.Expressions.{fault_in}
use Rattle.std.specs.Prelude.{◌≡◌, true, List, [], ◌∷◌, ℕ, ◌≤◌, ◌<◌, length}
use Rattle.table.specs.declared.words.Term.{Term}
use Rattle.parser.specs.Rules.{rule_of}
use Rattle.parser.specs.Parsing.{built}
use Rattle.parser.specs.Grammar.{Rule, Reads}
use Rattle.parser.specs.Trees.{meets, rule_terms}

-- the six numbers of each term
unfoldable pub numbers_of : List Term → List ℕ
numbers_of [] = []
numbers_of (x ∷ xs) = x.op ∷ x.sort.m ∷ x.sort.n ∷ x.p ∷ x.q ∷ x.r ∷ numbers_of xs

-- a text with a derivation that meets 32 to 35
pub record Accepted (text : List ℕ) : Type 0 where
  pub rule : Rule
  pub reads : Reads text rule
  pub met : meets rule ≡ true

-- Names are counted up to 2^62: a text has no more bytes than that.
abbrev pub Storable : List ℕ → Type 0
Storable text = length text ≤ 4611686018427387904

-- A text that is read without a fault is one of the language.
abbrev pub Sound : Type 0
Sound = (text : List ℕ) → Storable text → (fault_in (rule_of text).progress.state) ≡ 0 → Accepted text

-- Every text of the language is read without a fault, and its table is that of its tree; beyond 512 terms the count stays 513.
pub record Tabled (text : List ℕ) (r : Rule) : Type 0 where
  pub clean : (fault_in (rule_of text).progress.state) ≡ 0
  pub counted : length (rule_terms r) ≤ 512 → (rule_of text).progress.state.count ≡ length (rule_terms r)
  pub over : 512 < length (rule_terms r) → (rule_of text).progress.state.count ≡ 513
  pub table : length (rule_terms r) ≤ 512 → built text ≡ numbers_of (rule_terms r)

abbrev pub Complete : Type 0
Complete = (text : List ℕ) (r : Rule) → Storable text → Reads text r → meets r ≡ true → Tabled text r
