-- The grammar is unambiguous: a text has one derivation at most, not only one rule that it spells.
-- Assumes nothing.
use Rattle.std.specs.Prelude.{◌≡◌, List, ℕ}
use Rattle.parser.specs.Grammar.{Rule, Reads}

-- of one rule: two derivations are equal
abbrev pub OneDerivation : Type 0
OneDerivation = (text : List ℕ) (r : Rule) (d d' : Reads text r) → d ≡ d'

-- a rule that the text spells, with its derivation
pub record Reading (text : List ℕ) : Type 0 where
  pub rule : Rule
  pub reads : Reads text rule

-- of one text: two rules with their derivations are equal
abbrev pub Unambiguous : Type 0
Unambiguous = (text : List ℕ) (a b : Reading text) → a ≡ b
