-- How many terms a text counts: those of its rule, and 513 where there are more.
-- Assumes nothing.
use mathlib.Core.Path.{◌≡◌, refl}
use mathlib.Core.Bool.{Bool, true, false}
use native.Mathlib.Omega.{arith}
use lib.Dec.{ltb}
use lib.ListN.{length}
use borrow.Author.Tests.{ltb-true, ltb-false}
use Rattle.parser.specs.Expressions.{number}
use Rattle.parser.specs.Rules.{rule_of}
use Rattle.parser.specs.Trees.{rule_terms}
use Rattle.parser.proofs.Complete.{complete}
use Rattle.prefixes.specs.Laws.{TermsCounted}

pub terms-counted : TermsCounted
terms-counted text r small d m = go (ltb (length (rule_terms r)) 513) refl
  where
    go : (b : Bool) → ltb (length (rule_terms r)) 513 ≡ b → (rule_of text).progress.state.count ≡ number (length (rule_terms r))
    go true e = rw e ((complete text r small d m).counted (omega (arith, ltb-true (length (rule_terms r)) 513 e)))
    go false e = rw e ((complete text r small d m).over (omega (arith, ltb-false (length (rule_terms r)) 513 e)))
