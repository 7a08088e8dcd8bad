use Rattle.std.proofs.Common.{rules, tests, ◌∙◌}
use Rattle.std.proofs.lemmas.Iterator.{YieldsList-from_slice}
use Rattle.std.proofs.lemmas.Iterator.Search.{all_from_yields_List}
use Rattle.parser.specs.Words.{symbolic}
use Rattle.parser.proofs.Lists.{every_is}
use Rattle.parser.proofs.words.all_symbolic.Goals as goal

pub returns : goal.returns
returns c =
    all_from_yields_List (λ b. symbolic b) _ _ _ c.all.ensures.ran (YieldsList-from_slice c.args.word.now cc) (λ x b q k. search (rules, tests))
    ∙ every_is _ _
