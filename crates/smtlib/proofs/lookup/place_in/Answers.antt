use Rattle.std.proofs.Common.{◌≡◌, length, sym, arith, ◌∙◌}
use Rattle.smtlib.proofs.Searches.{word-found, word-passed, no-word-found}
use Rattle.smtlib.proofs.lookup.place_in.Goals as goal

pub returns-then-same_part : goal.returns-then-same_part
returns-then-same_part c = word-found _ _ _ _ _ c.loop-k.invariant c.loop-k-test.true (sym c.same_part.ensures ∙ c.if-same_part.true)

pub loop-k-preserved : goal.loop-k-preserved
loop-k-preserved c = word-passed _ _ _ _ _ c.loop-k.invariant c.loop-k-test.true (sym c.same_part.ensures ∙ c.if-same_part.false)

pub returns : goal.returns
returns c = let k : c.loop-k.k ≡ length c.args.ends.now = omega arith in sym k ∙ no-word-found _ _ _ _ _ c.loop-k.invariant c.loop-k-test.false
