use Rattle.std.proofs.Common.{ℕ, take, ap, ◌∙◌}
use Rattle.cases.specs.Reading.{byte_limit}
use Rattle.cases.proofs.Feeds.{take-min}
use Rattle.cases.proofs.seen.Goals as goal

pub returns-clause-value : goal.returns-clause-value
returns-clause-value c = ap (λ (n : ℕ). take n c.args.text.now) c.min-end.ensures ∙ take-min byte_limit c.args.text.now
