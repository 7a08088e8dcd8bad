use Rattle.std.proofs.Common.{◌≡◌, ◌+◌, eqb, take, length, min, sym, ap, rules, ◌∙◌}
use Rattle.std.specs.List.{count_by}
use Rattle.cases.specs.Places.{feeds}
use Rattle.cases.proofs.Feeds.{feeds_count, take-min}
use Rattle.cases.proofs.places.line_at.Goals as goal

pub returns : goal.returns
returns c =
    let text = c.args.text.now in
    let counted : c.count-before.result ≡ count_by (λ b. eqb b 10) (take (min c.args.at (length text)) text) = search rules in
    ap (λ n. 1 + n) (counted ∙ sym (feeds_count _) ∙ ap feeds (take-min c.args.at text))
