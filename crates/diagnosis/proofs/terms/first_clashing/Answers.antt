use Rattle.std.proofs.Common.{◌≡◌, ◌∙◌, true, false, rules}
use Rattle.std.proofs.lemmas.Iterator.{first_from_Range}
use Rattle.diagnosis.specs.Reasons.{clashing}
use Rattle.diagnosis.proofs.Searches.{find_first}
use Rattle.diagnosis.proofs.terms.first_clashing.Goals as goal

pub returns : goal.returns
returns c =
    let f = clashing c.args.table.now c.args.x in
    c.unwrap_or.ensures
    ∙ find_first f c.args.i c.find.result
    (first_from_Range _ _ _ c.find.result (λ k. f k ≡ true) (λ k. f k ≡ false) c.find.ensures.ran (λ k q h. search rules) (λ k q h. (search rules, search rules)))
