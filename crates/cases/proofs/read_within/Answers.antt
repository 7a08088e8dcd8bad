use Rattle.std.proofs.Common.{length, sym, ap, ◌∙◌}
use Rattle.std.proofs.lemmas.Result.{err_from_is_err_and}
use Rattle.cases.specs.Reading.{parsed_within}
use Rattle.cases.proofs.Answers.{read_inside, refused_inside}
use Rattle.cases.proofs.read_within.Goals as goal

pub returns-in_err-case-clause-inside : goal.returns-in_err-case-clause-inside
returns-in_err-case-clause-inside c =
    let p = err_from_is_err_and c.from_residual.result c.from_residual.ensures.1 in
    rw (p.1, p.2)
    (refused_inside c.args.text.now c.args.whole (length c.args.numbers.now) _ (ap (parsed_within c.args.text.now c.args.whole) (sym c.capped.ensures) ∙ sym c.in_err-case.ensures))

pub write-requires : goal.write-requires
write-requires c =
    (read_inside c.args.text.now c.args.whole (length c.args.numbers.now) _ (ap (parsed_within c.args.text.now c.args.whole) (sym c.capped.ensures) ∙ sym c.in_ok-case.ensures)).0

pub returns-clause-inside : goal.returns-clause-inside
returns-clause-inside c =
    (read_inside c.args.text.now c.args.whole (length c.args.numbers.now) _ (ap (parsed_within c.args.text.now c.args.whole) (sym c.capped.ensures) ∙ sym c.in_ok-case.ensures)).1
