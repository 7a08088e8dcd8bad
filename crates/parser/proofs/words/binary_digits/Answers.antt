use Rattle.std.proofs.Common.{rules, tests, sym, ◌∙◌}
use Rattle.std.proofs.lemmas.Iterator.{YieldsList-from_slice}
use Rattle.std.proofs.lemmas.Iterator.Search.{all_from_yields_List}
use Rattle.parser.specs.Words.{between}
use Rattle.parser.proofs.Lists.{every_is}
use Rattle.parser.proofs.WordKinds.{not_binary, binary_is}
use Rattle.parser.proofs.words.binary_digits.Goals as goal

pub returns-in_err-digits : goal.returns-in_err-digits
returns-in_err-digits c = rw c.from_residual.ensures (not_binary c.args.word.now c.in_err-digits.ensures.cases)

pub returns-then-binary-digits : goal.returns-then-binary-digits
returns-then-binary-digits c =
    let d = c.in_ok-digits.digits.now in
    let all = all_from_yields_List (λ b. between 48 49 b) _ _ c.all-binary.result c.all-binary.ensures.ran (YieldsList-from_slice d cc) (λ x b q k. search (rules, tests)) ∙ every_is _ _ in
    let e = c.in_ok-digits.ensures.cases in
    (sym (binary_is c.args.word.now d e.0 e.1 e.2 all) ∙ c.if-binary-digits.true, e.1)

pub returns-else-binary-digits : goal.returns-else-binary-digits
returns-else-binary-digits c =
    let d = c.in_ok-digits.digits.now in
    let all = all_from_yields_List (λ b. between 48 49 b) _ _ c.all-binary.result c.all-binary.ensures.ran (YieldsList-from_slice d cc) (λ x b q k. search (rules, tests)) ∙ every_is _ _ in
    let e = c.in_ok-digits.ensures.cases in
    sym (binary_is c.args.word.now d e.0 e.1 e.2 all) ∙ c.if-binary-digits.false
