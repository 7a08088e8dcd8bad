use Rattle.std.proofs.Common.{ℕ, length, sym, ap, ◌∙◌}
use Rattle.cases.specs.declared.lexer.Lexer.TheVariants.{Blank}
use Rattle.cases.specs.Lexing.{lex}
use Rattle.cases.specs.Parsing.{case_of}
use Rattle.cases.specs.Reading.{ended, answer, numbers_within}
use Rattle.cases.proofs.Totals.{all}
use Rattle.cases.proofs.Ways.{early}
use Rattle.cases.proofs.parse.Goals as goal

pub error_at_token-requires-clause-at_in_bounds : goal.error_at_token-requires-clause-at_in_bounds
error_at_token-requires-clause-at_in_bounds c = early c.args.room c.args.whole c.args.text.now c.in-Err.fault c.in-Err.ensures

pub returns-in-Ok : goal.returns-in-Ok
returns-in-Ok c =
    let text = c.args.text.now in
    c.ended.ensures
    ∙ ap (λ (n : ℕ). ended text (case_of c.in-Ok.p c.args.whole n)) (all c.args.room (lex c.args.whole Blank text) c.in-Ok.p (sym c.in-Ok.ensures))
    ∙ ap (answer text c.args.whole (length (numbers_within text c.args.whole))) c.in-Ok.ensures
