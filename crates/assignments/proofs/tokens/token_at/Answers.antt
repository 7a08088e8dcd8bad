use mathlib.Core.Path.{sym, ap, ◌∙◌}
use mathlib.Core.Bool.{false}
use Prim.Native.Nat.{ℕ, ◌+◌}
use native.Mathlib.Omega.{arith}
use lib.ListN.{drop, length-drop}
use Rattle.std.specs.List.{prefix_len}
use Rattle.std.proofs.lemmas.List.Sums.{prefix_len-le-length}
use Rattle.assignments.specs.Tokens.{bracket, skipped_from, inside}
use Rattle.assignments.proofs.Ways.{skipped-most, token_bracket, token_inside}
use Rattle.assignments.proofs.tokens.token_at.Goals as goal

pub overflow_add-from : goal.overflow_add-from
overflow_add-from c =
    let e = c.skipped_length.ensures ∙ ap (skipped_from false) c.rest_of.ensures in
    omega (arith, e, skipped-most false (drop c.args.at c.args.text.now), length-drop c.args.at c.args.text.now)

pub returns-then-bracket : goal.returns-then-bracket
returns-then-bracket c =
    token_bracket c.args.text.now c.args.at c.skipped_length.result (c.skipped_length.ensures ∙ ap (skipped_from false) c.rest_of.ensures)
    (sym (c.bracket.ensures ∙ ap bracket c.byte_at.ensures) ∙ c.if-bracket.true)

pub overflow_add-result-2 : goal.overflow_add-result-2
overflow_add-result-2 c =
    let s = c.skipped_length.ensures ∙ ap (skipped_from false) c.rest_of.ensures in
    let e = c.inside_length.ensures ∙ ap (prefix_len inside) c.rest_of-2.ensures in
    let n : ℕ = c.args.at + c.skipped_length.result in
    omega (arith, s, e, skipped-most false (drop c.args.at c.args.text.now), length-drop c.args.at c.args.text.now, prefix_len-le-length inside (drop n c.args.text.now), length-drop n c.args.text.now)

pub returns : goal.returns
returns c =
    token_inside c.args.text.now c.args.at c.skipped_length.result (c.skipped_length.ensures ∙ ap (skipped_from false) c.rest_of.ensures)
    (sym (c.bracket.ensures ∙ ap bracket c.byte_at.ensures) ∙ c.if-bracket.false)
    c.inside_length.result (c.inside_length.ensures ∙ ap (prefix_len inside) c.rest_of-2.ensures)
