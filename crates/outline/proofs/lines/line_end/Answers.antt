use mathlib.Core.Path.{ap, ◌∙◌}
use Prim.Native.Nat.{ℕ, ◌+◌}
use native.Mathlib.Omega.{arith}
use lib.ListN.{drop, length-drop}
use Rattle.std.proofs.lemmas.List.Sums.{prefix_len-le-length}
use Rattle.std.specs.List.{prefix_len}
use Rattle.outline.specs.Lines.{unfed}
use Rattle.outline.proofs.Lengths.{ahead_is, rest_is}
use Rattle.outline.proofs.lines.line_end.Goals as goal

pub overflow_add-result : goal.overflow_add-result
overflow_add-result c =
    let e = c.line_length.ensures ∙ ap (prefix_len unfed) (rest_is c.args.text.now c.args.place c.min.result c.min.ensures) in
    omega (arith, e, prefix_len-le-length unfed (drop c.args.place c.args.text.now), length-drop c.args.place c.args.text.now)

pub returns : goal.returns
returns c =
    let e = c.line_length.ensures ∙ ap (prefix_len unfed) (rest_is c.args.text.now c.args.place c.min.result c.min.ensures) in
    ap (λ (n : ℕ). c.args.place + n) (e ∙ ahead_is unfed (drop c.args.place c.args.text.now))
