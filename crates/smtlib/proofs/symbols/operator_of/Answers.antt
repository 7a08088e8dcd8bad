use Rattle.std.proofs.Common.{◌≡◌, ◌≤◌, ℕ, sym, ap, arith, below_more, ◌∙◌}
use Rattle.std.specs.Cmp.Lexicographic.{same_text, other_text}
use Rattle.smtlib.specs.Symbols.{operator_name, operator_of}
use Rattle.smtlib.proofs.Told.{operators-read, unnamed}
use Rattle.smtlib.proofs.symbols.operator_of.Goals as goal

pub returns-then-eq : goal.returns-then-eq
returns-then-eq c =
    let same = sym c.name.ensures ∙ same_text _ _ c.if-eq.ensures in
    sym (operators-read c.loop-op.op (c.loop-op.auto.op, c.loop-op-test.true)) ∙ ap operator_of same

pub loop-op-preserved : goal.loop-op-preserved
loop-op-preserved c k low high e =
    below_more (λ (j : ℕ). 2 ≤ j → operator_name j ≡ c.args.word.now → ⊥) c.loop-op.op (λ j b l. c.loop-op.invariant j l b)
    (λ _ d. other_text _ _ c.if-eq.ensures (c.name.ensures ∙ d))
    k high low e

pub returns : goal.returns
returns c = unnamed c.args.word.now (λ k low high. c.loop-op.invariant k low (omega arith))
