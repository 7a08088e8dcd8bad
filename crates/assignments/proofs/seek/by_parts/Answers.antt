use mathlib.Core.Path.{sym, ap, ◌∙◌}
use mathlib.Core.Bool.{Bool}
use Rattle.assignments.specs.Tokens.{tokens_left}
use Rattle.assignments.specs.Seeking.{neutral, heading, by_parts_from}
use Rattle.assignments.proofs.Ways.{parts_none, parts_found, parts_stop, parts_on}
use Rattle.assignments.proofs.seek.by_parts.Goals as goal

pub returns-then-found : goal.returns-then-found
returns-then-found c =
    rw (c.assigns.ensures, c.of.ensures, c.of-word.ensures) (parts_found c.args.text.now _ c.in-Some.token _ c.in-Some.ensures.steps)
    ∙ ap (λ (b : Bool). by_parts_from c.args.text.now b (tokens_left c.loop-token.token-iterator.text.now c.loop-token.token-iterator.at)) (sym c.if-found.true)
    ∙ c.loop-token.invariant.1

pub returns-then-not-heading : goal.returns-then-not-heading
returns-then-not-heading c =
    parts_stop c.args.text.now _ c.in-Some.token _ c.in-Some.ensures.steps
    (sym (c.neutral.ensures ∙ ap neutral c.of-word.ensures) ∙ c.if-not-neutral.true)
    (sym (c.heading.ensures ∙ ap heading c.of-word.ensures) ∙ c.if-not-heading.true)
    ∙ ap (λ (b : Bool). by_parts_from c.args.text.now b (tokens_left c.loop-token.token-iterator.text.now c.loop-token.token-iterator.at)) (sym c.if-found.false)
    ∙ c.loop-token.invariant.1

pub loop-token-preserved-then-not-neutral : goal.loop-token-preserved-then-not-neutral
loop-token-preserved-then-not-neutral c =
    let n = sym (c.neutral.ensures ∙ ap neutral c.of-word.ensures) ∙ c.if-not-neutral.true in
    let h = sym (c.heading.ensures ∙ ap heading c.of-word.ensures) ∙ c.if-not-heading.false in (
      (tt, tt),
      rw n at (parts_on c.args.text.now _ c.in-Some.token _ c.in-Some.ensures.steps (rw (n, h)))
          ∙ ap (λ (b : Bool). by_parts_from c.args.text.now b (tokens_left c.loop-token.token-iterator.text.now c.loop-token.token-iterator.at)) (sym c.if-found.false)
          ∙ c.loop-token.invariant.1,
    )

pub loop-token-preserved : goal.loop-token-preserved
loop-token-preserved c =
    let n = sym (c.neutral.ensures ∙ ap neutral c.of-word.ensures) ∙ c.if-not-neutral.false in (
      (tt, tt),
      rw c.if-found.false (
          rw n at (parts_on c.args.text.now _ c.in-Some.token _ c.in-Some.ensures.steps (rw n))
          ∙ ap (λ (b : Bool). by_parts_from c.args.text.now b (tokens_left c.loop-token.token-iterator.text.now c.loop-token.token-iterator.at)) (sym c.if-found.false)
          ∙ c.loop-token.invariant.1),
    )

pub returns : goal.returns
returns c = parts_none c.args.text.now _ c.loop-token.found c.in-None.ensures.steps.0 ∙ c.loop-token.invariant.1
