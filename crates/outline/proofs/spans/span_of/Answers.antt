use mathlib.Core.Path.{◌≡◌, sym, ◌∙◌}
use mathlib.Core.Bool.{true, false}
use mathlib.Core.List.{List, [], ◌∷◌}
use Prim.Native.Nat.{ℕ}
use Rattle.parser.specs.declared.words.Token.{Token}
use Rattle.outline.specs.declared.scan.Scan.{Scan}
use Rattle.outline.specs.Scanning.{spanned, step}
use Rattle.outline.specs.Spans.{is_term, span_at, span_in}
use lib.ListN.{length}
use Rattle.outline.proofs.spans.span_of.Goals as goal

-- among the words that are left
module _ (text : List ℕ) (term : ℕ) (s : Scan) (left : List Token) where
  span_none : left ≡ [] → spanned (length text) (length text) ≡ span_in text term s left
  unfolding span_in
  span_none e = rw e

  module _ (t : Token) (others : List Token) (is : left ≡ t ∷ others) where
    span_here : is_term s t term ≡ true → span_at text s t ≡ span_in text term s left
    unfolding span_in
    span_here e = rw (is, e)

    span_later : is_term s t term ≡ false → span_in text term (step s t) others ≡ span_in text term s left
    unfolding span_in
    span_later e = rw (is, e)

pub returns-then-is_term : goal.returns-then-is_term
returns-then-is_term c =
    c.span_at.ensures
    ∙ span_here c.args.text.now c.args.term c.loop-token.scan _ c.in-Some.token _ c.in-Some.ensures.steps (sym c.is_term.ensures ∙ c.if-is_term.true)
    ∙ c.loop-token.invariant.1

pub loop-token-preserved : goal.loop-token-preserved
loop-token-preserved c = (
  (tt, tt),
  rw c.step-scan.ensures (
      span_later c.args.text.now c.args.term c.loop-token.scan _ c.in-Some.token _ c.in-Some.ensures.steps (sym c.is_term.ensures ∙ c.if-is_term.false)
      ∙ c.loop-token.invariant.1),
)

pub returns : goal.returns
returns c = span_none c.args.text.now c.args.term c.loop-token.scan _ c.in-None.ensures.steps.0 ∙ c.loop-token.invariant.1
