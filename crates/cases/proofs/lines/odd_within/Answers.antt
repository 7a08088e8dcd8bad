use Rattle.std.proofs.Common.{◌+◌, Bool, ◌&&◌, List, [], ℕ, Option, sym, ap, subst, arith, ◌∙◌}
use Rattle.cases.specs.declared.lines.OddLine.{OddLine}
use Rattle.cases.specs.Lines.{few, odd_after}
use Rattle.cases.proofs.Standing.{reached-more, reached-here, reached-all, odd-here, odd_on, fewer-still, counted-few}
use Rattle.cases.proofs.lines.odd_within.Goals as goal

pub returns-then-hit-odd : goal.returns-then-hit-odd
returns-then-hit-odd c =
    reached-here _ _ _ _ _ _ _ _ _ _ _ c.loop-b.invariant.is c.loop-b-test.true _ c.token_at-token.ensures _ c.belongs-hit.ensures _
    (odd-here c.belongs-hit.result c.loop-b.s c.loop-b.line (sym (ap (λ (x : Bool). c.belongs-hit.result && x) c.odd.ensures) ∙ c.if-hit-odd.true))

pub counted-s-requires : goal.counted-s-requires
counted-s-requires c = fewer-still c.loop-b.s c.loop-b.b-index _ (omega (arith, c.loop-b-test.true, c.requires)) c.loop-b.invariant.few

pub loop-b-preserved : goal.loop-b-preserved
loop-b-preserved c =
    let o = sym (ap (λ (x : Bool). c.belongs-hit.result && x) c.odd.ensures) ∙ c.if-hit-odd.false in
    record {
      is = reached-more _ _ _ _ _ _ _ _ _ _ _ c.loop-b.invariant.is c.loop-b-test.true _ c.token_at-token.ensures _ c.belongs-hit.ensures _ c.feed-line.ensures _ c.part_after-now.ensures _ c.lexed-l.ensures _
          (λ (r : List ℕ). odd_on c.belongs-hit.result c.loop-b.s c.loop-b.line o r ∙ ap (λ (s : Option OddLine). odd_after s r) (sym c.counted-s.ensures));
      few = subst (λ (s : Option OddLine). few s (c.loop-b.b-index + 1)) (sym c.counted-s.ensures) (counted-few c.belongs-hit.result c.loop-b.s c.loop-b.line c.loop-b.b-index c.loop-b.invariant.few);
    }

pub returns-then-last-odd : goal.returns-then-last-odd
returns-then-last-odd c =
    odd-here c.belongs-last.result c.loop-b.s c.loop-b.line (sym (ap (λ (x : Bool). c.belongs-last.result && x) c.odd-2.ensures) ∙ c.if-last-odd.true) []
    ∙ reached-all _ _ _ _ _ _ _ _ _ _ _ c.loop-b.invariant.is c.loop-b-test.false _ c.token_at_end.ensures _ c.belongs-last.ensures

pub counted-requires : goal.counted-requires
counted-requires c = fewer-still c.loop-b.s c.loop-b.b-index _ (omega (arith, c.loop-b.invariant.is.within, c.requires)) c.loop-b.invariant.few

pub returns : goal.returns
unfolding odd_after
returns c =
    c.closed.ensures
    ∙ ap (λ (s : Option OddLine). odd_after s []) c.counted.ensures
    ∙ sym (odd_on c.belongs-last.result c.loop-b.s c.loop-b.line (sym (ap (λ (x : Bool). c.belongs-last.result && x) c.odd-2.ensures) ∙ c.if-last-odd.false) [])
    ∙ reached-all _ _ _ _ _ _ _ _ _ _ _ c.loop-b.invariant.is c.loop-b-test.false _ c.token_at_end.ensures _ c.belongs-last.ensures
