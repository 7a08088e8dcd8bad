use Rattle.std.proofs.Common.{◌≡◌, ◌-◌, List, [], ℕ, cond, sym, ap, rules, ◌∙◌}
use Rattle.cases.proofs.Standing.{reached-more, reached-here, reached-all, nth, nth_here, nth_on}
use Rattle.cases.proofs.lines.line_within.Goals as goal

pub returns-then-hit-left : goal.returns-then-hit-left
returns-then-hit-left c =
    reached-here _ _ _ _ _ _ _ _ _ _ _ c.loop-b.invariant c.loop-b-test.true _ c.token_at-token.ensures _ c.belongs-hit.ensures _ (nth_here c.belongs-hit.result c.loop-b.left c.loop-b.line c.if-hit-left.true)

pub loop-b-preserved : goal.loop-b-preserved
loop-b-preserved c =
    let one : c.from.result ≡ cond c.belongs-hit.result 1 0 = search rules in
    let left : c.saturating_sub-left.result ≡ c.loop-b.left - cond c.belongs-hit.result 1 0 = c.saturating_sub-left.ensures ∙ ap (λ n. c.loop-b.left - n) one in
    reached-more _ _ _ _ _ _ _ _ _ _ _ c.loop-b.invariant c.loop-b-test.true _ c.token_at-token.ensures _ c.belongs-hit.ensures _ c.feed-line.ensures _ c.part_after-now.ensures _ c.lexed-l.ensures _
    (λ (r : List ℕ). nth_on c.belongs-hit.result c.loop-b.left c.loop-b.line c.if-hit-left.false r ∙ ap (λ k. nth k r) (sym left))

pub returns-then-last-left : goal.returns-then-last-left
returns-then-last-left c =
    nth_here c.belongs-last.result c.loop-b.left c.loop-b.line c.if-last-left.true [] ∙ reached-all _ _ _ _ _ _ _ _ _ _ _ c.loop-b.invariant c.loop-b-test.false _ c.token_at_end.ensures _ c.belongs-last.ensures

pub returns-else-last-left : goal.returns-else-last-left
returns-else-last-left c =
    sym (nth_on c.belongs-last.result c.loop-b.left c.loop-b.line c.if-last-left.false []) ∙ reached-all _ _ _ _ _ _ _ _ _ _ _ c.loop-b.invariant c.loop-b-test.false _ c.token_at_end.ensures _ c.belongs-last.ensures
