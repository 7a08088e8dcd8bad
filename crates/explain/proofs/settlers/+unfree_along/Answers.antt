use Rattle.std.proofs.Common.{sym, subst, ◌∙◌, ◌<◌, ℕ}
use Rattle.explain.proofs.Alongs.{stacked_parts, branched_parts}
use Rattle.explain.proofs.Stops.{or_first, or_rest, own-told, rest_told}
use Rattle.explain.proofs.settlers.+unfree_along.Goals as goal

pub returns-then-is_some : goal.returns-then-is_some
returns-then-is_some t c = own-told c.args.table.now c.args.truths.now c.args.a c.term_at-x.result c.term_at-x.ensures c.unfree_here-own.result c.unfree_here-own.ensures (sym c.is_some.ensures ∙ c.if-is_some.true)

pub returns-then-stacked : goal.returns-then-stacked
returns-then-stacked t c =
    let e = rest_told c.args.table.now c.args.truths.now c.args.a c.term_at-x.result c.term_at-x.ensures c.unfree_here-own.result c.unfree_here-own.ensures (sym c.is_some.ensures ∙ c.if-is_some.false) in
    c.unfree_along.ensures ∙ rw (sym c.stacked.ensures ∙ c.if-stacked.true) at e

pub returns-then-not-branched : goal.returns-then-not-branched
returns-then-not-branched t c =
    let e = rest_told c.args.table.now c.args.truths.now c.args.a c.term_at-x.result c.term_at-x.ensures c.unfree_here-own.result c.unfree_here-own.ensures (sym c.is_some.ensures ∙ c.if-is_some.false) in
    rw (sym c.stacked.ensures ∙ c.if-stacked.false, sym c.branched.ensures ∙ c.if-not-branched.true) at e

pub returns-then-is_some-2 : goal.returns-then-is_some-2
returns-then-is_some-2 t c =
    let e = rest_told c.args.table.now c.args.truths.now c.args.a c.term_at-x.result c.term_at-x.ensures c.unfree_here-own.result c.unfree_here-own.ensures (sym c.is_some.ensures ∙ c.if-is_some.false) in
    or_first c.unfree_along-first.result _ (sym c.is_some-2.ensures ∙ c.if-is_some-2.true)
    ∙ (rw (sym c.stacked.ensures ∙ c.if-stacked.false, sym c.branched.ensures ∙ c.if-not-branched.false, sym c.unfree_along-first.ensures) at e)

pub returns : goal.returns
returns t c =
    let e = rest_told c.args.table.now c.args.truths.now c.args.a c.term_at-x.result c.term_at-x.ensures c.unfree_here-own.result c.unfree_here-own.ensures (sym c.is_some.ensures ∙ c.if-is_some.false) in
    c.unfree_along-2.ensures
    ∙ or_rest c.unfree_along-first.result _ (sym c.is_some-2.ensures ∙ c.if-is_some-2.false)
    ∙ (rw (sym c.stacked.ensures ∙ c.if-stacked.false, sym c.branched.ensures ∙ c.if-not-branched.false, sym c.unfree_along-first.ensures) at e)
