use Rattle.std.proofs.Common.{sym, ap, ◌∙◌, arith, not, Bool, ℕ}
use Rattle.judge.specs.Code.Labelled.{truth_in}
use Rattle.explain.specs.Ways.{marked}
use Rattle.explain.proofs.Looks.{looking, inside, few, turned, through, unlooked, looked}
use Rattle.explain.proofs.Judged.look_at.Goals as goal

pub returns-then-not-on_way : goal.returns-then-not-on_way
returns-then-not-on_way c = unlooked c.args.self.table.now c.args.self.values.now c.args.self.truths.now c.args.k c.args.marks.now (sym c.on_way.ensures ∙ c.if-not-on_way.true)

pub loop-s-init : goal.loop-s-init
loop-s-init c = looking c.args.self.table.now c.args.self.values.now c.args.self.truths.now c.term_at-x.result c.args.marks.now

pub overflow_add-i : goal.overflow_add-i
overflow_add-i c =
    let b = few c.args.self.table.now c.args.self.values.now c.args.self.truths.now c.term_at-x.result c.args.marks.now c.loop-s.marks c.loop-s.i c.loop-s.invariant c.in-Some.s (sym c.in-Some.is ∙ c.source_at.ensures) in
    let o = c.term_at-x.type_inv in
    record { fits = omega arith }

pub loop-s-smaller : goal.loop-s-smaller
loop-s-smaller c =
    let b = inside c.args.self.table.now c.args.self.values.now c.args.self.truths.now c.term_at-x.result c.args.marks.now c.loop-s.marks c.loop-s.i c.loop-s.invariant c.in-Some.s (sym c.in-Some.is ∙ c.source_at.ensures) in
    omega arith

pub loop-s-preserved : goal.loop-s-preserved
loop-s-preserved c =
    turned c.args.self.table.now c.args.self.values.now c.args.self.truths.now c.term_at-x.result c.args.marks.now c.loop-s.marks c.loop-s.i c.loop-s.invariant c.in-Some.s (sym c.in-Some.is ∙ c.source_at.ensures) _
    (c.mark.ensures
    ∙ ap (λ (b : Bool). marked (not b) c.term-term.result c.loop-s.marks) c.free_at.ensures
    ∙ ap (λ (n : ℕ). marked (not (truth_in c.args.self.truths.now n)) n c.loop-s.marks) c.term-term.ensures)

pub returns : goal.returns
returns c =
    through c.args.self.table.now c.args.self.values.now c.args.self.truths.now c.term_at-x.result c.args.marks.now c.loop-s.marks c.loop-s.i c.loop-s.invariant (sym c.in_default.is ∙ c.source_at.ensures)
    ∙ looked c.args.self.table.now c.args.self.values.now c.args.self.truths.now c.args.k c.args.marks.now c.term_at-x.result c.term_at-x.ensures (sym c.on_way.ensures ∙ c.if-not-on_way.false)
