use mathlib.Core.Path.{sym, ap, ◌∙◌}
use Rattle.setting.specs.Arrays.{entry_sort, slot_sort}
use Rattle.diagnosis.proofs.Entries.{entry_here, entry_on, entry_none}
use Rattle.diagnosis.proofs.settings.slot_sort.Goals as goal

pub returns-then-array_of : goal.returns-then-array_of
unfolding slot_sort
returns-then-array_of c =
    entry_here c.args.table.now c.args.slot c.loop-k.k c.term_at-x.result c.loop-k-test.true c.term_at-x.ensures (sym c.array_of.ensures ∙ c.if-array_of.true) _ (ap (λ x. x.sort) c.term_at-x.ensures)
    ∙ ap (entry_sort c.args.table.now) (sym c.loop-k.invariant)

pub loop-k-preserved : goal.loop-k-preserved
loop-k-preserved c = c.loop-k.invariant ∙ entry_on c.args.table.now c.args.slot c.loop-k.k c.term_at-x.result c.loop-k-test.true c.term_at-x.ensures (sym c.array_of.ensures ∙ c.if-array_of.false)

pub returns : goal.returns
unfolding slot_sort
returns c = entry_none c.args.table.now c.args.slot c.loop-k.k c.loop-k-test.false ∙ ap (entry_sort c.args.table.now) (sym c.loop-k.invariant)
