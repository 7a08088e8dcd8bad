use mathlib.Core.Path.{sym, ◌∙◌}
use Rattle.assignments.proofs.Ways.{slot_none, slot_here, slot_later}
use Rattle.assignments.proofs.names.slot_of.Goals as goal

pub returns-then-same_bytes : goal.returns-then-same_bytes
returns-then-same_bytes c =
    c.slot_at.ensures
    ∙ slot_here c.args.word.now c.loop-name.k _ c.in-Some.name.now _ c.in-Some.ensures.steps (sym c.same_bytes.ensures ∙ c.if-same_bytes.true)
    ∙ c.loop-name.invariant.1

pub loop-name-preserved : goal.loop-name-preserved
loop-name-preserved c = (
  (tt, tt),
  rw c.saturating_add-k.ensures (
      slot_later c.args.word.now c.loop-name.k _ c.in-Some.name.now _ c.in-Some.ensures.steps (sym c.same_bytes.ensures ∙ c.if-same_bytes.false)
      ∙ c.loop-name.invariant.1),
)

pub returns : goal.returns
returns c = slot_none c.args.word.now c.loop-name.k _ c.in-None.ensures.steps.0 ∙ c.loop-name.invariant.1
