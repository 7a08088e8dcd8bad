use Prim.Native.Nat.{◌+◌, ◌-◌}
use mathlib.Core.Path.{◌≡◌, ap, ◌∙◌}
use native.Mathlib.Omega.{arith}
use lib.ListN.{length}
use Rattle.table.proofs.Searches.{from}
use Rattle.evaluate.specs.Code.Turns.{is_read_at}
use Rattle.judge.specs.Code.Turns.{turn_here}
use Rattle.judge.proofs.terms.step.Goals as goal

-- the read asks for more
pub returns-then-turn : goal.returns-then-turn
returns-then-turn c = let more = c.if-turn.true in record { value = c.asks_more.ensures ∙ rw more; work_after = rw more }

-- the next read is one of the terms, or past the last
pub turn_here-requires : goal.turn_here-requires
turn_here-requires c =
    let next = c.run-next.ensures.value in
    let kept : length c.run-next.new.work ≡ length c.args.work.now = c.run-next.auto.work in
    let high = (from (is_read_at c.args.table.now) (c.args.terms - (c.args.turn.at + 1)) (c.args.turn.at + 1)).high in
    record { well_formed = c.requires.well_formed; at_le_terms = (omega (arith, next, high, c.requires.at_lt_terms.0), omega (arith, next, high, c.requires.at_lt_terms, kept)) }

pub returns : goal.returns
returns c =
    let none = c.if-turn.false in
    record { value = c.turn_here.ensures ∙ ap (turn_here c.args.table.now c.args.values.now c.args.count c.args.terms c.run-next.new.work) c.run-next.ensures.value ∙ rw none; work_after = c.run-next.ensures.work_after ∙ rw none }
