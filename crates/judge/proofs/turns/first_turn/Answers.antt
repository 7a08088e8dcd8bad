use mathlib.Core.Path.{refl, sym, ap, ◌∙◌}
use mathlib.Core.List.{[]}
use Rattle.ops.proofs.Booleans.{and_shut}
use Rattle.table.specs.Terms.{term_at}
use Rattle.table.specs.Faults.{is_read}
use Rattle.evaluate.specs.declared.turns.Turn.{Turn as Asked}
use Rattle.judge.specs.Code.Turns.{alone, slots_of, array_of}
use Rattle.judge.proofs.Asking.{plain-asks}
use Rattle.judge.proofs.turns.first_turn.Goals as goal

-- no index is free
pub returns : goal.returns
returns c =
    c.alone.ensures
    ∙ ap (λ (t : Asked). alone t) c.turn_at.ensures
    ∙ sym (plain-asks c.args.table.now c.args.values.now [] [] (slots_of c.args.table.now (array_of c.args.table.now [] [] 0)) c.args.count c.args.terms 0 0 (and_shut (is_read (term_at c.args.table.now 0))))

pub slice_bounds-turn_at-end : goal.slice_bounds-turn_at-end
slice_bounds-turn_at-end c = refl

pub turn_at-requires : goal.turn_at-requires
turn_at-requires c = c.requires
