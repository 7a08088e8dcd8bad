use Rattle.std.proofs.Common.{ℕ, List, length, sym, ap, ◌∙◌, length-take-le}
use Rattle.finish.specs.Finished.{Finishing}
use Rattle.printer.specs.Printing.{printing}
use Rattle.cli.specs.Outcomes.{then_printed}
use Rattle.cli.proofs.Fronts.{front}
use Rattle.cli.proofs.printed.print_finished.Goals as goal

pub slice_bounds-print-end : goal.slice_bounds-print-end
slice_bounds-print-end c = (front c.args.table.now c.args.room.now _ c.finish.result _ c.finish.ensures.value c.finish.ensures.room_after c.finish.auto.room c.in_ok-extent.was).long

pub slice_bounds-print-end-2 : goal.slice_bounds-print-end-2
slice_bounds-print-end-2 c = sym (length-take-le _ _ (front c.args.table.now c.args.room.now _ c.finish.result _ c.finish.ensures.value c.finish.ensures.room_after c.finish.auto.room c.in_ok-extent.was).long)

pub returns : goal.returns
returns c =
    let text = length c.args.text.now in
    let is = c.in_ok-extent.was in
    c.print.ensures.value
    ∙ ap (λ (t : List ℕ). printing t text) (front c.args.table.now c.args.room.now _ c.finish.result _ c.finish.ensures.value c.finish.ensures.room_after c.finish.auto.room is).holds
    ∙ ap (λ (r : Finishing). then_printed r c.args.table.now text) (sym is ∙ c.finish.ensures.value)
