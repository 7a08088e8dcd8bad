use mathlib.Core.Path.{ap, subst, ◌∙◌}
use Rattle.printer.specs.Printing.{Printing}
use Rattle.printer.specs.Printing.{room_after}
use Rattle.printer.specs.Meaning.{PrintingPromise}
use Rattle.replies.specs.declared.Reply.{Reply}
use Rattle.replies.specs.Replies.{row, printing_reply}
use Rattle.hiranthok.proofs.hiranthok_print.Goals as goal

pub returns : goal.returns
returns c =
    let is = c.from.ensures ∙ ap printing_reply c.print.ensures.value in
    record { value = c.deliver.ensures.value ∙ ap (λ (r : Reply). r.number) is; answer_after = c.deliver.ensures.answer_after ∙ ap row is; text_after = c.print.ensures.room_after ∙ ap (λ (j : Printing). room_after j c.args.table.now c.args.text.now) c.print.ensures.value; printing_promise = subst (PrintingPromise c.args.table.now c.print.new.room) c.print.ensures.value c.print.ensures.printing_promise }
