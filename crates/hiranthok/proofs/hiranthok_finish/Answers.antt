use mathlib.Core.Path.{ap, subst, ◌∙◌}
use lib.ListN.{length}
use Rattle.finish.specs.Finished.{Finishing}
use Rattle.finish.specs.Finished.{finishing, room_after}
use Rattle.finish.specs.Laws.{FinishingPromise}
use Rattle.replies.specs.declared.Reply.{Reply}
use Rattle.replies.specs.Replies.{row, finishing_reply}
use Rattle.hiranthok.proofs.Across.{finished_for_records}
use Rattle.hiranthok.proofs.hiranthok_finish.Goals as goal

pub returns : goal.returns
returns c =
    let is = c.from.ensures ∙ ap finishing_reply c.finish.ensures.value in
    let promised = subst (FinishingPromise c.args.table.now c.finish.new.room) c.finish.ensures.value c.finish.ensures.finishing_promise in
    record { value = c.deliver.ensures.value ∙ ap (λ (r : Reply). r.number) is; answer_after = c.deliver.ensures.answer_after ∙ ap row is; room_after = c.finish.ensures.room_after ∙ ap (λ (j : Finishing). room_after j c.args.table.now c.args.room.now) c.finish.ensures.value; finishing_promise = promised; finishing_record_promise = finished_for_records c.args.table.now c.finish.new.room (finishing c.args.table.now (length c.args.room.now)) promised }
