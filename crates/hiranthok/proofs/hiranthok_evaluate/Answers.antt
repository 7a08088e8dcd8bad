use mathlib.Core.Path.{ap, ◌∙◌}
use Rattle.evaluate.specs.Evaluation.{Evaluation}
use Rattle.evaluate.specs.Evaluation.{room_after}
use Rattle.replies.specs.declared.Reply.{Reply}
use Rattle.replies.specs.Replies.{row, evaluation_reply}
use Rattle.hiranthok.proofs.hiranthok_evaluate.Goals as goal

pub returns : goal.returns
returns c =
    let is = c.evaluate.ensures.value in
    let reply = c.from.ensures ∙ ap evaluation_reply is in
    record { value = c.deliver.ensures.value ∙ ap (λ (r : Reply). r.number) reply; answer_after = c.deliver.ensures.answer_after ∙ ap row reply; work_after = c.evaluate.ensures.work_after ∙ ap (λ (a : Evaluation). room_after a c.args.table.now c.args.values.now c.args.cells.now c.args.work.now) is }
