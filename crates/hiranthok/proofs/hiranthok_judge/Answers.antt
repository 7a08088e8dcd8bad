use mathlib.Core.Path.{ap, subst, ◌∙◌}
use lib.ListN.{length}
use Rattle.judge.specs.Judgement.{Judgement}
use Rattle.judge.specs.Judgement.{room_after}
use Rattle.judge.specs.Demand3.{JudgementPromise}
use Rattle.records.proofs.Demand.{flat_demand3}
use Rattle.replies.specs.declared.Reply.{Reply}
use Rattle.replies.specs.Replies.{row, judgement_reply}
use Rattle.hiranthok.proofs.hiranthok_judge.Goals as goal

pub returns : goal.returns
returns c =
    let is = c.judge.ensures.value in
    let reply = c.from.ensures ∙ ap judgement_reply is in
    record { value = c.deliver.ensures.value ∙ ap (λ (r : Reply). r.number) reply; answer_after = c.deliver.ensures.answer_after ∙ ap row reply; work_after = c.judge.ensures.work_after ∙ ap (λ (j : Judgement). room_after j c.args.table.now c.args.sheet.now c.args.values.now c.args.cells.now c.args.work.now) is; judgement_promise = subst (JudgementPromise c.args.table.now c.args.sheet.now c.args.values.now c.args.cells.now) is c.judge.ensures.judgement_promise; flat_judgement_promise = flat_demand3 c.args.table.now c.args.sheet.now c.args.values.now c.args.cells.now c.args.allowance (length c.args.work.now) }
