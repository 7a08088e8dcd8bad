use mathlib.Core.Path.{ap, ◌∙◌}
use Rattle.replies.specs.declared.Reply.{Reply}
use Rattle.replies.specs.Replies.{row, admission_reply}
use Rattle.hiranthok.proofs.hiranthok_admit.Goals as goal

pub returns : goal.returns
returns c =
    let is = c.from.ensures ∙ ap admission_reply c.admit.ensures in
    record { value = c.deliver.ensures.value ∙ ap (λ (r : Reply). r.number) is; answer_after = c.deliver.ensures.answer_after ∙ ap row is }
