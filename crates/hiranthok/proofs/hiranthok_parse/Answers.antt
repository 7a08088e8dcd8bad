use mathlib.Core.Path.{ap, ◌∙◌}
use lib.ListN.{length}
use Rattle.parser.specs.Parsing.{Parsing}
use Rattle.parser.specs.Parsing.{room_after}
use Rattle.meanings.proofs.Promise.{promised}
use Rattle.replies.specs.declared.Reply.{Reply}
use Rattle.replies.specs.Replies.{row, parsing_reply}
use Rattle.hiranthok.proofs.hiranthok_parse.Goals as goal

pub returns : goal.returns
returns c =
    let is = c.from.ensures ∙ ap parsing_reply c.parse.ensures.value in
    record { value = c.deliver.ensures.value ∙ ap (λ (r : Reply). r.number) is; answer_after = c.deliver.ensures.answer_after ∙ ap row is; room_after = c.parse.ensures.room_after ∙ ap (λ (j : Parsing). room_after j c.args.text.now c.args.room.now) c.parse.ensures.value; parsing_promise = promised c.args.text.now (length c.args.room.now) }
