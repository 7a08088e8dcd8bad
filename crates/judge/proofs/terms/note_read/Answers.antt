use mathlib.Core.Path.{sym, ap, ◌∙◌}
use Rattle.table.specs.declared.words.Term.{Term}
use Rattle.table.specs.Faults.{is_read}
use Rattle.judge.specs.declared.reads.Labelled.{Labelled}
use Rattle.judge.specs.Code.Labelled.{entered}
use Rattle.judge.proofs.terms.note_read.Goals as goal

pub returns-then-not-is_read : goal.returns-then-not-is_read
returns-then-not-is_read c =
    let plain = sym (c.is_read.ensures ∙ ap (λ (y : Term). is_read y) c.term_at.ensures) ∙ c.if-not-is_read.true in
    record { value = rw plain; work_after = rw plain }

pub returns : goal.returns
returns c =
    let reads = sym (c.is_read.ensures ∙ ap (λ (y : Term). is_read y) c.term_at.ensures) ∙ c.if-not-is_read.false in
    record { value = rw reads; work_after = c.note.ensures ∙ ap (λ (r : Labelled). entered r c.args.terms c.args.work.now c.args.at) c.read_here-r.ensures ∙ rw reads }
