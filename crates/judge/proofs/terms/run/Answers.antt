use Prim.Native.Nat.{ℕ, ◌+◌, ◌≤◌}
use mathlib.Core.Path.{sym, ap, ap₂, subst, ◌∙◌}
use mathlib.Core.List.{List}
use Rattle.evaluate.specs.Code.Turns.{next_read, onward}
use Rattle.sheets.specs.Code.Said.{marks_by}
use Rattle.judge.specs.Code.Labelled.{plain_noted}
use Rattle.judge.specs.Code.Turns.{gathered}
use Rattle.judge.proofs.Steps.{run-within, run-next, run_room}
use Rattle.judge.proofs.terms.run.Goals as goal

pub advance-requires : goal.advance-requires
advance-requires c =
    let within = run-within c.args.table.now (marks_by c.args.said.now) c.args.values.now c.args.terms c.args.turn.array (gathered c.args.turn c.args.answer) c.args.work.now c.args.turn.at c.requires.at_lt_terms.0 in
    record { well_formed = c.requires.well_formed; terms_value = c.requires.terms_value; at_le_terms = (subst (λ (k : ℕ). k ≤ c.args.terms) (sym c.note_read-next.ensures.value) within, subst (λ (k : ℕ). c.args.terms + c.args.terms ≤ k) (sym c.note_read-next.auto.work) c.requires.at_lt_terms.1) }

pub returns : goal.returns
returns c =
    let w = c.args.table.now in
    let write = plain_noted w (marks_by c.args.said.now) c.args.values.now c.args.terms in
    let noted = c.note_read-next.ensures in
    let on = c.advance.ensures in
    record { value = on.value ∙ ap (next_read w c.args.terms) noted.value ∙ run-next w (marks_by c.args.said.now) c.args.values.now c.args.terms c.args.turn.array (gathered c.args.turn c.args.answer) c.args.work.now c.args.turn.at c.requires.at_lt_terms.0; work_after = on.work_after ∙ ap₂ (λ (l : List ℕ) (k : ℕ). onward w write c.args.terms l k) noted.work_after noted.value ∙ run_room w (marks_by c.args.said.now) c.args.values.now c.args.terms c.args.turn.array (gathered c.args.turn c.args.answer) c.args.work.now c.args.turn.at c.requires.at_lt_terms.0 }
