use mathlib.Core.Path.{sym, ap, ◌∙◌}
use lib.ListN.{get_or}
use Rattle.table.specs.declared.words.Term.{Term}
use Rattle.table.specs.Faults.{is_read}
use Rattle.evaluate.specs.declared.reads.Found.{Found}
use Rattle.evaluate.specs.Code.Turns.{turn_of}
use Rattle.evaluate.specs.Code.Reads.{found_at}
use Rattle.evaluate.proofs.turns.turn_at.Goals as goal

pub returns-then-not-is_read : goal.returns-then-not-is_read
unfolding turn_of
returns-then-not-is_read c = c.told.ensures ∙ rw (sym (c.is_read.ensures ∙ ap is_read c.term_at-x.ensures) ∙ c.if-not-is_read.true)

pub returns-then-found : goal.returns-then-found
unfolding turn_of
returns-then-found c =
    let found = c.find-found.ensures ∙ ap (found_at c.args.table.now c.args.front.now c.term_at-x.result.p) c.number_at-index.ensures ∙ ap (λ (y : Term). found_at c.args.table.now c.args.front.now y.p (get_or c.args.front.now y.q 0)) c.term_at-x.ensures in
    c.told-then-found.ensures
    ∙ rw (ap (λ (f : Found). f.number) found, sym (c.is_read.ensures ∙ ap is_read c.term_at-x.ensures) ∙ c.if-not-is_read.false, sym (ap (λ (f : Found). f.stored) found) ∙ c.if-found.true)

pub returns : goal.returns
unfolding turn_of
returns c =
    let found = c.find-found.ensures ∙ ap (found_at c.args.table.now c.args.front.now c.term_at-x.result.p) c.number_at-index.ensures ∙ ap (λ (y : Term). found_at c.args.table.now c.args.front.now y.p (get_or c.args.front.now y.q 0)) c.term_at-x.ensures in
    rw (c.number_at.ensures, ap (λ (f : Found). f.number) found, c.number_at-index.ensures, c.term_at-x.ensures, sym (c.is_read.ensures ∙ ap is_read c.term_at-x.ensures) ∙ c.if-not-is_read.false, sym (ap (λ (f : Found). f.stored) found) ∙ c.if-found.false)
