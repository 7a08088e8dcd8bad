use Prim.Native.Nat.{◌+◌, ◌≤◌}
use mathlib.Core.Path.{◌≡◌, refl, sym, ap, subst, ◌∙◌}
use mathlib.Core.Bool.{true, false}
use native.Mathlib.Omega.{arith}
use lib.ListN.{length}
use Rattle.table.specs.Faults.{is_read}
use Rattle.evaluate.specs.Code.Turns.{is_read_at}
use Rattle.evaluate.proofs.Onward.{Going, set_out, go_on, stopped, passed}
use Rattle.judge.specs.declared.reads.Labelled.{Labelled}
use Rattle.sheets.specs.Code.Said.{marks_by}
use Rattle.judge.specs.Code.Labelled.{entered, plain_noted}
use Rattle.judge.proofs.terms.advance.Goals as goal

pub loop-i-init : goal.loop-i-init
loop-i-init c = (set_out (is_read_at c.args.table.now) (plain_noted c.args.table.now (marks_by c.args.said.now) c.args.values.now c.args.terms) c.args.terms c.args.at c.args.work.now c.requires.at_le_terms.0, refl)

pub plain_here-r-requires : goal.plain_here-r-requires
plain_here-r-requires c =
    let enough : c.args.terms + c.args.terms ≤ length c.loop-i.work = omega (arith, c.loop-i.invariant.1, c.requires.at_le_terms.1) in
    let inside = c.loop-i-test.true in
    let plain : is_read_at c.args.table.now c.loop-i.i ≡ false = sym (c.is_read.ensures ∙ ap is_read c.term_at.ensures) ∙ c.if-is_read.false in
    record { well_formed = c.requires.well_formed; terms_value = (c.requires.terms_value, plain); at_lt_terms = (inside, omega (arith, enough, inside)) }

pub note-requires : goal.note-requires
note-requires c =
    let enough : c.args.terms + c.args.terms ≤ length c.loop-i.work = omega (arith, c.loop-i.invariant.1, c.requires.at_le_terms.1) in
    (c.loop-i-test.true, enough)

pub loop-i-smaller : goal.loop-i-smaller
loop-i-smaller c = omega (arith, c.loop-i-test.true)

pub loop-i-preserved : goal.loop-i-preserved
loop-i-preserved c =
    let write = plain_noted c.args.table.now (marks_by c.args.said.now) c.args.values.now c.args.terms in
    let plain : is_read_at c.args.table.now c.loop-i.i ≡ false = sym (c.is_read.ensures ∙ ap is_read c.term_at.ensures) ∙ c.if-is_read.false in
    let wrote = c.note.ensures ∙ ap (λ (r : Labelled). entered r c.args.terms c.loop-i.work c.loop-i.i) c.plain_here-r.ensures in (
      subst (Going (is_read_at c.args.table.now) write c.args.terms c.args.at c.args.work.now _) (sym wrote) (go_on (is_read_at c.args.table.now) write c.args.terms c.args.at c.args.work.now c.loop-i.i c.loop-i.work c.loop-i.invariant.0 c.loop-i-test.true plain),
      c.note.auto.work ∙ c.loop-i.invariant.1,
    )

pub shape_of-work-after-loop-i : goal.shape_of-work-after-loop-i
shape_of-work-after-loop-i c = c.loop-i.invariant.1

-- past the last term
pub returns-after-loop-i : goal.returns-after-loop-i
returns-after-loop-i c =
    let both = passed (is_read_at c.args.table.now) (plain_noted c.args.table.now (marks_by c.args.said.now) c.args.values.now c.args.terms) c.args.terms c.args.at c.args.work.now c.loop-i.i c.loop-i.work c.loop-i.invariant.0 c.loop-i-test.false in
    record { value = both.0; work_after = both.1 }

pub shape_of-work-then-is_read : goal.shape_of-work-then-is_read
shape_of-work-then-is_read c = c.loop-i.invariant.1

-- at a read
pub returns-then-is_read : goal.returns-then-is_read
returns-then-is_read c =
    let stops : is_read_at c.args.table.now c.loop-i.i ≡ true = sym (c.is_read.ensures ∙ ap is_read c.term_at.ensures) ∙ c.if-is_read.true in
    let both = stopped (is_read_at c.args.table.now) (plain_noted c.args.table.now (marks_by c.args.said.now) c.args.values.now c.args.terms) c.args.terms c.args.at c.args.work.now c.loop-i.i c.loop-i.work c.loop-i.invariant.0 c.loop-i-test.true stops in
    record { value = both.0; work_after = both.1 }
