use Prim.Native.Nat.{◌%◌}
use mathlib.Core.Path.{◌≡◌, sym, ap, ◌∙◌}
use native.Mathlib.Omega.{arith}
use lib.ListN.{length}
use borrow.Author.Tests.{eq-eqb, ne_eqb}
use Rattle.table.specs.Admission.{refused}
use Rattle.table.proofs.Scans.{begun, on, stop, through}
use Rattle.sheets.specs.Marks.{line_at, line_count}
use Rattle.sheets.specs.Check.{line_fault, uncut, sheet_check}
use Rattle.sheets.proofs.faults.check.Goals as goal
use Rattle.table.specs.Answers.{accepted}

pub loop-k-init : goal.loop-k-init
loop-k-init c =
    let s = c.args.sheet.now in
    begun (λ i. line_fault (line_at s i)) (line_count s) (uncut s)

pub line_in-requires : goal.line_in-requires
line_in-requires c = omega (arith, c.loop-k-test.true, c.count-lines.ensures)

pub returns-then-number-ne0 : goal.returns-then-number-ne0
unfolding sheet_check
returns-then-number-ne0 c =
    let tested : c.line_fault-number.result ≡ line_fault (line_at c.args.sheet.now c.loop-k.k) = c.line_fault-number.ensures ∙ ap line_fault c.line_in.ensures in
    let s = c.args.sheet.now in
    c.refused.ensures
    ∙ stop (λ i. line_fault (line_at s i)) (line_count s) (uncut s) c.loop-k.k c.loop-k.invariant (omega (arith, c.loop-k-test.true, c.count-lines.ensures))
    c.line_fault-number.result tested c.if-number-ne0.true

pub loop-k-preserved : goal.loop-k-preserved
loop-k-preserved c =
    let tested : c.line_fault-number.result ≡ line_fault (line_at c.args.sheet.now c.loop-k.k) = c.line_fault-number.ensures ∙ ap line_fault c.line_in.ensures in
    let s = c.args.sheet.now in
    on (λ i. line_fault (line_at s i)) (line_count s) (uncut s) c.loop-k.k c.loop-k.invariant (omega (arith, c.loop-k-test.true, c.count-lines.ensures))
    c.line_fault-number.result tested c.if-number-ne0.false

pub returns-then-sheet-ne0 : goal.returns-then-sheet-ne0
unfolding sheet_check
returns-then-sheet-ne0 c =
    let s = c.args.sheet.now in
    let cut : uncut s ≡ refused 16 (line_count s) = rw (ne_eqb (length s % 3) 0 c.if-sheet-ne0.true) in
    c.refused-then-sheet-ne0.ensures
    ∙ ap (refused 16) c.count-lines.ensures
    ∙ sym cut
    ∙ through (λ i. line_fault (line_at s i)) (line_count s) (uncut s) c.loop-k.k c.loop-k.invariant (omega (arith, c.loop-k-test.false, c.count-lines.ensures))

pub returns : goal.returns
unfolding sheet_check
returns c =
    let s = c.args.sheet.now in
    let whole : accepted ≡ uncut s = rw (eq-eqb (length s % 3) 0 c.if-sheet-ne0.false) in
    whole ∙ through (λ i. line_fault (line_at s i)) (line_count s) (uncut s) c.loop-k.k c.loop-k.invariant (omega (arith, c.loop-k-test.false, c.count-lines.ensures))
