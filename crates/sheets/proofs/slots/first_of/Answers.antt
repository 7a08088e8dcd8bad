use Prim.Native.Nat.{ℕ, ◌-◌, ◌≤◌, ◌<◌}
use mathlib.Core.Path.{◌≡◌, sym, ap, ◌∙◌}
use native.Mathlib.Omega.{arith}
use Rattle.table.specs.Folds.{first_from}
use Rattle.table.proofs.Searches.{first_on, first-here, first_past}
use Rattle.sheets.specs.Marks.{line_count, speaks}
use Rattle.sheets.proofs.slots.first_of.Invariants.{tests}
use Rattle.sheets.proofs.slots.first_of.Goals as goal

pub loop-k-init : goal.loop-k-init
loop-k-init c =
    let all : line_count c.args.sheet.now ≡ line_count c.args.sheet.now - 0 = omega arith in
    (omega arith, ap (λ (n : ℕ). first_from (tests c.args.sheet.now c.args.kind c.args.slot) n 0) all)

pub line_in-requires : goal.line_in-requires
line_in-requires c = omega (arith, c.loop-k-test.true, c.count-lines.ensures)

pub returns-then-speaks : goal.returns-then-speaks
returns-then-speaks c =
    let tested : c.speaks.result ≡ tests c.args.sheet.now c.args.kind c.args.slot c.loop-k.k = c.speaks.ensures ∙ ap (speaks c.args.kind c.args.slot) c.line_in.ensures in
    let b : c.loop-k.k < line_count c.args.sheet.now = omega (arith, c.loop-k-test.true, c.count-lines.ensures) in
    sym (c.loop-k.invariant.1 ∙ first-here (tests c.args.sheet.now c.args.kind c.args.slot) (line_count c.args.sheet.now) c.loop-k.k b (sym tested ∙ c.if-speaks.true))

pub loop-k-preserved : goal.loop-k-preserved
loop-k-preserved c =
    let tested : c.speaks.result ≡ tests c.args.sheet.now c.args.kind c.args.slot c.loop-k.k = c.speaks.ensures ∙ ap (speaks c.args.kind c.args.slot) c.line_in.ensures in
    let b : c.loop-k.k < line_count c.args.sheet.now = omega (arith, c.loop-k-test.true, c.count-lines.ensures) in
    (omega (arith, b), c.loop-k.invariant.1 ∙ first_on (tests c.args.sheet.now c.args.kind c.args.slot) (line_count c.args.sheet.now) c.loop-k.k b (sym tested ∙ c.if-speaks.false))

pub returns : goal.returns
returns c =
    let n = c.count-lines.ensures in
    let past : line_count c.args.sheet.now ≤ c.loop-k.k = omega (arith, c.loop-k-test.false, n) in
    let same : line_count c.args.sheet.now ≡ c.loop-k.k = omega (arith, past, c.loop-k.invariant.0) in
    n ∙ same ∙ sym (c.loop-k.invariant.1 ∙ first_past (tests c.args.sheet.now c.args.kind c.args.slot) (line_count c.args.sheet.now) c.loop-k.k past)
