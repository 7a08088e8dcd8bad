use Prim.Native.Nat.{ℕ}
use mathlib.Core.Path.{◌≡◌, refl, ap, ◌∙◌}
use native.Mathlib.Omega.{arith}
use Rattle.table.specs.Answers.{accepted}
use Rattle.table.specs.Admission.{scan}
use Rattle.table.proofs.Scans.{begun, on, stop, through}
use Rattle.setting.specs.Check.{cell_fault}
use Rattle.setting.proofs.cells.cells_checked.Goals as goal

pub returns-then-listed-eq0 : goal.returns-then-listed-eq0
returns-then-listed-eq0 g c =
    let faults : ℕ → ℕ = λ i. cell_fault c.args.table.now (g.C.Cells.at c.args.cells.now i) in
    let none : c.count-listed.result ≡ 0 = c.if-listed-eq0.true in
    through faults c.count-listed.result accepted 0 (begun faults c.count-listed.result accepted) (omega arith)
    ∙ ap (λ n. scan faults n 0 accepted) c.count-listed.ensures

pub fill_entries-requires : goal.fill_entries-requires
fill_entries-requires g c = record { well_formed = c.requires; entries_value = refl }

pub loop-k-init : goal.loop-k-init
loop-k-init g c = begun (λ i. cell_fault c.args.table.now (g.C.Cells.at c.args.cells.now i)) c.count-listed.result accepted

pub cell_fault-number-requires : goal.cell_fault-number-requires
cell_fault-number-requires g c = c.fill_entries.ensures

pub returns-then-number-ne0 : goal.returns-then-number-ne0
returns-then-number-ne0 g c =
    let faults : ℕ → ℕ = λ i. cell_fault c.args.table.now (g.C.Cells.at c.args.cells.now i) in
    let tested : c.cell_fault-number.result ≡ faults c.loop-k.k = c.cell_fault-number.ensures ∙ ap (cell_fault c.args.table.now) c.cell.ensures in
    c.refused.ensures
    ∙ stop faults c.count-listed.result accepted c.loop-k.k c.loop-k.invariant c.loop-k-test.true c.cell_fault-number.result tested c.if-number-ne0.true
    ∙ ap (λ n. scan faults n 0 accepted) c.count-listed.ensures

pub loop-k-preserved : goal.loop-k-preserved
loop-k-preserved g c =
    let faults : ℕ → ℕ = λ i. cell_fault c.args.table.now (g.C.Cells.at c.args.cells.now i) in
    let tested : c.cell_fault-number.result ≡ faults c.loop-k.k = c.cell_fault-number.ensures ∙ ap (cell_fault c.args.table.now) c.cell.ensures in
    on faults c.count-listed.result accepted c.loop-k.k c.loop-k.invariant c.loop-k-test.true c.cell_fault-number.result tested c.if-number-ne0.false

pub returns : goal.returns
returns g c =
    let faults : ℕ → ℕ = λ i. cell_fault c.args.table.now (g.C.Cells.at c.args.cells.now i) in
    through faults c.count-listed.result accepted c.loop-k.k c.loop-k.invariant c.loop-k-test.false
    ∙ ap (λ n. scan faults n 0 accepted) c.count-listed.ensures
