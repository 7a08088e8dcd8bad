use Prim.Native.Nat.{pred, ◌-◌}
use mathlib.Core.Path.{◌≡◌, ap, ◌∙◌}
use native.Mathlib.Omega.{arith}
use Rattle.table.specs.Admission.{ended}
use Rattle.table.specs.Faults.{fault}
use Rattle.table.proofs.Scans.{stop, through}
use Rattle.table.proofs.TermFaults.{begun-reached, here, on_reached}
use Rattle.admission.proofs.first_fault.Goals as goal

pub loop-i-init : goal.loop-i-init
loop-i-init c = begun-reached c.args.table.now c.args.terms c.args.clash (ended c.args.table.now (pred c.args.terms))

pub returns-then-number-ne0 : goal.returns-then-number-ne0
returns-then-number-ne0 c =
    let rest = ended c.args.table.now (pred c.args.terms) in
    c.refused.ensures
    ∙ stop (fault c.args.table.now) c.args.terms rest c.loop-i.i c.loop-i.invariant.scanned c.loop-i-test.true c.fault-number.result
    (here c.args.table.now c.args.terms c.args.clash rest c.loop-i.i c.loop-i.invariant c.requires.clash_value c.loop-i-test.true c.fault-number.result c.fault-number.ensures)
    c.if-number-ne0.true

pub loop-i-preserved : goal.loop-i-preserved
loop-i-preserved c =
    on_reached c.args.table.now c.args.terms c.args.clash (ended c.args.table.now (pred c.args.terms))
    c.loop-i.i c.loop-i.invariant c.requires.clash_value c.loop-i-test.true c.fault-number.result c.fault-number.ensures c.if-number-ne0.false

pub returns : goal.returns
returns c =
    let last : c.args.terms - 1 ≡ pred c.args.terms = omega arith in
    c.ended.ensures
    ∙ ap (ended c.args.table.now) last
    ∙ through (fault c.args.table.now) c.args.terms (ended c.args.table.now (pred c.args.terms)) c.loop-i.i c.loop-i.invariant.scanned c.loop-i-test.false
