use Prim.Native.Nat.{ℕ}
use mathlib.Core.Path.{◌≡◌, ap, ◌∙◌}
use native.Mathlib.Omega.{arith}
use Rattle.table.specs.Terms.{term_at}
use Rattle.table.specs.Answers.{accepted}
use Rattle.table.specs.Admission.{scan}
use Rattle.table.proofs.Scans.{begun, on, stop, through}
use Rattle.setting.specs.Check.{variable_fault}
use Rattle.setting.proofs.variables.variables_checked.Goals as goal

pub count-terms-requires : goal.count-terms-requires
count-terms-requires c = omega (arith, c.requires.few)

pub loop-i-init : goal.loop-i-init
loop-i-init c = begun (λ k. variable_fault c.args.values.now (term_at c.args.table.now k)) c.count-terms.result accepted

-- the table has term i whole
pub term_in-requires : goal.term_in-requires
term_in-requires c = omega (arith, c.loop-i-test.true, c.count-terms.ensures)

pub returns-then-number-ne0 : goal.returns-then-number-ne0
returns-then-number-ne0 c =
    let tested : c.variable_fault-number.result ≡ variable_fault c.args.values.now (term_at c.args.table.now c.loop-i.i) = c.variable_fault-number.ensures
    ∙ ap (variable_fault c.args.values.now) c.term_in.ensures in
    c.refused.ensures
    ∙ stop (λ k. variable_fault c.args.values.now (term_at c.args.table.now k)) c.count-terms.result accepted c.loop-i.i c.loop-i.invariant c.loop-i-test.true
    c.variable_fault-number.result tested c.if-number-ne0.true
    ∙ ap (λ (m : ℕ). scan (λ k. variable_fault c.args.values.now (term_at c.args.table.now k)) m 0 accepted) c.count-terms.ensures

pub loop-i-preserved : goal.loop-i-preserved
loop-i-preserved c =
    let tested : c.variable_fault-number.result ≡ variable_fault c.args.values.now (term_at c.args.table.now c.loop-i.i) = c.variable_fault-number.ensures
    ∙ ap (variable_fault c.args.values.now) c.term_in.ensures in
    on (λ k. variable_fault c.args.values.now (term_at c.args.table.now k)) c.count-terms.result accepted c.loop-i.i c.loop-i.invariant c.loop-i-test.true
    c.variable_fault-number.result tested c.if-number-ne0.false

pub returns : goal.returns
returns c =
    through (λ k. variable_fault c.args.values.now (term_at c.args.table.now k)) c.count-terms.result accepted c.loop-i.i c.loop-i.invariant c.loop-i-test.false
    ∙ ap (λ (m : ℕ). scan (λ k. variable_fault c.args.values.now (term_at c.args.table.now k)) m 0 accepted) c.count-terms.ensures
