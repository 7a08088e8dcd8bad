use Prim.Native.Nat.{ℕ, ◌+◌, ◌-◌, ◌<◌}
use mathlib.Core.Path.{◌≡◌, sym, ap, ◌∙◌}
use native.Mathlib.Omega.{arith}
use Rattle.table.specs.Faults.{size_within}
use Rattle.table.proofs.Sizes.{size_below, store-sized, none-sized}
use Rattle.admission.proofs.faults.size.Goals as goal

pub loop-count-init : goal.loop-count-init
loop-count-init c = (omega arith, omega arith)

-- neither store nor choice: nothing is left to count
pub returns-then-not-is_choice : goal.returns-then-not-is_choice
returns-then-not-is_choice c =
    let t = c.args.table.now in
    let inside : c.loop-count.count < 17 = c.loop-count-test.true in
    let none = none-sized t c.loop-count.at (17 - c.loop-count.count) c.term_at-x.result c.term_at-x.ensures (λ e. omega arith) (sym c.is_store.ensures ∙ c.if-not-is_store.true) (sym c.is_choice.ensures ∙ c.if-not-is_choice.true) in
    omega (arith, c.loop-count.invariant.1, none)

pub loop-count-preserved : goal.loop-count-preserved
loop-count-preserved c =
    let t = c.args.table.now in
    let inside : c.loop-count.count < 17 = c.loop-count-test.true in
    let less : 17 - c.loop-count.count - 1 ≡ 17 - (c.loop-count.count + 1) = omega arith in
    let one = store-sized t c.loop-count.at (17 - c.loop-count.count) c.term_at-x.result c.term_at-x.ensures (λ e. omega arith) (sym c.is_store.ensures ∙ c.if-not-is_store.false) in
    (omega arith, omega (arith, c.loop-count.invariant.1, one, ap (λ (n : ℕ). size_within n t c.term_at-x.result.p) less))

-- what is left is small
pub overflow_add-result : goal.overflow_add-result
overflow_add-result c =
    let t = c.args.table.now in
    omega (arith, c.loop-count.invariant.0, size_below 17 t c.args.k, c.loop-count.invariant.1, c.size_within.ensures)

pub returns : goal.returns
returns c = omega (arith, c.loop-count.invariant.1, c.size_within.ensures)

pub overflow_add-count : goal.overflow_add-count
overflow_add-count c = omega (arith, c.loop-count-test.true)

pub loop-count-smaller : goal.loop-count-smaller
loop-count-smaller c = omega (arith, c.loop-count-test.true)

pub overflow_sub-count : goal.overflow_sub-count
overflow_sub-count c = omega (arith, c.loop-count.invariant.0)
