use Prim.Native.Nat.{◌≤◌}
use mathlib.Core.Path.{◌≡◌, ap, ◌∙◌}
use native.Mathlib.Omega.{arith}
use Rattle.table.specs.Terms.{term_at}
use Rattle.evaluate.specs.Steps.{steps_of, steps}
use Rattle.evaluate.proofs.Sums.{none_yet, one_more_lem, all_summed, steps_of-most}
use Rattle.evaluate.proofs.spend.steps.Goals as goal

pub count-terms-requires : goal.count-terms-requires
count-terms-requires c = omega (arith, c.requires.few)

pub loop-i-init : goal.loop-i-init
loop-i-init c = none_yet c.args.table.now c.count-terms.result

-- the table has term i whole
pub term_in-requires : goal.term_in-requires
term_in-requires c = omega (arith, c.loop-i-test.true, c.count-terms.ensures)

pub overflow_cast-sum : goal.overflow_cast-sum
overflow_cast-sum c =
    let added : c.steps_of.result ≡ steps_of c.args.table.now (term_at c.args.table.now c.loop-i.i) = c.steps_of.ensures ∙ ap (steps_of c.args.table.now) c.term_in.ensures in
    let small : c.steps_of.result ≤ 131072 = let w = c.args.table.now in
    omega (arith, added, steps_of-most w (term_at w c.loop-i.i)) in
    omega (arith, small)

pub overflow_add-sum : goal.overflow_add-sum
overflow_add-sum c =
    let added : c.steps_of.result ≡ steps_of c.args.table.now (term_at c.args.table.now c.loop-i.i) = c.steps_of.ensures ∙ ap (steps_of c.args.table.now) c.term_in.ensures in
    let small : c.steps_of.result ≤ 131072 = let w = c.args.table.now in
    omega (arith, added, steps_of-most w (term_at w c.loop-i.i)) in
    omega (arith, small, c.loop-i.invariant.small, c.loop-i.invariant.within, c.count-terms.ensures, c.requires.few)

pub loop-i-preserved : goal.loop-i-preserved
loop-i-preserved c =
    let added : c.steps_of.result ≡ steps_of c.args.table.now (term_at c.args.table.now c.loop-i.i) = c.steps_of.ensures ∙ ap (steps_of c.args.table.now) c.term_in.ensures in
    one_more_lem c.args.table.now c.count-terms.result c.loop-i.sum c.loop-i.i c.loop-i.invariant c.loop-i-test.true c.steps_of.result added

pub returns : goal.returns
returns c =
    let w = c.args.table.now in
    all_summed w c.count-terms.result c.loop-i.sum c.loop-i.i c.loop-i.invariant c.loop-i-test.false ∙ ap (steps w) c.count-terms.ensures
