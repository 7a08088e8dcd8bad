use mathlib.Core.Path.{◌≡◌, ap, ◌∙◌}
use native.Mathlib.Omega.{arith}
use Rattle.table.specs.Terms.{term_at}
use Rattle.groups.specs.Sizes.{size_of, sizes}
use Rattle.finish.proofs.Loops.{none-counted, one_counted, one_more-fits, all-counted}
use Rattle.finish.proofs.sizes.sizes.Goals as goal

pub count-terms-requires : goal.count-terms-requires
count-terms-requires c = omega (arith, c.requires.few)

pub loop-i-init : goal.loop-i-init
loop-i-init c = none-counted c.args.table.now c.count-terms.result

-- the table has term i whole
pub term_in-requires : goal.term_in-requires
term_in-requires c = omega (arith, c.loop-i-test.true, c.count-terms.ensures)

pub overflow_add-sum : goal.overflow_add-sum
overflow_add-sum c =
    let added : c.size_of-sum.result ≡ size_of c.args.table.now (term_at c.args.table.now c.loop-i.i) = c.size_of-sum.ensures ∙ ap (size_of c.args.table.now) c.term_in.ensures in
    omega (arith, c.requires.few, one_more-fits c.args.table.now c.count-terms.result c.loop-i.sum c.loop-i.i c.loop-i.invariant c.requires c.count-terms.ensures c.loop-i-test.true c.size_of-sum.result added)

pub loop-i-preserved : goal.loop-i-preserved
loop-i-preserved c =
    let added : c.size_of-sum.result ≡ size_of c.args.table.now (term_at c.args.table.now c.loop-i.i) = c.size_of-sum.ensures ∙ ap (size_of c.args.table.now) c.term_in.ensures in
    one_counted c.args.table.now c.count-terms.result c.loop-i.sum c.loop-i.i c.loop-i.invariant c.loop-i-test.true c.size_of-sum.result added

pub returns : goal.returns
returns c =
    let w = c.args.table.now in
    all-counted w c.count-terms.result c.loop-i.sum c.loop-i.i c.loop-i.invariant c.loop-i-test.false ∙ ap (sizes w) c.count-terms.ensures
