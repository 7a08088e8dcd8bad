use mathlib.Core.Path.{refl, sym, ap, ◌∙◌}
use mathlib.Core.List.{[]}
use native.Mathlib.Nat.{zero-add}
use native.Mathlib.Omega.{arith}
use lib.ListN.{length}
use lib.Seq.{sets}
use Rattle.table.proofs.SoundTerms.{stacked}
use Rattle.evaluate.proofs.Trees.{beneath}
use Rattle.judge.specs.Code.Leaves.{leaves_at}
use Rattle.judge.proofs.LeafLaws.{under_store, at_variable, few_leaves}
use Rattle.judge.proofs.leaves.leaves.Goals as goal

pub loop-b-smaller : goal.loop-b-smaller
loop-b-smaller c = beneath c.args.table.now (stacked 80000 c.args.table.now c.requires.well_formed) [] 0 c.loop-b.b c.loop-b.x c.loop-b.invariant.0 (sym c.is_store.ensures ∙ c.loop-b-test.true)

pub loop-b-preserved : goal.loop-b-preserved
loop-b-preserved c = (c.term_at-x-in-loop-b.ensures, under_store c.args.table.now (stacked 80000 c.args.table.now c.requires.well_formed) c.loop-b.b c.loop-b.x c.loop-b.invariant.0 (sym c.is_store.ensures ∙ c.loop-b-test.true) ∙ c.loop-b.invariant.1)

pub put_leaves-requires : goal.put_leaves-requires
put_leaves-requires c = record { well_formed = c.requires.well_formed; a_bound = omega (arith, few_leaves 80000 c.args.table.now c.requires.well_formed c.loop-b.b); slots_len = c.requires.slots_len }

pub returns-then-is_choice : goal.returns-then-is_choice
returns-then-is_choice c =
    let wrote = c.put_leaves.ensures in
    record { value = wrote.value ∙ zero-add (length (leaves_at c.args.table.now c.loop-b.b)) ∙ ap length c.loop-b.invariant.1; slots_after = wrote.slots_after ∙ ap (sets c.args.slots.now 0) c.loop-b.invariant.1 }

pub returns : goal.returns
returns c =
    let e = at_variable c.args.table.now (stacked 80000 c.args.table.now c.requires.well_formed) c.loop-b.b c.loop-b.x c.loop-b.invariant.0
    (sym c.is_store.ensures ∙ c.loop-b-test.false) (sym c.is_choice.ensures ∙ c.if-is_choice.false) ∙ c.loop-b.invariant.1 in
    record { value = ap length e; slots_after = ap (sets c.args.slots.now 0) e }

pub loop-b-init : goal.loop-b-init
loop-b-init c = (c.term_at-x.ensures, refl)

pub shape_of-slots-then-is_choice : goal.shape_of-slots-then-is_choice
shape_of-slots-then-is_choice c = c.put_leaves.auto.slots

pub bounds-slots-0 : goal.bounds-slots-0
bounds-slots-0 c = omega (arith, c.requires.slots_len)
