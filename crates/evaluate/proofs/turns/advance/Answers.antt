use Prim.Native.Nat.{ℕ, ◌-◌, ◌<◌}
use mathlib.Core.Path.{◌≡◌, refl, sym, ap, subst, ◌∙◌}
use mathlib.Core.Bool.{false}
use native.Mathlib.Omega.{arith}
use lib.ListN.{length, length-set, take, set}
use lib.Seq.{length-take-le}
use Rattle.table.specs.declared.words.Term.{Term}
use Rattle.table.specs.Terms.{terms, term_at}
use Rattle.table.specs.Faults.{is_read}
use Rattle.table.specs.Folds.{first_from}
use Rattle.evaluate.specs.Code.Turns.{turn_of, number_of, on_from, is_read_at, numbered}
use Rattle.evaluate.proofs.Onward.{Going, set_out, go_on, stopped, passed}
use Rattle.evaluate.proofs.turns.advance.Goals as goal
use Rattle.evaluate.proofs.turns.advance.Goals.{else-loop-i-test, then-loop-i-test+then-is_read}

pub loop-i-init : goal.loop-i-init
loop-i-init c = (set_out (is_read_at c.args.table.now) (numbered c.args.table.now c.args.values.now 0) c.args.terms c.args.at c.args.work.now c.requires.at_le_terms.0, refl)

pub slice_bounds-number-end : goal.slice_bounds-number-end
slice_bounds-number-end c = omega (arith, c.loop-i.invariant.1, c.requires.at_le_terms.1, c.loop-i-test.true)

pub slice_bounds-number-end-in-loop-i : goal.slice_bounds-number-end-in-loop-i
slice_bounds-number-end-in-loop-i c = sym (length-take-le c.loop-i.i c.loop-i.work (omega (arith, c.loop-i.invariant.1, c.requires.at_le_terms.1, c.loop-i-test.true)))

pub number-value-requires : goal.number-value-requires
number-value-requires c =
    let long : length (take c.loop-i.i c.loop-i.work) ≡ c.loop-i.i = length-take-le c.loop-i.i c.loop-i.work (omega (arith, c.loop-i.invariant.1, c.requires.at_le_terms.1, c.loop-i-test.true)) in
    record { well_formed = c.requires.well_formed; next = record { inside = subst (λ (k : ℕ). k < terms c.args.table.now) (sym long) (omega (arith, c.loop-i-test.true, c.requires.terms_value)); is = c.term_at-x.ensures ∙ ap (term_at c.args.table.now) (sym long) } }

pub bounds-work-k : goal.bounds-work-k
bounds-work-k c = omega (arith, c.loop-i.invariant.1, c.requires.at_le_terms.1, c.loop-i-test.true)

pub loop-i-smaller : goal.loop-i-smaller
loop-i-smaller c = omega (arith, c.loop-i-test.true)

pub loop-i-preserved : goal.loop-i-preserved
loop-i-preserved c =
    let plain : is_read_at c.args.table.now c.loop-i.i ≡ false = sym (c.is_read.ensures ∙ ap is_read c.term_at-x.ensures) ∙ c.if-is_read.false in
    let wrote : set c.loop-i.work c.loop-i.i c.number-value.result ≡ numbered c.args.table.now c.args.values.now 0 c.loop-i.work c.loop-i.i =
    ap (set c.loop-i.work c.loop-i.i) (c.number-value.ensures ∙ ap (λ (y : Term). number_of c.args.table.now c.args.values.now (take c.loop-i.i c.loop-i.work) y 0) c.term_at-x.ensures) in (
      subst (Going (is_read_at c.args.table.now) (numbered c.args.table.now c.args.values.now 0) c.args.terms c.args.at c.args.work.now _) (sym wrote)
          (go_on (is_read_at c.args.table.now) (numbered c.args.table.now c.args.values.now 0) c.args.terms c.args.at c.args.work.now c.loop-i.i c.loop-i.work c.loop-i.invariant.0 c.loop-i-test.true plain),
      length-set c.loop-i.work c.loop-i.i c.number-value.result ∙ c.loop-i.invariant.1,
    )

pub slice_bounds-turn_at-end : goal.slice_bounds-turn_at-end
slice_bounds-turn_at-end c = omega (arith, c.loop-i.invariant.1, c.loop-i.invariant.0.within, c.requires.at_le_terms.1)

pub slice_bounds-turn_at-end-2 : goal.slice_bounds-turn_at-end-2
slice_bounds-turn_at-end-2 c = sym (length-take-le c.loop-i.i c.loop-i.work (omega (arith, c.loop-i.invariant.1, c.loop-i.invariant.0.within, c.requires.at_le_terms.1)))

pub turn_at-requires : goal.turn_at-requires
turn_at-requires c = c.requires.well_formed

pub shape_of-work : goal.shape_of-work
shape_of-work c = c.loop-i.invariant.1

pub returns : goal.returns
returns c =
    let reads = is_read_at c.args.table.now in
    let writes = numbered c.args.table.now c.args.values.now 0 in
    -- where the loop was left: past the last term, or at a read
    let there : (c.loop-i.i ≡ first_from reads (c.args.terms - c.args.at) c.args.at) × (c.loop-i.work ≡ on_from reads writes (c.args.terms - c.args.at) c.args.work.now c.args.at) =
    elim c.loop-i-test.branch [
      | else-loop-i-test w ↦ passed reads writes c.args.terms c.args.at c.args.work.now c.loop-i.i c.loop-i.work c.loop-i.invariant.0 w.loop-i-test.false
      | then-loop-i-test+then-is_read w ↦ stopped reads writes c.args.terms c.args.at c.args.work.now c.loop-i.i c.loop-i.work c.loop-i.invariant.0 w.loop-i-test.true
          (sym (w.is_read.ensures ∙ ap is_read w.term_at-x.ensures) ∙ w.if-is_read.true)
    ] in
    record { value = c.turn_at.ensures ∙ ap (λ (k : ℕ). turn_of c.args.table.now c.args.values.now c.args.count c.args.terms (take k c.loop-i.work) k) there.0; work_after = there.1 }
