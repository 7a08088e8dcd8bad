use Prim.Native.Nat.{◌<◌}
use mathlib.Core.Path.{refl, sym, ◌∙◌}
use native.Mathlib.Omega.{arith}
use Rattle.table.proofs.Slots.{started, all_clean, one_passed, looking, place_inside, term-inside, other_slot, one_seen, one_found, place_free, one_noted}
use Rattle.admission.proofs.clashes.first_clash.Goals as goal

pub variables-init : goal.variables-init
variables-init c = (refl, started c.args.table.now c.args.terms)

pub term_in-x-requires : goal.term_in-x-requires
term_in-x-requires c = omega (arith, c.requires, c.variables-test.true)

pub variables-preserved-then-not-claims : goal.variables-preserved-then-not-claims
variables-preserved-then-not-claims c =
    let v = c.variables.invariant in
    (v.0, one_passed v.1 c.variables-test.true c.term_in-x.ensures (sym c.claims.ensures ∙ c.if-not-claims.true))

pub loop-k-init : goal.loop-k-init
loop-k-init c =
    let v = c.variables.invariant in
    (v.0, refl, looking v.1 c.variables-test.true c.term_in-x.ensures (sym c.claims.ensures ∙ c.if-not-claims.false))

pub term_in-a-requires : goal.term_in-a-requires
term_in-a-requires c = term-inside c.loop-k.invariant.2 c.loop-k-test.true c.requires

pub variables-preserved-then-a-x : goal.variables-preserved-then-a-x
variables-preserved-then-a-x c =
    let l = c.loop-k.invariant in
    (l.0, one_seen l.2 c.term_in-a.ensures c.loop-k-test.true c.if-a-x.true (sym c.conflicts.ensures ∙ c.if-conflicts.false))

pub loop-k-preserved : goal.loop-k-preserved
loop-k-preserved c =
    let l = c.loop-k.invariant in
    (l.0, l.1, other_slot l.2 c.term_in-a.ensures c.if-a-x.false)

pub variables-preserved : goal.variables-preserved
variables-preserved c =
    let l = c.loop-k.invariant in
    (l.0, one_noted l.2 c.loop-k-test.false)

pub returns-after-variables : goal.returns-after-variables
returns-after-variables c =
    let v = c.variables.invariant in
    v.0 ∙ all_clean v.1 c.variables-test.false

pub returns-then-conflicts : goal.returns-then-conflicts
returns-then-conflicts c = one_found c.loop-k.invariant.2 c.term_in-a.ensures c.loop-k-test.true (sym c.conflicts.ensures ∙ c.if-conflicts.true)

pub offset_bounds-earlier-k : goal.offset_bounds-earlier-k
offset_bounds-earlier-k c =
    let inside : c.loop-k.k < 256 = place_inside c.loop-k.invariant.2 c.loop-k-test.true in
    omega (arith, inside)

pub bounds-earlier-k : goal.bounds-earlier-k
bounds-earlier-k c = place_inside c.loop-k.invariant.2 c.loop-k-test.true

pub offset_bounds-earlier-met : goal.offset_bounds-earlier-met
offset_bounds-earlier-met c =
    let free : c.variables.met < 256 = place_free c.loop-k.invariant.2 c.loop-k-test.false in
    omega (arith, free)

pub bounds-earlier-met : goal.bounds-earlier-met
bounds-earlier-met c = place_free c.loop-k.invariant.2 c.loop-k-test.false

pub overflow_add-met : goal.overflow_add-met
overflow_add-met c =
    let free : c.variables.met < 256 = place_free c.loop-k.invariant.2 c.loop-k-test.false in
    omega (arith, free)
