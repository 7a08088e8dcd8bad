use Prim.Native.Nat.{ℕ, ◌<◌}
use mathlib.Core.Path.{sym, subst, ◌∙◌}
use mathlib.Core.List.{List}
use native.Mathlib.Omega.{arith}
use Rattle.setting.specs.Code.Entries.{Entries}
use Rattle.setting.proofs.Latest.{none_yet, passed, noted, low_slot}
use Rattle.setting.proofs.arrays.fill_entries.Goals as goal

pub count-terms-requires : goal.count-terms-requires
count-terms-requires c = omega (arith, c.requires.well_formed.few)

pub loop-i-init : goal.loop-i-init
loop-i-init c = (omega arith, subst (λ (l : List ℕ). Entries c.args.table.now 0 l) (sym c.requires.entries_value) (none_yet c.args.table.now))

-- the table has term i whole
pub term_in-x-requires : goal.term_in-x-requires
term_in-x-requires c = omega (arith, c.loop-i-test.true, c.count-terms.ensures)

pub loop-i-preserved-then-not-array_variable : goal.loop-i-preserved-then-not-array_variable
loop-i-preserved-then-not-array_variable c =
    let t = c.args.table.now in
    (omega arith, passed t c.loop-i.i c.loop-i.entries c.loop-i.invariant.1 c.term_in-x.result c.term_in-x.ensures (sym c.array_variable.ensures ∙ c.if-not-array_variable.true))

pub overflow_cast-slot : goal.overflow_cast-slot
overflow_cast-slot c =
    let low : c.term_in-x.result.p < 256 = let t = c.args.table.now in
    low_slot t c.loop-i.i c.loop-i.entries c.loop-i.invariant.1 c.term_in-x.result c.term_in-x.ensures (sym c.array_variable.ensures ∙ c.if-not-array_variable.false) in
    omega (arith, low)

pub offset_bounds-entries-slot : goal.offset_bounds-entries-slot
offset_bounds-entries-slot c =
    let low : c.term_in-x.result.p < 256 = let t = c.args.table.now in
    low_slot t c.loop-i.i c.loop-i.entries c.loop-i.invariant.1 c.term_in-x.result c.term_in-x.ensures (sym c.array_variable.ensures ∙ c.if-not-array_variable.false) in
    omega (arith, low)

pub bounds-entries-slot : goal.bounds-entries-slot
bounds-entries-slot c =
    let low : c.term_in-x.result.p < 256 = let t = c.args.table.now in
    low_slot t c.loop-i.i c.loop-i.entries c.loop-i.invariant.1 c.term_in-x.result c.term_in-x.ensures (sym c.array_variable.ensures ∙ c.if-not-array_variable.false) in
    omega (arith, low, c.loop-i.invariant.1.size)

pub loop-i-preserved : goal.loop-i-preserved
loop-i-preserved c =
    let t = c.args.table.now in
    (omega arith, noted t c.loop-i.i c.loop-i.entries c.loop-i.invariant.1 c.term_in-x.result c.term_in-x.ensures (sym c.array_variable.ensures ∙ c.if-not-array_variable.false))

pub returns : goal.returns
returns c =
    let t = c.args.table.now in
    subst (λ (n : ℕ). Entries t n c.loop-i.entries) (omega (arith, c.loop-i.invariant.0, c.loop-i-test.false, c.count-terms.ensures)) c.loop-i.invariant.1
