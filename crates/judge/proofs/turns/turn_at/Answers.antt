use Prim.Native.Nat.{ℕ}
use mathlib.Core.Path.{refl, sym, ap, ap₂, ◌∙◌}
use mathlib.Core.List.{List}
use mathlib.Core.Bool.{◌&&◌}
use lib.Dec.{ltb}
use lib.ListN.{length}
use Rattle.table.specs.declared.words.Term.{Term}
use Rattle.table.specs.Faults.{is_read}
use Rattle.evaluate.specs.declared.turns.Turn.{Turn as Asked}
use Rattle.judge.specs.Code.Leaves.{leaves_at}
use Rattle.judge.specs.Code.Labelled.{truth_in}
use Rattle.judge.specs.Code.Turns.{alone, held, asks_for, slots_of, array_of}
use Rattle.judge.proofs.Asking.{index_is, reached_is, held_is, free-asks, held_asks, plain-asks}
use Rattle.judge.proofs.turns.turn_at.Goals as goal

pub returns-then-not-is_read-truth_at : goal.returns-then-not-is_read-truth_at
returns-then-not-is_read-truth_at c =
    let test = ap₂ ◌&&◌ c.is_read.ensures c.truth_at.ensures ∙ ap (λ (y : Term). is_read y && truth_in c.args.truths.now y.q) c.term_at-x.ensures in
    c.alone.ensures ∙ ap (λ (t : Asked). alone t) c.turn_at.ensures
    ∙ sym (plain-asks c.args.table.now c.args.values.now c.args.front.now c.args.truths.now (slots_of c.args.table.now (array_of c.args.table.now c.args.front.now c.args.truths.now c.args.at)) c.args.count c.args.terms c.args.at 0 (sym test ∙ c.if-not-is_read-truth_at.true))

pub reach-array-requires : goal.reach-array-requires
reach-array-requires c = c.requires

-- a store answers
pub returns-then-is_store-picked : goal.returns-then-is_store-picked
returns-then-is_store-picked c =
    let w = c.args.table.now in
    let free = ap₂ ◌&&◌ c.is_read.ensures c.truth_at.ensures ∙ ap (λ (z : Term). is_read z && truth_in c.args.truths.now z.q) c.term_at-x.ensures in
    let stops = ap₂ ◌&&◌ c.is_store.ensures c.picked.ensures ∙ held_is w c.args.front.now c.args.truths.now c.args.at c.term_at-x.result c.number_at-index.result c.reach-array.result c.term_at-y.result c.term_at-x.ensures c.number_at-index.ensures c.reach-array.ensures c.term_at-y.ensures in
    c.held.ensures
    ∙ ap (held (ltb c.args.at c.args.terms) c.args.at) (reached_is w c.args.front.now c.args.truths.now c.args.at c.term_at-x.result c.number_at-index.result c.reach-array.result c.term_at-y.result c.term_at-x.ensures c.number_at-index.ensures c.reach-array.ensures c.term_at-y.ensures)
    ∙ sym (held_asks w c.args.values.now c.args.front.now c.args.truths.now (slots_of c.args.table.now (array_of c.args.table.now c.args.front.now c.args.truths.now c.args.at)) c.args.count c.args.terms c.args.at 0 (sym free ∙ c.if-not-is_read-truth_at.false) (sym stops ∙ c.if-is_store-picked.true))

pub leaves-met-requires : goal.leaves-met-requires
leaves-met-requires c = record { well_formed = c.requires; slots_len = refl }

-- it asks for cells
pub returns : goal.returns
returns c =
    let w = c.args.table.now in
    let found = c.leaves-met.ensures in
    let free = ap₂ ◌&&◌ c.is_read.ensures c.truth_at.ensures ∙ ap (λ (z : Term). is_read z && truth_in c.args.truths.now z.q) c.term_at-x.ensures in
    let stops = ap₂ ◌&&◌ c.is_store.ensures c.picked.ensures ∙ held_is w c.args.front.now c.args.truths.now c.args.at c.term_at-x.result c.number_at-index.result c.reach-array.result c.term_at-y.result c.term_at-x.ensures c.number_at-index.ensures c.reach-array.ensures c.term_at-y.ensures in
    c.asks_for.ensures
    ∙ ap₂ (λ (m : ℕ) (l : List ℕ). asks_for c.args.values.now (ltb c.args.at c.args.terms) c.args.at c.args.count c.number_at-index.result 0 c.reach-array.result m l) found.value found.slots_after
    ∙ ap₂ (λ (j k : ℕ). asks_for c.args.values.now (ltb c.args.at c.args.terms) c.args.at c.args.count j 0 k (length (leaves_at w k)) (slots_of w k)) (index_is w c.args.front.now c.args.truths.now c.args.at c.term_at-x.result c.number_at-index.result c.reach-array.result c.term_at-y.result c.term_at-x.ensures c.number_at-index.ensures c.reach-array.ensures c.term_at-y.ensures) (reached_is w c.args.front.now c.args.truths.now c.args.at c.term_at-x.result c.number_at-index.result c.reach-array.result c.term_at-y.result c.term_at-x.ensures c.number_at-index.ensures c.reach-array.ensures c.term_at-y.ensures)
    ∙ sym (free-asks w c.args.values.now c.args.front.now c.args.truths.now (slots_of w (array_of w c.args.front.now c.args.truths.now c.args.at)) c.args.count c.args.terms c.args.at 0 (sym free ∙ c.if-not-is_read-truth_at.false, sym stops ∙ c.if-is_store-picked.false))
