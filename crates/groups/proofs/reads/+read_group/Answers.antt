use Prim.Native.Nat.{ℕ}
use mathlib.Core.Path.{sym, ap, ◌∙◌}
use native.Mathlib.Omega.{arith}
use Rattle.groups.specs.Code.Writing.{placed_all, after}
use Rattle.groups.specs.Groups.{strict_group}
use Rattle.groups.proofs.ReadGroups.{after_read, ends, store_falls, store-inside, store_wrote, choice_falls, choice-inside, choice-wrote}
use Rattle.groups.proofs.reads.+read_group.Goals as goal

pub term_in-x-requires : goal.term_in-x-requires
term_in-x-requires t c = omega (arith, c.requires.numbered.within, c.requires.a_in_bounds.0)

pub read_group-below-requires : goal.read_group-below-requires
read_group-below-requires t c = let f = store_falls c.args.table.now c.args.conditions.now c.args.b c.args.a c.args.j c.args.cj (c.requires.well_formed, (c.requires.numbered, c.requires.a_in_bounds)) c.term_in-x.result c.term_in-x.ensures (sym c.is_store.ensures ∙ c.if-is_store.true) in (omega (arith, f.0, f.1, c.decreases), (c.requires.well_formed, (c.requires.numbered, (omega (arith, f.0, f.1, c.requires.a_in_bounds.0), omega (arith, f.0, f.1, c.requires.a_in_bounds.1)))))

pub number_in-ci-requires : goal.number_in-ci-requires
number_in-ci-requires t c = (store-inside c.args.table.now c.args.conditions.now c.args.b c.args.a c.args.j c.args.cj (c.requires.well_formed, (c.requires.numbered, c.requires.a_in_bounds)) c.term_in-x.result c.term_in-x.ensures (sym c.is_store.ensures ∙ c.if-is_store.true)).0

pub number_in-ce-requires : goal.number_in-ce-requires
number_in-ce-requires t c = (store-inside c.args.table.now c.args.conditions.now c.args.b c.args.a c.args.j c.args.cj (c.requires.well_formed, (c.requires.numbered, c.requires.a_in_bounds)) c.term_in-x.result c.term_in-x.ensures (sym c.is_store.ensures ∙ c.if-is_store.true)).1

pub store-requires : goal.store-requires
store-requires t c = let f = store_falls c.args.table.now c.args.conditions.now c.args.b c.args.a c.args.j c.args.cj (c.requires.well_formed, (c.requires.numbered, c.requires.a_in_bounds)) c.term_in-x.result c.term_in-x.ensures (sym c.is_store.ensures ∙ c.if-is_store.true) in omega (arith, f.1, after_read c.args.table.now c.args.conditions.now c.args.b c.args.a c.args.j c.args.cj (c.requires.well_formed, (c.requires.numbered, c.requires.a_in_bounds)) c.term_in-x.result c.term_in-x.ensures c.args.b c.term_in-x.result.p c.read_group-below.ensures.value f.0, c.requires.a_in_bounds.1)

pub shape_of-room-then-is_store : goal.shape_of-room-then-is_store
shape_of-room-then-is_store t c = c.store.auto.room ∙ c.read_group-below.auto.room

pub returns-then-is_store : goal.returns-then-is_store
returns-then-is_store t c =
    let both = store_wrote c.args.table.now c.args.conditions.now c.args.b c.args.a c.args.j c.args.cj (c.requires.well_formed, (c.requires.numbered, c.requires.a_in_bounds)) c.term_in-x.result c.term_in-x.ensures (sym c.is_store.ensures ∙ c.if-is_store.true) c.args.room.now c.number_in-ci.result c.number_in-ce.result c.number_in-ci.ensures c.number_in-ce.ensures (c.read_group-below.ensures.value, c.read_group-below.ensures.room_after) (c.store.ensures.value, c.store.ensures.room_after) in
    record { value = both.0; room_after = both.1 }

pub number_in-requires : goal.number_in-requires
number_in-requires t c = c.requires.a_in_bounds.0

pub strict-requires : goal.strict-requires
strict-requires t c = omega (arith, c.requires.a_in_bounds.1)

pub shape_of-room-then-not-is_choice : goal.shape_of-room-then-not-is_choice
shape_of-room-then-not-is_choice t c = c.strict.auto.room

pub returns-then-not-is_choice : goal.returns-then-not-is_choice
returns-then-not-is_choice t c = let n = c.number_in.ensures in let e = ends c.args.table.now c.args.conditions.now c.args.b c.args.a c.args.j c.args.cj (c.requires.well_formed, (c.requires.numbered, c.requires.a_in_bounds)) c.term_in-x.result c.term_in-x.ensures (sym c.is_store.ensures ∙ c.if-is_store.false) (sym c.is_choice.ensures ∙ c.if-not-is_choice.true) in
    record { value = c.strict.ensures.value ∙ ap (λ (m : ℕ). after c.args.b (strict_group m c.args.cj)) n ∙ ap (after c.args.b) e; room_after = c.strict.ensures.room_after ∙ ap (λ (m : ℕ). placed_all c.args.room.now c.args.b (strict_group m c.args.cj)) n ∙ ap (placed_all c.args.room.now c.args.b) e }

pub read_group-q-requires : goal.read_group-q-requires
read_group-q-requires t c = let f = choice_falls c.args.table.now c.args.conditions.now c.args.b c.args.a c.args.j c.args.cj (c.requires.well_formed, (c.requires.numbered, c.requires.a_in_bounds)) c.term_in-x.result c.term_in-x.ensures (sym c.is_choice.ensures ∙ c.if-not-is_choice.false) in (omega (arith, f.0, f.1, f.2, c.decreases), (c.requires.well_formed, (c.requires.numbered, (omega (arith, f.0, f.1, f.2, c.requires.a_in_bounds.0), omega (arith, f.0, f.1, f.2, c.requires.a_in_bounds.1)))))

pub read_group-r-requires : goal.read_group-r-requires
read_group-r-requires t c = let f = choice_falls c.args.table.now c.args.conditions.now c.args.b c.args.a c.args.j c.args.cj (c.requires.well_formed, (c.requires.numbered, c.requires.a_in_bounds)) c.term_in-x.result c.term_in-x.ensures (sym c.is_choice.ensures ∙ c.if-not-is_choice.false) in let n = after_read c.args.table.now c.args.conditions.now c.args.b c.args.a c.args.j c.args.cj (c.requires.well_formed, (c.requires.numbered, c.requires.a_in_bounds)) c.term_in-x.result c.term_in-x.ensures c.args.b c.term_in-x.result.q c.read_group-q.ensures.value f.0 in (omega (arith, f.0, f.1, f.2, c.decreases), (c.requires.well_formed, (c.requires.numbered, (omega (arith, f.0, f.1, f.2, c.requires.a_in_bounds.0), omega (arith, f.0, f.1, f.2, n, c.requires.a_in_bounds.1)))))

pub number_in-cc-requires : goal.number_in-cc-requires
number_in-cc-requires t c = choice-inside c.args.table.now c.args.conditions.now c.args.b c.args.a c.args.j c.args.cj (c.requires.well_formed, (c.requires.numbered, c.requires.a_in_bounds)) c.term_in-x.result c.term_in-x.ensures (sym c.is_choice.ensures ∙ c.if-not-is_choice.false)

pub array_choice-requires : goal.array_choice-requires
array_choice-requires t c = let f = choice_falls c.args.table.now c.args.conditions.now c.args.b c.args.a c.args.j c.args.cj (c.requires.well_formed, (c.requires.numbered, c.requires.a_in_bounds)) c.term_in-x.result c.term_in-x.ensures (sym c.is_choice.ensures ∙ c.if-not-is_choice.false) in omega (arith, f.2, after_read c.args.table.now c.args.conditions.now c.args.b c.args.a c.args.j c.args.cj (c.requires.well_formed, (c.requires.numbered, c.requires.a_in_bounds)) c.term_in-x.result c.term_in-x.ensures c.args.b c.term_in-x.result.q c.read_group-q.ensures.value f.0, after_read c.args.table.now c.args.conditions.now c.args.b c.args.a c.args.j c.args.cj (c.requires.well_formed, (c.requires.numbered, c.requires.a_in_bounds)) c.term_in-x.result c.term_in-x.ensures c.read_group-q.result.next c.term_in-x.result.r c.read_group-r.ensures.value f.1, c.requires.a_in_bounds.1)

pub shape_of-room : goal.shape_of-room
shape_of-room t c = c.array_choice.auto.room ∙ c.read_group-r.auto.room ∙ c.read_group-q.auto.room

pub returns : goal.returns
returns t c =
    let both = choice-wrote c.args.table.now c.args.conditions.now c.args.b c.args.a c.args.j c.args.cj (c.requires.well_formed, (c.requires.numbered, c.requires.a_in_bounds)) c.term_in-x.result c.term_in-x.ensures (sym c.is_choice.ensures ∙ c.if-not-is_choice.false) c.args.room.now c.number_in-cc.result c.number_in-cc.ensures (c.read_group-q.ensures.value, c.read_group-q.ensures.room_after) (c.read_group-r.ensures.value, c.read_group-r.ensures.room_after) (c.array_choice.ensures.value, c.array_choice.ensures.room_after) in
    record { value = both.0; room_after = both.1 }
