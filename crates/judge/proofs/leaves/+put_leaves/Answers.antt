use Prim.Native.Nat.{ℕ, ◌+◌, ◌≤◌, ◌<◌}
use mathlib.Core.Path.{sym, ap, ap₂, subst, ◌∙◌}
use mathlib.Core.List.{List, []}
use native.Mathlib.Omega.{arith}
use lib.ListN.{length}
use lib.Seq.{sets}
use native.Mathlib.Nat.{add_assoc}
use Rattle.table.proofs.SoundTerms.{stacked}
use Rattle.evaluate.proofs.Trees.{beneath, first_below, second_below}
use Rattle.judge.specs.Code.Leaves.{leaves_at}
use Rattle.judge.proofs.LeafLaws.{under_store, at_variable, of_both, count_both, sets_then}
use Rattle.judge.proofs.leaves.+put_leaves.Goals as goal

pub put_leaves-requires : goal.put_leaves-requires
put_leaves-requires t c = let t = c.args.table.now in let st = stacked 80000 t c.requires.well_formed in (subst (λ (n : ℕ). c.term_at-x.result.p < n) c.decreases (beneath t st [] 0 c.args.a c.term_at-x.result c.term_at-x.ensures (sym c.is_store.ensures ∙ c.if-is_store.true)), (c.requires.well_formed, (subst (λ (l : List ℕ). c.args.first + length l ≤ 17) (sym (under_store t st c.args.a c.term_at-x.result c.term_at-x.ensures (sym c.is_store.ensures ∙ c.if-is_store.true))) c.requires.a_bound, c.requires.slots_len)))

pub returns-then-is_store : goal.returns-then-is_store
returns-then-is_store t c = let t = c.args.table.now in let st = stacked 80000 t c.requires.well_formed in let e = under_store t st c.args.a c.term_at-x.result c.term_at-x.ensures (sym c.is_store.ensures ∙ c.if-is_store.true) in
    record { value = c.put_leaves.ensures.value ∙ ap (λ (l : List ℕ). c.args.first + length l) e; slots_after = c.put_leaves.ensures.slots_after ∙ ap (sets c.args.slots.now c.args.first) e }

pub bounds-slots-first : goal.bounds-slots-first
bounds-slots-first t c = let t = c.args.table.now in let st = stacked 80000 t c.requires.well_formed in omega (arith, c.requires.a_bound, c.requires.slots_len, ap length (at_variable t st c.args.a c.term_at-x.result c.term_at-x.ensures (sym c.is_store.ensures ∙ c.if-is_store.false) (sym c.is_choice.ensures ∙ c.if-not-is_choice.true)))

pub returns-then-not-is_choice : goal.returns-then-not-is_choice
returns-then-not-is_choice t c = let t = c.args.table.now in let st = stacked 80000 t c.requires.well_formed in let e = at_variable t st c.args.a c.term_at-x.result c.term_at-x.ensures (sym c.is_store.ensures ∙ c.if-is_store.false) (sym c.is_choice.ensures ∙ c.if-not-is_choice.true) in
    record { value = ap (λ (l : List ℕ). c.args.first + length l) e; slots_after = ap (sets c.args.slots.now c.args.first) e }

pub put_leaves-second-requires : goal.put_leaves-second-requires
put_leaves-second-requires t c = let t = c.args.table.now in let st = stacked 80000 t c.requires.well_formed in (subst (λ (n : ℕ). c.term_at-x.result.q < n) c.decreases (first_below t st [] 0 c.args.a c.term_at-x.result c.term_at-x.ensures (sym c.is_choice.ensures ∙ c.if-not-is_choice.false)), (c.requires.well_formed, (omega (arith, c.requires.a_bound, count_both t st c.args.a c.term_at-x.result c.term_at-x.ensures (sym c.is_choice.ensures ∙ c.if-not-is_choice.false)), c.requires.slots_len)))

pub put_leaves-requires-2 : goal.put_leaves-requires-2
put_leaves-requires-2 t c = let t = c.args.table.now in let st = stacked 80000 t c.requires.well_formed in (subst (λ (n : ℕ). c.term_at-x.result.r < n) c.decreases (second_below t st [] 0 c.args.a c.term_at-x.result c.term_at-x.ensures (sym c.is_choice.ensures ∙ c.if-not-is_choice.false)), (c.requires.well_formed, (omega (arith, c.requires.a_bound, c.put_leaves-second.ensures.value, count_both t st c.args.a c.term_at-x.result c.term_at-x.ensures (sym c.is_choice.ensures ∙ c.if-not-is_choice.false)), c.put_leaves-second.auto.slots ∙ c.requires.slots_len)))

pub shape_of-slots : goal.shape_of-slots
shape_of-slots t c = c.put_leaves-2.auto.slots ∙ c.put_leaves-second.auto.slots

pub returns : goal.returns
returns t c = let t = c.args.table.now in let st = stacked 80000 t c.requires.well_formed in let one = c.put_leaves-second.ensures in let two = c.put_leaves-2.ensures in
    record { value = two.value ∙ ap (λ (k : ℕ). k + length (leaves_at t c.term_at-x.result.r)) one.value ∙ add_assoc c.args.first (length (leaves_at t c.term_at-x.result.q)) (length (leaves_at t c.term_at-x.result.r)) ∙ ap (λ (n : ℕ). c.args.first + n) (count_both t st c.args.a c.term_at-x.result c.term_at-x.ensures (sym c.is_choice.ensures ∙ c.if-not-is_choice.false)); slots_after = two.slots_after ∙ ap₂ (λ (l : List ℕ) (k : ℕ). sets l k (leaves_at t c.term_at-x.result.r)) one.slots_after one.value ∙ sets_then c.args.slots.now c.args.first (leaves_at t c.term_at-x.result.q) (leaves_at t c.term_at-x.result.r) ∙ ap (sets c.args.slots.now c.args.first) (of_both t st c.args.a c.term_at-x.result c.term_at-x.ensures (sym c.is_choice.ensures ∙ c.if-not-is_choice.false)) }
