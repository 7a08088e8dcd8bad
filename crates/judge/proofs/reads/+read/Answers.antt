use Prim.Native.Nat.{ℕ, ◌+◌, ◌≤◌, ◌<◌}
use mathlib.Core.Path.{sym, ap, ap₂, subst, ◌∙◌}
use mathlib.Core.Bool.{cond}
use mathlib.Core.List.{[]}
use native.Mathlib.Omega.{arith}
use lib.ListN.{length}
use Rattle.ops.specs.Meaning.{holds}
use Rattle.table.proofs.SoundTerms.{stacked}
use Rattle.evaluate.proofs.Trees.{beneath, first_below, second_below, picked-below}
use Rattle.judge.specs.Code.Leaves.{leaves_at}
use Rattle.judge.specs.Code.Labelled.{overlaid, either_of, labelled_at}
use Rattle.judge.proofs.Trees.{read_end, read_over, read-picked, read-either, read_taken, store-within, first-within, second-within, taken-within}
use Rattle.judge.proofs.reads.+read.Goals as goal

pub returns-then-picked : goal.returns-then-picked
returns-then-picked t c = c.stored.ensures ∙ (let t = c.args.table.now in read-picked t c.args.front.now c.args.truths.now c.args.cells.now (stacked 80000 t c.requires.well_formed) c.args.j c.args.cj c.args.a c.term_at-x.result c.term_at-x.ensures c.args.first (sym c.is_store.ensures ∙ c.if-is_store.true) (sym c.picked.ensures ∙ c.if-picked.true))

pub read-below-requires : goal.read-below-requires
read-below-requires t c = let t = c.args.table.now in (subst (λ (n : ℕ). c.term_at-x.result.p < n) c.decreases (beneath t (stacked 80000 t c.requires.well_formed) [] 0 c.args.a c.term_at-x.result c.term_at-x.ensures (sym c.is_store.ensures ∙ c.if-is_store.true)), (c.requires.well_formed, store-within t c.args.front.now c.args.truths.now c.args.cells.now (stacked 80000 t c.requires.well_formed) c.args.j c.args.cj c.args.a c.term_at-x.result c.term_at-x.ensures c.args.first (sym c.is_store.ensures ∙ c.if-is_store.true) c.requires.a_bound))

pub returns-then-is_store : goal.returns-then-is_store
returns-then-is_store t c = let t = c.args.table.now in c.overlay.ensures ∙ ap (overlaid c.args.front.now c.args.truths.now c.term_at-x.result c.args.j c.args.cj) c.read-below.ensures ∙ read_over t c.args.front.now c.args.truths.now c.args.cells.now (stacked 80000 t c.requires.well_formed) c.args.j c.args.cj c.args.a c.term_at-x.result c.term_at-x.ensures c.args.first (sym c.is_store.ensures ∙ c.if-is_store.true)

pub returns-then-not-is_choice : goal.returns-then-not-is_choice
returns-then-not-is_choice t c = rw (c.truth_at.ensures, c.number_at.ensures) (let t = c.args.table.now in read_end t c.args.front.now c.args.truths.now c.args.cells.now (stacked 80000 t c.requires.well_formed) c.args.j c.args.cj c.args.a c.term_at-x.result c.term_at-x.ensures c.args.first (sym c.is_store.ensures ∙ c.if-is_store.false) (sym c.is_choice.ensures ∙ c.if-not-is_choice.true))

pub overflow_add-second : goal.overflow_add-second
overflow_add-second t c = let t = c.args.table.now in omega (arith, c.leaf_count.ensures, first-within t c.args.front.now c.args.truths.now c.args.cells.now (stacked 80000 t c.requires.well_formed) c.args.j c.args.cj c.args.a c.term_at-x.result c.term_at-x.ensures c.args.first (sym c.is_choice.ensures ∙ c.if-not-is_choice.false) c.requires.a_bound)

pub read-picked-requires : goal.read-picked-requires
read-picked-requires t c = let t = c.args.table.now in let is = sym c.is_choice.ensures ∙ c.if-not-is_choice.false in let b = holds c.number_at-taken.result in (subst (λ (n : ℕ). c.ite-branch.result < n) c.decreases (subst (λ (k : ℕ). k < c.args.a) (sym c.ite-branch.ensures) (picked-below t (stacked 80000 t c.requires.well_formed) [] 0 c.args.a c.term_at-x.result c.term_at-x.ensures is b)), (c.requires.well_formed, subst (λ (n : ℕ). n ≤ 17) (sym (ap₂ (λ (f k : ℕ). f + length (leaves_at t k)) (c.ite-from.ensures ∙ ap (λ (n : ℕ). cond b c.args.first (c.args.first + n)) c.leaf_count.ensures) c.ite-branch.ensures)) (taken-within t c.args.front.now c.args.truths.now c.args.cells.now (stacked 80000 t c.requires.well_formed) c.args.j c.args.cj c.args.a c.term_at-x.result c.term_at-x.ensures c.args.first is c.requires.a_bound b)))

pub returns-then-truth_at : goal.returns-then-truth_at
returns-then-truth_at t c = let t = c.args.table.now in let is = sym c.is_choice.ensures ∙ c.if-not-is_choice.false in let n = c.number_at-taken.ensures in let count = c.leaf_count.ensures in c.read-picked.ensures ∙ ap₂ (λ (k f : ℕ). labelled_at t c.args.front.now c.args.truths.now c.args.cells.now c.args.j c.args.cj k f) (c.ite-branch.ensures ∙ ap (λ (m : ℕ). cond (holds m) c.term_at-x.result.q c.term_at-x.result.r) n) (c.ite-from.ensures ∙ (λ i. cond (holds (n i)) c.args.first (c.args.first + count i))) ∙ read_taken t c.args.front.now c.args.truths.now c.args.cells.now (stacked 80000 t c.requires.well_formed) c.args.j c.args.cj c.args.a c.term_at-x.result c.term_at-x.ensures c.args.first is (sym c.truth_at-2.ensures ∙ c.if-truth_at.true)

pub read-q-requires : goal.read-q-requires
read-q-requires t c = let t = c.args.table.now in (subst (λ (n : ℕ). c.term_at-x.result.q < n) c.decreases (first_below t (stacked 80000 t c.requires.well_formed) [] 0 c.args.a c.term_at-x.result c.term_at-x.ensures (sym c.is_choice.ensures ∙ c.if-not-is_choice.false)), (c.requires.well_formed, first-within t c.args.front.now c.args.truths.now c.args.cells.now (stacked 80000 t c.requires.well_formed) c.args.j c.args.cj c.args.a c.term_at-x.result c.term_at-x.ensures c.args.first (sym c.is_choice.ensures ∙ c.if-not-is_choice.false) c.requires.a_bound))

pub read-r-requires : goal.read-r-requires
read-r-requires t c = let t = c.args.table.now in (subst (λ (n : ℕ). c.term_at-x.result.r < n) c.decreases (second_below t (stacked 80000 t c.requires.well_formed) [] 0 c.args.a c.term_at-x.result c.term_at-x.ensures (sym c.is_choice.ensures ∙ c.if-not-is_choice.false)), (c.requires.well_formed, subst (λ (n : ℕ). c.args.first + n + length (leaves_at t c.term_at-x.result.r) ≤ 17) (sym c.leaf_count.ensures) (second-within t c.args.front.now c.args.truths.now c.args.cells.now (stacked 80000 t c.requires.well_formed) c.args.j c.args.cj c.args.a c.term_at-x.result c.term_at-x.ensures c.args.first (sym c.is_choice.ensures ∙ c.if-not-is_choice.false) c.requires.a_bound)))

pub returns : goal.returns
returns t c = let t = c.args.table.now in c.either.ensures ∙ ap₂ (either_of c.args.front.now c.args.truths.now c.term_at-x.result) c.read-q.ensures (c.read-r.ensures ∙ ap (λ (n : ℕ). labelled_at t c.args.front.now c.args.truths.now c.args.cells.now c.args.j c.args.cj c.term_at-x.result.r (c.args.first + n)) c.leaf_count.ensures) ∙ read-either t c.args.front.now c.args.truths.now c.args.cells.now (stacked 80000 t c.requires.well_formed) c.args.j c.args.cj c.args.a c.term_at-x.result c.term_at-x.ensures c.args.first (sym c.is_choice.ensures ∙ c.if-not-is_choice.false)
