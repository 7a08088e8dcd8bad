use Prim.Native.Nat.{ℕ, ◌+◌, ◌<◌}
use mathlib.Core.Path.{sym, ap, ap₂, subst, ◌∙◌}
use mathlib.Core.List.{[]}
use native.Mathlib.Omega.{arith}
use lib.ListN.{length}
use Rattle.table.proofs.SoundTerms.{stacked}
use Rattle.evaluate.proofs.Trees.{beneath, first_below, second_below}
use Rattle.judge.proofs.LeafLaws.{under_store, at_variable, count_both, few_leaves}
use Rattle.judge.proofs.leaves.+leaf_count.Goals as goal

pub leaf_count-requires : goal.leaf_count-requires
leaf_count-requires t c = let t = c.args.table.now in let st = stacked 80000 t c.requires in (subst (λ (n : ℕ). c.term_at-x.result.p < n) c.decreases (beneath t st [] 0 c.args.a c.term_at-x.result c.term_at-x.ensures (sym c.is_store.ensures ∙ c.if-is_store.true)), c.requires)

pub returns-then-is_store : goal.returns-then-is_store
returns-then-is_store t c = let t = c.args.table.now in let st = stacked 80000 t c.requires in c.leaf_count.ensures ∙ ap length (under_store t st c.args.a c.term_at-x.result c.term_at-x.ensures (sym c.is_store.ensures ∙ c.if-is_store.true))

pub returns-then-not-is_choice : goal.returns-then-not-is_choice
returns-then-not-is_choice t c = let t = c.args.table.now in let st = stacked 80000 t c.requires in ap length (at_variable t st c.args.a c.term_at-x.result c.term_at-x.ensures (sym c.is_store.ensures ∙ c.if-is_store.false) (sym c.is_choice.ensures ∙ c.if-not-is_choice.true))

pub leaf_count-q-requires : goal.leaf_count-q-requires
leaf_count-q-requires t c = let t = c.args.table.now in let st = stacked 80000 t c.requires in (subst (λ (n : ℕ). c.term_at-x.result.q < n) c.decreases (first_below t st [] 0 c.args.a c.term_at-x.result c.term_at-x.ensures (sym c.is_choice.ensures ∙ c.if-not-is_choice.false)), c.requires)

pub leaf_count-r-requires : goal.leaf_count-r-requires
leaf_count-r-requires t c = let t = c.args.table.now in let st = stacked 80000 t c.requires in (subst (λ (n : ℕ). c.term_at-x.result.r < n) c.decreases (second_below t st [] 0 c.args.a c.term_at-x.result c.term_at-x.ensures (sym c.is_choice.ensures ∙ c.if-not-is_choice.false)), c.requires)

pub overflow_add-result : goal.overflow_add-result
overflow_add-result t c = let t = c.args.table.now in let st = stacked 80000 t c.requires in omega (arith, c.leaf_count-r.ensures, c.leaf_count-q.ensures, few_leaves 80000 t c.requires c.term_at-x.result.q, few_leaves 80000 t c.requires c.term_at-x.result.r)

pub returns : goal.returns
returns t c = let t = c.args.table.now in let st = stacked 80000 t c.requires in ap₂ ◌+◌ c.leaf_count-q.ensures c.leaf_count-r.ensures ∙ count_both t st c.args.a c.term_at-x.result c.term_at-x.ensures (sym c.is_choice.ensures ∙ c.if-not-is_choice.false)
