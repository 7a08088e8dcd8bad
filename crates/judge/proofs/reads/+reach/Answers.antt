use Prim.Native.Nat.{ℕ, ◌<◌}
use mathlib.Core.Path.{sym, subst, ◌∙◌}
use mathlib.Core.List.{[]}
use Rattle.table.proofs.SoundTerms.{stacked}
use Rattle.evaluate.proofs.Trees.{beneath, first_below, second_below}
use Rattle.judge.proofs.Reaching.{at_variable, past-store, at_store-here, at_choice-here, into_first, into_second}
use Rattle.judge.proofs.reads.+reach.Goals as goal

pub reach-requires : goal.reach-requires
reach-requires t c = let t = c.args.table.now in (subst (λ (n : ℕ). c.term_at-x.result.p < n) c.decreases (beneath t (stacked 80000 t c.requires) [] 0 c.args.a c.term_at-x.result c.term_at-x.ensures (sym c.is_store.ensures ∙ c.if-is_store.true)), c.requires)

pub returns-then-passed : goal.returns-then-passed
returns-then-passed t c = c.reach.ensures ∙ (let t = c.args.table.now in past-store t c.args.front.now c.args.truths.now (stacked 80000 t c.requires) c.args.j c.args.a c.term_at-x.result c.term_at-x.ensures (sym c.is_store.ensures ∙ c.if-is_store.true) (sym c.passed.ensures ∙ c.if-passed.true))

pub returns-then-is_store : goal.returns-then-is_store
returns-then-is_store t c = let t = c.args.table.now in at_store-here t c.args.front.now c.args.truths.now (stacked 80000 t c.requires) c.args.j c.args.a c.term_at-x.result c.term_at-x.ensures (sym c.is_store.ensures ∙ c.if-is_store.true) (sym c.passed.ensures ∙ c.if-passed.false)

pub returns-then-not-is_choice : goal.returns-then-not-is_choice
returns-then-not-is_choice t c = let t = c.args.table.now in at_variable t c.args.front.now c.args.truths.now (stacked 80000 t c.requires) c.args.j c.args.a c.term_at-x.result c.term_at-x.ensures (sym c.is_store.ensures ∙ c.if-is_store.false) (sym c.is_choice.ensures ∙ c.if-not-is_choice.true)

pub returns-then-not-truth_at : goal.returns-then-not-truth_at
returns-then-not-truth_at t c = let t = c.args.table.now in at_choice-here t c.args.front.now c.args.truths.now (stacked 80000 t c.requires) c.args.j c.args.a c.term_at-x.result c.term_at-x.ensures (sym c.is_choice.ensures ∙ c.if-not-is_choice.false) (sym c.truth_at.ensures ∙ c.if-not-truth_at.true)

pub reach-requires-then-number_at-eq1 : goal.reach-requires-then-number_at-eq1
reach-requires-then-number_at-eq1 t c = let t = c.args.table.now in (subst (λ (n : ℕ). c.term_at-x.result.q < n) c.decreases (first_below t (stacked 80000 t c.requires) [] 0 c.args.a c.term_at-x.result c.term_at-x.ensures (sym c.is_choice.ensures ∙ c.if-not-is_choice.false)), c.requires)

pub returns-then-number_at-eq1 : goal.returns-then-number_at-eq1
returns-then-number_at-eq1 t c = c.reach-then-number_at-eq1.ensures ∙ (let t = c.args.table.now in into_first t c.args.front.now c.args.truths.now (stacked 80000 t c.requires) c.args.j c.args.a c.term_at-x.result c.term_at-x.ensures (sym c.is_choice.ensures ∙ c.if-not-is_choice.false) (sym c.truth_at.ensures ∙ c.if-not-truth_at.false) (sym c.number_at.ensures ∙ c.if-number_at-eq1.true))

pub reach-requires-2 : goal.reach-requires-2
reach-requires-2 t c = let t = c.args.table.now in (subst (λ (n : ℕ). c.term_at-x.result.r < n) c.decreases (second_below t (stacked 80000 t c.requires) [] 0 c.args.a c.term_at-x.result c.term_at-x.ensures (sym c.is_choice.ensures ∙ c.if-not-is_choice.false)), c.requires)

pub returns : goal.returns
returns t c = c.reach-2.ensures ∙ (let t = c.args.table.now in into_second t c.args.front.now c.args.truths.now (stacked 80000 t c.requires) c.args.j c.args.a c.term_at-x.result c.term_at-x.ensures (sym c.is_choice.ensures ∙ c.if-not-is_choice.false) (sym c.truth_at.ensures ∙ c.if-not-truth_at.false) (λ e. c.if-number_at-eq1.false (c.number_at.ensures ∙ e)))
