use Prim.Native.Nat.{ℕ, ◌<◌}
use mathlib.Core.Path.{sym, ap, subst, ◌∙◌}
use mathlib.Core.Bool.{cond}
use Rattle.ops.specs.Meaning.{holds}
use Rattle.table.proofs.SoundTerms.{stacked}
use Rattle.evaluate.proofs.Trees.{beneath, holder_end, holder_hit, holder_miss, picked-below, holder_picked}
use Rattle.evaluate.specs.Code.Reads.{holder_at}
use Rattle.evaluate.proofs.reads.+holder.Goals as goal

pub returns-then-number_at-j : goal.returns-then-number_at-j
returns-then-number_at-j t c = let t = c.args.table.now in holder_hit t (stacked 80000 t c.requires) c.args.front.now c.args.j c.args.a c.term_at-x.result c.term_at-x.ensures (sym c.is_store.ensures ∙ c.if-is_store.true) (sym c.number_at.ensures ∙ c.if-number_at-j.true)

pub holder-requires : goal.holder-requires
holder-requires t c = let t = c.args.table.now in (subst (λ (n : ℕ). c.term_at-x.result.p < n) c.decreases (beneath t (stacked 80000 t c.requires) c.args.front.now c.args.j c.args.a c.term_at-x.result c.term_at-x.ensures (sym c.is_store.ensures ∙ c.if-is_store.true)), c.requires)

pub returns-then-is_store : goal.returns-then-is_store
returns-then-is_store t c = c.holder.ensures ∙ (let t = c.args.table.now in holder_miss t (stacked 80000 t c.requires) c.args.front.now c.args.j c.args.a c.term_at-x.result c.term_at-x.ensures (sym c.is_store.ensures ∙ c.if-is_store.true) (λ e. c.if-number_at-j.false (c.number_at.ensures ∙ e)))

pub returns-then-not-is_choice : goal.returns-then-not-is_choice
returns-then-not-is_choice t c = let t = c.args.table.now in holder_end t (stacked 80000 t c.requires) c.args.front.now c.args.j c.args.a c.term_at-x.result c.term_at-x.ensures (sym c.is_store.ensures ∙ c.if-is_store.false) (sym c.is_choice.ensures ∙ c.if-not-is_choice.true)

pub holder-requires-2 : goal.holder-requires-2
holder-requires-2 t c = let t = c.args.table.now in (subst (λ (n : ℕ). c.ite-branch.result < n) c.decreases (subst (λ (k : ℕ). k < c.args.a) (sym c.ite-branch.ensures) (picked-below t (stacked 80000 t c.requires) c.args.front.now c.args.j c.args.a c.term_at-x.result c.term_at-x.ensures (sym c.is_choice.ensures ∙ c.if-not-is_choice.false) (holds c.number_at-2.result))), c.requires)

pub returns : goal.returns
returns t c = let t = c.args.table.now in c.holder-2.ensures ∙ ap (λ (k : ℕ). holder_at t c.args.front.now k c.args.j) (c.ite-branch.ensures ∙ ap (λ (n : ℕ). cond (holds n) c.term_at-x.result.q c.term_at-x.result.r) c.number_at-2.ensures) ∙ holder_picked t (stacked 80000 t c.requires) c.args.front.now c.args.j c.args.a c.term_at-x.result c.term_at-x.ensures (sym c.is_choice.ensures ∙ c.if-not-is_choice.false)
