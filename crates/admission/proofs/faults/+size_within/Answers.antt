use Prim.Native.Nat.{ℕ}
use mathlib.Core.Path.{sym, ap, ◌∙◌}
use native.Mathlib.Omega.{arith}
use Rattle.table.specs.Faults.{size_within}
use Rattle.table.proofs.Sizes.{size_end, size_fits, store-sized, choice-sized, none-sized}
use Rattle.admission.proofs.faults.+size_within.Goals as goal

pub returns-then-left-eq0 : goal.returns-then-left-eq0
returns-then-left-eq0 t c = sym (ap (λ (n : ℕ). size_within n c.args.table.now c.args.k) c.if-left-eq0.true ∙ size_end c.args.table.now c.args.k)

pub overflow_sub-left : goal.overflow_sub-left
overflow_sub-left t c = let n = c.if-left-eq0.false in omega arith

pub size_within-requires : goal.size_within-requires
size_within-requires t c = let n = c.if-left-eq0.false in let b = c.requires in let e = c.decreases in (omega arith, omega arith)

pub overflow_add-result : goal.overflow_add-result
overflow_add-result t c = omega (arith, size_fits c.args.left c.requires c.args.table.now c.term_at-x.result.p, c.size_within.ensures)

pub returns-then-is_store : goal.returns-then-is_store
returns-then-is_store t c = rw c.size_within.ensures (store-sized c.args.table.now c.args.k c.args.left c.term_at-x.result c.term_at-x.ensures c.if-left-eq0.false (sym c.is_store.ensures ∙ c.if-is_store.true))

pub returns-then-not-is_choice : goal.returns-then-not-is_choice
returns-then-not-is_choice t c = none-sized c.args.table.now c.args.k c.args.left c.term_at-x.result c.term_at-x.ensures c.if-left-eq0.false (sym c.is_store.ensures ∙ c.if-is_store.false) (sym c.is_choice.ensures ∙ c.if-not-is_choice.true)

pub overflow_sub-left-2 : goal.overflow_sub-left-2
overflow_sub-left-2 t c = let n = c.if-left-eq0.false in omega arith

pub size_within-q-requires : goal.size_within-q-requires
size_within-q-requires t c = let n = c.if-left-eq0.false in let b = c.requires in let e = c.decreases in (omega arith, omega arith)

pub overflow_sub-left-3 : goal.overflow_sub-left-3
overflow_sub-left-3 t c = let n = c.if-left-eq0.false in omega arith

pub size_within-r-requires : goal.size_within-r-requires
size_within-r-requires t c = let n = c.if-left-eq0.false in let b = c.requires in let e = c.decreases in (omega arith, omega arith)

pub overflow_add-result-2 : goal.overflow_add-result-2
overflow_add-result-2 t c = let x = c.term_at-x.result in omega (arith, size_fits c.args.left c.requires c.args.table.now x.q, size_fits c.args.left c.requires c.args.table.now x.r, c.size_within-r.ensures, c.size_within-q.ensures)

pub overflow_add-result-3 : goal.overflow_add-result-3
overflow_add-result-3 t c = let x = c.term_at-x.result in omega (arith, size_fits c.args.left c.requires c.args.table.now x.q, size_fits c.args.left c.requires c.args.table.now x.r, c.size_within-r.ensures, c.size_within-q.ensures)

pub returns : goal.returns
returns t c = rw (c.size_within-r.ensures, c.size_within-q.ensures) (choice-sized c.args.table.now c.args.k c.args.left c.term_at-x.result c.term_at-x.ensures c.if-left-eq0.false (sym c.is_choice.ensures ∙ c.if-not-is_choice.false))
