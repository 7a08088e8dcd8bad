use mathlib.Core.Path.{sym, ◌∙◌}
use native.Mathlib.Omega.{arith}
use Rattle.judge.proofs.LeafLaws.{few_leaves}
use Rattle.judge.proofs.terms.labelled_read.Goals as goal

pub returns-then-not-free : goal.returns-then-not-free
returns-then-not-free c = rw (c.number_at.ensures, sym c.truth_at-free.ensures ∙ c.if-not-free.true)

pub read-r-requires : goal.read-r-requires
read-r-requires c = record { well_formed = c.requires; a_bound = omega (arith, few_leaves 80000 c.args.table.now c.requires c.args.array) }

pub returns : goal.returns
returns c = c.read-r.ensures ∙ rw (c.number_at-index.ensures, c.truth_at-free.ensures, sym c.truth_at-free.ensures ∙ c.if-not-free.false)
