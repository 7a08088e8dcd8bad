use native.Mathlib.Omega.{arith}
use Rattle.table.proofs.Admitted.{one_term}
use Rattle.table.specs.Admission.{admission_within}
use borrow.Author.Tests.{lt-ltb, le-ltb}
use lib.ListN.{length}
use mathlib.Core.Path.{◌∙◌}
use Rattle.admission.proofs.admit_within.Goals as goal

pub returns-then-len : goal.returns-then-len
unfolding admission_within
returns-then-len c = c.refused.ensures ∙ rw c.if-len.true

pub returns-then-limit-count : goal.returns-then-limit-count
unfolding admission_within
returns-then-limit-count c = c.refused-then-limit-count.ensures ∙ rw (c.if-len.false, lt-ltb _ _ c.if-limit-count.true)

pub first_fault-requires : goal.first_fault-requires
first_fault-requires c = record { terms_nonzero = one_term (length c.args.table.now) c.if-len.false; words_in_bounds = omega arith; clash_value = c.first_clash.ensures }

pub returns : goal.returns
unfolding admission_within
returns c = c.first_fault.ensures ∙ rw (c.if-len.false, le-ltb _ _ c.if-limit-count.false)
