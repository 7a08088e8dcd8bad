use Rattle.std.proofs.Common.{sym, ◌∙◌}
use Rattle.parser.specs.Rules.{sort_of}
use Rattle.parser.proofs.Codes.{not_open}
use Rattle.parser.proofs.sorts.sort.Goals as goal

pub returns-then-is_array : goal.returns-then-is_array
unfolding sort_of
returns-then-is_array c = rw (c.array.ensures, rw c.words_at-w.ensures at c.in-Open.is, rw c.words_at-w.ensures at (sym c.is_array.ensures ∙ c.if-is_array.true))

pub returns-else-is_array : goal.returns-else-is_array
unfolding sort_of
returns-else-is_array c = rw (c.vector.ensures, rw c.words_at-w.ensures at c.in-Open.is, rw c.words_at-w.ensures at (sym c.is_array.ensures ∙ c.if-is_array.false))

pub returns-in_default : goal.returns-in_default
unfolding sort_of
returns-in_default c = rw (c.expected.ensures, not_open _ (rw c.words_at-w.ensures at c.in_default.not-Open))
