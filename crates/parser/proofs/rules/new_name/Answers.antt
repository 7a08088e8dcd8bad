use Rattle.std.proofs.Common.{sym, ◌∙◌}
use borrow.Author.Tests.{eq-eqb, ne_eqb, lt-ltb, le-ltb}
use Rattle.parser.specs.Rules.{new_name}
use Rattle.parser.proofs.Faults.{faulted, clean}
use Rattle.parser.proofs.rules.new_name.Goals as goal

pub returns-then-is_some : goal.returns-then-is_some
unfolding new_name
returns-then-is_some c = rw (ne_eqb _ _ (faulted c.args.s.fault c.is_some.ensures c.if-is_some.true))

pub returns-then-not-is_name : goal.returns-then-not-is_name
unfolding new_name
returns-then-not-is_name c = rw (c.faulty.ensures, eq-eqb _ _ (clean c.args.s.fault c.is_some.ensures c.if-is_some.false), rw c.words_at.ensures at (sym c.is_name.ensures ∙ c.if-not-is_name.true), c.words_at.ensures)

pub returns-then-known : goal.returns-then-known
unfolding new_name
returns-then-known c =
    rw (
      c.faulty-then-known.ensures,
      eq-eqb _ _ (clean c.args.s.fault c.is_some.ensures c.if-is_some.false),
      rw c.words_at.ensures at (sym c.is_name.ensures ∙ c.if-not-is_name.false),
      lt-ltb _ _ (rw (c.index_of.ensures, c.words_at.ensures) at c.if-known.true),
      c.words_at.ensures,
    )

pub returns-else-known : goal.returns-else-known
unfolding new_name
returns-else-known c =
    rw (
      c.moved.ensures,
      eq-eqb _ _ (clean c.args.s.fault c.is_some.ensures c.if-is_some.false),
      rw c.words_at.ensures at (sym c.is_name.ensures ∙ c.if-not-is_name.false),
      le-ltb _ _ (rw (c.index_of.ensures, c.words_at.ensures) at c.if-known.false),
      c.words_at.ensures,
    )
