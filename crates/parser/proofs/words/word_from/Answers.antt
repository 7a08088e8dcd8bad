use Rattle.std.proofs.Common.{arith, rules, get_or}
use borrow.Author.Tests.{eq-eqb, ne_eqb}
use Rattle.parser.specs.Words.{inside, word_from}
use Rattle.parser.proofs.Ahead.{not-past_end}
use Rattle.parser.proofs.words.word_from.Goals as goal

pub returns-in-40 : goal.returns-in-40
unfolding word_from
returns-in-40 c = rw (eq-eqb _ _ c.in-40.is)

pub returns-in-41 : goal.returns-in-41
unfolding word_from
returns-in-41 c = rw c.in-41.is

pub slice_bounds-word_of-end : goal.slice_bounds-word_of-end
slice_bounds-word_of-end c = omega (arith, not-past_end inside c.args.text.now c.args.from (omega (arith, c.requires)), c.past_word-next.ensures)

pub returns-in_default : goal.returns-in_default
unfolding word_from
returns-in_default c = rw (c.word_of.ensures, c.past_word-next.ensures, ne_eqb (get_or c.args.text.now c.args.from 0) 40 (search rules), ne_eqb (get_or c.args.text.now c.args.from 0) 41 (search rules))
