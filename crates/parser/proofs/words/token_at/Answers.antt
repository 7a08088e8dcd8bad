use borrow.Author.Tests.{lt-ltb, le-ltb}
use Rattle.parser.specs.Words.{token_at}
use Rattle.parser.proofs.words.token_at.Goals as goal

pub returns-then-from-text : goal.returns-then-from-text
unfolding token_at
returns-then-from-text c = rw (c.word_from.ensures, c.past_white-from.ensures, lt-ltb _ _ (rw c.past_white-from.ensures at c.if-from-text.true))

pub returns : goal.returns
unfolding token_at
returns c = rw (c.past_white-from.ensures, le-ltb _ _ (rw c.past_white-from.ensures at c.if-from-text.false))

pub word_from-requires : goal.word_from-requires
word_from-requires c = c.if-from-text.true
