use borrow.Author.Tests.{lt-ltb, le-ltb}
use Rattle.parser.proofs.sized.Goals as goal

pub returns-then-room-end : goal.returns-then-room-end
returns-then-room-end c = rw (c.not_parsed.ensures, lt-ltb _ _ c.if-room-end.true)

pub returns : goal.returns
returns c = rw (le-ltb _ _ c.if-room-end.false)
