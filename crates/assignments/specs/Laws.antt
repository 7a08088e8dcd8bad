-- What holds of every text.
-- Assumes nothing.
use Rattle.std.specs.Prelude.{◌≡◌, List, ℕ, ◌+◌, length}
use Rattle.assignments.specs.Tokens.{tokens_from, tokens}

-- no token is left out: however many more are asked for, there are no more
abbrev pub NoTokenLeft : Type 0
NoTokenLeft = (text : List ℕ) (more : ℕ) → tokens_from (more + length text) text 0 ≡ tokens text
