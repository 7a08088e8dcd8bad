-- What holds of every text.
-- Assumes nothing.
use Rattle.std.specs.Prelude.{◌≡◌, List, ℕ, ◌+◌, length}
use Rattle.outline.specs.Scanning.{words_from, all_words}

-- no word is left out: however many more are asked for, there are no more
abbrev pub NoWordLeft : Type 0
NoWordLeft = (text : List ℕ) (more : ℕ) → words_from (more + length text) text (length text) 0 ≡ all_words text
