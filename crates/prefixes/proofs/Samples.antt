-- The rows, by computation.
-- Assumes nothing.
use mathlib.Core.Path.{refl}
use Rattle.smtlib.specs.Bytes.{same_bytes, place_in}
use Rattle.smtlib.specs.Numerals.{value_of}
use Rattle.table.specs.Folds.{every}
use Rattle.parser.specs.Words.{among, symbol, private, plain_of, word_of, ahead, word_from, token_at}
use Rattle.prefixes.specs.Spelling.{spelt_within}
use Rattle.prefixes.specs.Prefixes.{first_from}
use Rattle.prefixes.specs.Laws.{ends_inside, expected_from}
use Rattle.prefixes.specs.Rows.{right, nested, RowsRight, SentencesExpected, GapsOpen}

pub rows_right : RowsRight
unfolding right nested same_bytes place_in value_of every among symbol private plain_of word_of ahead word_from token_at spelt_within first_from
rows_right = (refl, refl)

pub sentences-expected : SentencesExpected
unfolding same_bytes place_in value_of every among symbol private plain_of word_of ahead word_from token_at spelt_within expected_from
sentences-expected = refl

pub gaps_open : GapsOpen
unfolding every ends_inside
gaps_open = refl
