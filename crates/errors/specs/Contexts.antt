-- What is expected at a place of a text, what stands there, and where a refusal stands.
-- Assumes nothing.
use Rattle.std.specs.Prelude.{ℕ, ◌%◌, Bool, false, cond, ◌&&◌, List, ◌==◌, nat_le, slice_index}
use Rattle.smtlib.specs.Bytes.{part}
use Rattle.table.specs.Folds.{every}
use Rattle.parser.specs.declared.words.Word.{Word}
use Rattle.parser.specs.declared.words.Token.{Token}
use Rattle.parser.specs.Words.{symbolic, token_at}
use Rattle.outline.specs.declared.scan.Scan.{Scan}
use Rattle.outline.specs.Scanning.{context_at}
use Rattle.outline.specs.Spans.{span_of}
use Rattle.errors.specs.declared.kinds.Expected.{Expected}
use Rattle.errors.specs.declared.kinds.Found.{Found}
use Rattle.errors.specs.declared.kinds.Reason.{Reason}
use Rattle.errors.specs.Reasons.{expected, found, is_opening, is_closing, is_check_sat, reason}

-- a word by itself
abbrev pub kind : Word → Found
kind word = found word 0 false

-- the command before is check-sat: the second word from where it began
abbrev pub checked : List ℕ → Scan → Bool
checked text s = is_closing (kind s.previous) && is_check_sat (kind (token_at text (token_at text s.begun).next).word)

abbrev pub expected_by : List ℕ → Scan → Expected
expected_by text s = expected s.command s.depth s.words (is_opening (kind s.previous)) (checked text s)

abbrev pub found_by : List ℕ → Token → Found
found_by text t = found t.word (slice_index text t.from) (every symbolic (part text t.from t.next))

-- the reason for a refusal at a byte of the text
abbrev pub reason_at : List ℕ → ℕ → ℕ → Reason
reason_at text number at = reason number (expected_by text (context_at text at)) (found_by text (token_at text at))

-- the byte at which a refusal stands: 31 to 35 are at a byte; 2 is at the first word; any other at its term as it was typed,
-- whose number is below 2^32
abbrev pub place_of : List ℕ → ℕ → ℕ → ℕ
place_of text number place = cond (nat_le 31 number) place (cond (number == 2) (token_at text 0).from (span_of text (place % 4294967296)).from)
