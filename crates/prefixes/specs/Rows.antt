-- Texts that meet what the theorems ask, as rows: which word refuses each, texts that no word refuses by 31, places for white space.
-- Assumes nothing.
use Rattle.std.specs.Prelude.{◌≡◌, Bool, true, not, ◌&&◌, List, [], ◌∷◌, ℕ, zero, suc, eqb, leb, length}
use Rattle.smtlib.specs.Bytes.{◌⧺◌, bytes}
use Rattle.table.specs.Folds.{every}
use Rattle.parser.specs.Words.{white}
use Rattle.prefixes.specs.Spelling.{spelling}
use Rattle.prefixes.specs.Prefixes.{start_spot, first_refusal}
use Rattle.prefixes.specs.Laws.{ends_inside, begins_inside, expected_from}

-- a text, and the number and place of its first refusal, 0 and 0 for none
pub record Row : Type 0 where
  pub text : List ℕ
  pub number : ℕ
  pub place : ℕ

abbrev row : List ℕ → ℕ → ℕ → Row
row text number place = record { text = text; number = number; place = place }

unfoldable pub right : Row → Bool
right x =
    let r = first_refusal (spelling x.text) in
    leb (length x.text) 4611686018427387904 && eqb r.number x.number && eqb r.place x.place

-- so many parentheses, each with an operator
unfoldable pub nested : ℕ → List ℕ
nested zero = []
nested (suc n) = bytes "(not" ⧺ nested n

-- the settled points 2, 3, 6, 7, 8
abbrev pub rows : List Row
rows =
    row [] 31 0
    ∷ row (bytes " \n") 31 2
    ∷ row (bytes "(declare-const a (_ BitVec 08))") 31 27
    ∷ row (bytes "(assert true)(declare-const a Bool)") 31 14
    ∷ row (bytes "(assert)") 31 7
    ∷ row (bytes "(assert true true)") 31 13
    ∷ row (bytes "(assert (zz))") 31 9
    ∷ row (bytes "(assert zz)") 32 8
    ∷ row (bytes "(declare-const a Bool)(declare-const a Bool)") 32 37
    ∷ row (bytes "(assert (and true))") 34 17
    ∷ row (bytes "(assert (not true zz))") 32 18
    ∷ row (bytes "(assert (not true #x1))") 31 18
    ∷ row (bytes "(assert (not true (zz)))") 34 18
    ∷ row (bytes "(check-sat)") 35 1
    ∷ row (bytes "(declare-const a Bool)(assert a)(check-sat)") 0 0
    ∷ row (bytes " ( assert true)\t(check-sat )\n") 0 0
    ∷ []

-- the 65th parenthesis: as an operand, as an operand too many, where an operator must stand
abbrev pub deep_rows : List Row
deep_rows =
    row (bytes "(assert" ⧺ nested 65) 33 263
    ∷ row (bytes "(assert" ⧺ nested 64 ⧺ bytes " true(") 33 268
    ∷ row (bytes "(assert" ⧺ nested 63 ⧺ bytes "((") 31 260
    ∷ []

abbrev pub RowsRight : Type 0
RowsRight = (every right rows ≡ true) × (every right deep_rows ≡ true)

-- texts that are refused, but by the grammar alone are sentences
abbrev pub sentences : List (List ℕ)
sentences =
    bytes "(check-sat)" ∷ bytes "(assert zz)(check-sat)" ∷ bytes "(assert (and true))(check-sat)" ∷ bytes "(assert (not true zz))(check-sat)" ∷ []

abbrev pub SentencesExpected : Type 0
SentencesExpected = every (λ text. expected_from start_spot (spelling text)) sentences ≡ true

-- between words, before the first, after the last
pub record Gap : Type 0 where
  pub before : List ℕ
  pub after : List ℕ
  pub byte : ℕ

abbrev pub open_gap : Gap → Bool
open_gap g = white g.byte && not (ends_inside g.before && begins_inside g.after)

abbrev pub gaps : List Gap
gaps =
    record { before = bytes "(check-sat"; after = bytes ")"; byte = 32 }
    ∷ record { before = []; after = bytes "(check-sat)"; byte = 10 }
    ∷ record { before = bytes "(check-sat)"; after = []; byte = 9 }
    ∷ record { before = bytes "(assert"; after = bytes " true)"; byte = 13 }
    ∷ []

abbrev pub GapsOpen : Type 0
GapsOpen = every open_gap gaps ≡ true
