-- By which numbers a text can be refused: Req 02, "Errors".
-- Assumes nothing.
use Rattle.std.specs.Prelude.{Ok, Err, ◌≡◌, Bool, true, false, ◌||◌, List, [], ◌∷◌, ◌++◌, ℕ, zero, suc, eqb, replicate}
use Rattle.smtlib.specs.Bytes.{◌⧺◌, bytes}
use Rattle.table.specs.Refusals.{between}
use Rattle.parser.specs.Parsing.{Parsing}
use Rattle.parser.specs.Parsing.{not_parsed, parsing}

-- Parse knows 31 to 35 and 21, and of the table's 2, 6, 7, 9 and 10
abbrev pub parse_numbers : ℕ → Bool
parse_numbers number = between 31 35 number || eqb number 2 || eqb number 6 || eqb number 7 || eqb number 9 || eqb number 10 || eqb number 21

-- the number of a refusal is one of these; of a table nothing is said
abbrev pub NotParsedBy : (ℕ → Bool) → Parsing → Type 0
NotParsedBy numbers (Ok n) = Unit {0}
NotParsedBy numbers (Err r) = numbers r.number ≡ true

-- None is given on other grounds.
abbrev pub ParsingNumbers : Type 0
ParsingNumbers = (text : List ℕ) (room : ℕ) → NotParsedBy parse_numbers (parsing text room)

-- Each of them occurs: a text for each, the numbers that the room holds, and the refusal.
pub record Sample : Type 0 where
  pub number : ℕ
  pub place : ℕ
  pub text : List ℕ
  pub room : ℕ

abbrev sample : ℕ → ℕ → List ℕ → ℕ → Sample
sample number place text room = record { number = number; place = place; text = text; room = room }

-- n times a text, then the rest
unfoldable pub times : ℕ → List ℕ → List ℕ → List ℕ
times zero x rest = rest
times (suc n) x rest = x ⧺ times n x rest

-- a name of so many letters z
abbrev pub letters : ℕ → List ℕ
letters n = replicate n 122

-- n Booleans are declared, their names of so many letters and of one more each; then the rest
unfoldable pub declaring : ℕ → ℕ → List ℕ → List ℕ
declaring zero long rest = rest
declaring (suc n) long rest = bytes "(declare-const " ⧺ letters long ⧺ bytes " Bool)" ⧺ declaring n (suc long) rest

abbrev pub short_samples : List Sample
short_samples =
    sample 31 0 [] 0
    ∷ sample 32 8 (bytes "(assert a)(check-sat)") 0
    ∷ sample 33 263 (bytes "(assert" ⧺ times 65 (bytes "(not") []) 0
    ∷ sample 34 12 (bytes "(assert (not))(check-sat)") 0
    ∷ sample 35 1 (bytes "(check-sat)") 0
    ∷ sample 6 1 (bytes "(assert (not #b1))(check-sat)") 0
    ∷ sample 9 51 (bytes "(declare-const a (Array (_ BitVec 1) (_ BitVec 1)))(assert" ⧺ times 17 (bytes "(store")
    (bytes " a" ⧺ times 17 (bytes " #b1 #b1)") (bytes ")(check-sat)"))) 0
    ∷ sample 10 0 (bytes "(assert #b1)(check-sat)") 0
    ∷ sample 21 1 (bytes "(assert true)(check-sat)") 5
    ∷ []

-- 257 asserts and 256 joins; 257 variables
abbrev pub long_samples : List Sample
long_samples =
    sample 2 0 (times 257 (bytes "(assert true)") (bytes "(check-sat)")) 0
    ∷ sample 7 256 (declaring 257 1 (bytes "(assert true)(check-sat)")) 0
    ∷ []

abbrev pub samples : List Sample
samples = short_samples ++ long_samples

abbrev pub Answered : Sample → Type 0
Answered s = parsing s.text s.room ≡ not_parsed s.number s.place

abbrev pub AllAnswered : List Sample → Type 0
AllAnswered [] = Unit {0}
AllAnswered (s ∷ ss) = Answered s × AllAnswered ss

-- a sample has this number
abbrev pub occurs : List Sample → ℕ → Bool
occurs [] number = false
occurs (s ∷ ss) number = eqb number s.number || occurs ss number

abbrev pub EachOccurs : Type 0
EachOccurs = (AllAnswered samples) × ((number : ℕ) → parse_numbers number ≡ true → occurs samples number ≡ true)
