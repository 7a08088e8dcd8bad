-- Texts give back what they were written from: inverse laws, as named statements. The proofs are in proofs/.
-- Assumes nothing.
use Rattle.std.specs.Prelude.{◌≡◌, Bool, true, false, ◌&&◌, List, [], ◌∷◌, ◌++◌, ℕ, ◌^◌, ◌≤◌, ◌<◌, ltb, leb, length}
use Rattle.ops.specs.Fits.{fits}
use Rattle.smtlib.specs.Numerals.{numeral, bits}
use Rattle.smtlib.specs.Symbols.{operators, operator_name, operator_of, sort_name, constant_name}

-- every byte of a text is above c
unfoldable pub above : ℕ → List ℕ → Bool
above c [] = true
above c (b ∷ x) = ltb c b && above c x

-- a text begins with a byte that is not
unfoldable pub stops : ℕ → List ℕ → Bool
stops c [] = false
stops c (d ∷ r) = leb d c

-- A text is cut in one way: after bytes that are all above c, at the first that is not. At 10 this cuts lines, at 41 words
-- (a space is 32, parentheses are 40 and 41), at 47 numbers (the digits are 48 to 57).
abbrev pub OneCut : Type 0
OneCut =
    (c : ℕ) (x y r s : List ℕ) → above c x ≡ true → above c y ≡ true → stops c r ≡ true → stops c s ≡ true
    → x ++ r ≡ y ++ s → (x ≡ y) × (r ≡ s)

-- Numerals; binary digits of one width.
abbrev pub NumeralsTold : Type 0
NumeralsTold = (a b : ℕ) → numeral a ≡ numeral b → a ≡ b

abbrev pub BitsTold : Type 0
BitsTold = (n a b : ℕ) → a < 2 ^ n → b < 2 ^ n → bits n a ≡ bits n b → a ≡ b

-- They consist of digits and letters, so they end where a word ends.
abbrev pub NumeralsAbove : Type 0
NumeralsAbove = (v : ℕ) → above 47 (numeral v) ≡ true

abbrev pub BitsAbove : Type 0
BitsAbove = (n v : ℕ) → above 47 (bits n v) ≡ true

-- Operators' names: one to a number, and each is one word.
abbrev pub Named : ℕ → Type 0
Named op = (2 ≤ op) × (op < length operators)

abbrev pub OperatorsTold : Type 0
OperatorsTold = (a b : ℕ) → Named a → Named b → operator_name a ≡ operator_name b → a ≡ b

abbrev pub OperatorsAbove : Type 0
OperatorsAbove = (op : ℕ) → Named op → above 41 (operator_name op) ≡ true

-- A name that is looked up gives back the number it was written from; and a word is the name of the number it has.
abbrev pub OperatorsRead : Type 0
OperatorsRead = (op : ℕ) → Named op → operator_of (operator_name op) ≡ op

abbrev pub OperatorsNamed : Type 0
OperatorsNamed = (w : List ℕ) → 0 < operator_of w → operator_name (operator_of w) ≡ w

-- Sorts, whatever follows; constants of one width, before the end of a word.
abbrev pub SortsTold : Type 0
SortsTold = (m n m' n' : ℕ) (r s : List ℕ) → sort_name m n ++ r ≡ sort_name m' n' ++ s → (m ≡ m') × (n ≡ n') × (r ≡ s)

abbrev pub ConstantsTold : Type 0
ConstantsTold =
    (n v w : ℕ) (r s : List ℕ) → fits n v ≡ true → fits n w ≡ true → stops 47 r ≡ true → stops 47 s ≡ true
    → constant_name n v ++ r ≡ constant_name n w ++ s → (v ≡ w) × (r ≡ s)
