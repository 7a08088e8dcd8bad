-- Numbers as digits: SMT-LIB's numerals, and the digits of its binary constants.
-- Assumes nothing.
use Rattle.std.specs.Prelude.{true, false, List, [], ◌∷◌, ℕ, zero, suc, ◌+◌, ◌-◌, ◌*◌, ◌/◌, ◌%◌, ltb}
use Rattle.smtlib.specs.Bytes.{◌⧺◌}

-- the digit of a number below ten
abbrev pub digit : ℕ → List ℕ
digit d = (48 + d) ∷ []

unfoldable pub numeral_within : ℕ → ℕ → List ℕ
numeral_within zero v = digit v
numeral_within (suc k) v = elim (ltb v 10) [ true ↦ digit v | false ↦ numeral_within k (v / 10) ⧺ digit (v % 10) ]

-- a number in decimal digits, without leading zeros
abbrev pub numeral : ℕ → List ℕ
numeral v = numeral_within v v

-- a number in n binary digits, highest first
unfoldable pub bits : ℕ → ℕ → List ℕ
bits zero v = []
bits (suc n) v = bits n (v / 2) ⧺ digit (v % 2)

-- the number that digits to a base say, after those that say v
unfoldable pub value_of : ℕ → ℕ → List ℕ → ℕ
value_of base v [] = v
value_of base v (d ∷ ds) = value_of base (v * base + (d - 48)) ds
