-- What a byte is.
-- Assumes nothing.
use Rattle.std.specs.Prelude.{Bool, ◌&&◌, ◌||◌, ℕ, eqb, leb}

-- a space, or one of the bytes 9 to 13
abbrev pub white : ℕ → Bool
white b = eqb b 32 || (leb 9 b && leb b 13)

-- what ends a token: white space, or a semicolon
abbrev pub ends : ℕ → Bool
ends b = white b || eqb b 59

abbrev pub digit : ℕ → Bool
digit b = leb 48 b && leb b 57

-- a lower-case letter
abbrev pub letter : ℕ → Bool
letter b = leb 97 b && leb b 122
