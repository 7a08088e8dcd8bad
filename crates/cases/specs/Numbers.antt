-- The numbers among tokens.
-- Assumes nothing.
use Rattle.std.specs.Prelude.{cond, List, [], ◌∷◌, ◌++◌, ℕ, ◌+◌, ltb, set, Option, Some, None}
use Rattle.cases.specs.declared.lexer.Token.{Token}
use Rattle.cases.specs.declared.lexer.Token.TheVariants.{Number, Heading, Unknown, TooLarge}

abbrev pub number_in : Option Token → List ℕ
number_in None = []
number_in (Some (Number n)) = n ∷ []
number_in (Some (Heading part)) = []
number_in (Some Unknown) = []
number_in (Some TooLarge) = []

-- in order
unfoldable pub numbers_in : List (Option Token) → List ℕ
numbers_in [] = []
numbers_in (token ∷ tokens) = number_in token ++ numbers_in tokens

-- a room with the token's number at place n, and the next place; past the room's end nothing is written
abbrev pub put : List ℕ → ℕ → Option Token → List ℕ
put room n None = room
put room n (Some (Number v)) = set room n v
put room n (Some (Heading part)) = room
put room n (Some Unknown) = room
put room n (Some TooLarge) = room

abbrev pub next : ℕ → ℕ → Option Token → ℕ
next long n None = n
next long n (Some (Number v)) = cond (ltb n long) (n + 1) n
next long n (Some (Heading part)) = n
next long n (Some Unknown) = n
next long n (Some TooLarge) = n
