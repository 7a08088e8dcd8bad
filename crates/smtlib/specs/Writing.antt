-- Writing bytes into a room at a moving place. What only mirrors the code: the contracts of routines say what is in the room.
-- Assumes nothing.
use Rattle.std.specs.Prelude.{◌≡◌, cond, List, [], ◌∷◌, ℕ, ◌+◌, ltb, set}

-- a room, and the place of the next byte
pub record Page : Type 0 where
  pub room : List ℕ
  pub at : ℕ

-- more than a text has bytes: the place stays below it
abbrev pub limit : ℕ
limit = 4611686018427387904

abbrev pub next : ℕ → ℕ
next at = cond (ltb at limit) (at + 1) at

-- one byte. Past the room's end nothing is written
unfoldable pub put : Page → ℕ → Page
put p b = record { room = set p.room p.at b; at = next p.at }

unfoldable pub wrote : Page → List ℕ → Page
wrote p [] = p
wrote p (b ∷ bs) = wrote (put p b) bs

-- q is p with the bytes x written
pub record Wrote (p : Page) (x : List ℕ) (q : Page) : Type 0 where
  pub is : q ≡ wrote p x

abbrev pub page : List ℕ → ℕ → Page
page room at = record { room = room; at = at }
