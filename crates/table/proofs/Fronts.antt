-- A room whose front is filled one number after the other.
-- Assumes nothing.
use mathlib.Core.Path.{◌≡◌}
use mathlib.Core.List.{List, [], ◌∷◌, ◌++◌, append_assoc}
use Prim.Native.Nat.{ℕ, suc, ◌+◌, ◌≤◌, ◌<◌}
use native.Mathlib.Numerals.{add-one}
use native.Mathlib.Omega.{arith}
use lib.ListN.{length, drop, set, get_or, length-append, length-drop}
use lib.Seq.{drop-cons, set_at}

pub front_more : (front room : List ℕ) (i v : ℕ) → length front ≡ i → i < length room → set (front ++ drop i room) i v ≡ (front ++ (v ∷ [])) ++ drop (i + 1) room
front_more front room i v e h = rw (drop-cons room i 0 h, set_at front (get_or room i 0) (drop (suc i) room) v i e, append_assoc, add-one)

pub front_length : (front room : List ℕ) (i : ℕ) → length front ≡ i → i ≤ length room → length (front ++ drop i room) ≡ length room
front_length front room i e h = rw (length-append, e, length-drop) (omega arith)
