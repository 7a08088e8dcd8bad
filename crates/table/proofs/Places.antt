-- A term written into a table.
-- Assumes nothing.
use mathlib.Core.Path.{◌≡◌, refl}
use mathlib.Core.Bool.{Bool, true, false, cond}
use mathlib.Core.List.{List}
use Prim.Native.Nat.{ℕ, ◌+◌, ◌*◌}
use lib.Dec.{leb}
use lib.ListN.{length, length-set}
use Rattle.table.specs.declared.words.Term.{Term}
use Rattle.table.specs.Terms.{words}
use Rattle.table.specs.Code.Writing.{placed}

length-cond : (b : Bool) (s t : List ℕ) → length s ≡ length t → length (cond b s t) ≡ length t
length-cond true s t e = e
length-cond false s t e = refl

pub length-placed : (t : List ℕ) (k : ℕ) (x : Term) → length (placed t k x) ≡ length t
unfolding placed
length-placed t k x = length-cond (leb (k * words + words) (length t)) _ t (simp length-set)
