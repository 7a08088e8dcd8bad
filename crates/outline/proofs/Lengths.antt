-- How many bytes in front pass a test, and the rest of a text.
-- Assumes nothing.
use mathlib.Core.Path.{◌≡◌, refl, ap, ◌∙◌}
use mathlib.Core.Bool.{Bool, cond}
use mathlib.Core.List.{List, [], ◌∷◌}
use Prim.Native.Nat.{ℕ, ◌-◌, min}
use native.Mathlib.Omega.{arith}
use lib.ListN.{length, drop, take, length-drop}
use lib.Seq.{take_all}
use Rattle.std.proofs.lemmas.List.{drop_min}
use Rattle.std.specs.List.{prefix_len}
use Rattle.parser.specs.Words.{ahead}

pub ahead_is : (test : ℕ → Bool) (l : List ℕ) → prefix_len test l ≡ ahead test l
unfolding ahead
ahead_is test [] = refl
ahead_is test (b ∷ bs) = ap (λ (n : ℕ). cond (test b) n 0) (omega (arith, ahead_is test bs))

-- the rest of a text, as a range of it
pub rest_is : (text : List ℕ) (place at : ℕ) → at ≡ min place (length text) → take (length text - at) (drop at text) ≡ drop place text
rest_is text place at e = rw e (take_all (length text - min place (length text)) (drop (min place (length text)) text) (omega (arith, length-drop (min place (length text)) text)) ∙ drop_min place text)
