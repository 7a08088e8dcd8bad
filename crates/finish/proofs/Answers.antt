-- What an answer leaves: of an admission, and of the room.
-- Assumes nothing.
use Rattle.std.specs.Prelude.{Ok, Err}
use mathlib.Core.Path.{◌≡◌, sym, ap, ◌∙◌}
use mathlib.Core.Bool.{Bool, cond}
use mathlib.Core.List.{List}
use Prim.Native.Nat.{ℕ, ◌*◌, ◌<◌, ◌≤◌}
use lib.Dec.{ltb}
use lib.ListN.{length}
use borrow.Author.Tests.{lt-ltb, le-ltb}
use Rattle.table.specs.declared.Refusal.{Refusal}
use Rattle.table.specs.Answers.{Acceptance, accepted}
use Rattle.table.specs.Terms.{words, terms}
use Rattle.table.specs.Admission.{and_then, admission}
use Rattle.finish.specs.Finished.{Finishing}
use Rattle.finish.specs.Finished.{not_finished, extent, finished, finishing}

-- a table that is refused: the refusal stands
pub refused-is : {a : Acceptance} (w room : List ℕ) → a ≡ admission w → {r : Refusal} → a ≡ Err r → Err r ≡ finishing w (length room)
refused-is w room is e =
    ap (λ (z : Acceptance). and_then Err z (cond (ltb (length room) (terms (finished w) * words)) (not_finished 21 (terms (finished w))) (Ok (extent w)))) (sym e ∙ is)

-- a table that is admitted: 21, or all of it
module _ (w room : List ℕ) (h : admission w ≡ accepted) where
  rest : Bool → Finishing
  rest short = cond short (not_finished 21 (terms (finished w))) (Ok (extent w))

  pub too_short : length room < terms (finished w) * words → not_finished 21 (terms (finished w)) ≡ finishing w (length room)
  unfolding rest
  too_short b = sym (ap (λ (a : Acceptance). and_then Err a (rest (ltb (length room) (terms (finished w) * words)))) h ∙ ap rest (lt-ltb (length room) (terms (finished w) * words) b))

  pub long-enough : terms (finished w) * words ≤ length room → Ok (extent w) ≡ finishing w (length room)
  unfolding rest
  long-enough b = sym (ap (λ (a : Acceptance). and_then Err a (rest (ltb (length room) (terms (finished w) * words)))) h ∙ ap rest (le-ltb (length room) (terms (finished w) * words) b))
