use Prim.Native.Nat.{ℕ, ◌≤◌, ◌<◌}
use mathlib.Core.Path.{◌≡◌, ap, ap₂, subst, ◌∙◌}
use mathlib.Core.List.{[], ◌∷◌, ◌++◌}
use lib.ListN.{length, drop}
use mathlib.Core.Logic.{◌⊎◌, inl, inr}
use Rattle.smtlib.proofs.Pages.{same_length, counted, filled}
use Rattle.printer.specs.Printed.{text}
use Rattle.printer.specs.Printing.{fitting}
use Rattle.printer.proofs.Answers.{left_so, below-limit}
use Rattle.printer.proofs.fit.Goals as goal
use Rattle.printer.proofs.fit.Goals.{then-needed-room, else-needed-room}

pub returns : goal.returns
returns c =
    let t = c.args.table.now in
    let room = c.args.room.now in
    let needed : c.write-needed.result ≡ length (text t) = counted (0 ∷ []) (text t) _ (below-limit t c.requires) c.write-needed.ensures in
    let written : ((length (text t) ≤ length room) × (c.if-needed-room.room ≡ text t ++ drop (length (text t)) room))
    ⊎ ((length room < length (text t)) × (c.if-needed-room.room ≡ room)) =
    elim c.if-needed-room.branch [
      | then-needed-room w ↦ let fits = subst (λ (k : ℕ). k ≤ length room) needed w.if-needed-room.true in
          inl (fits, w.room-is ∙ filled room (text t) _ (below-limit t c.requires) w.write.ensures fits)
      | else-needed-room w ↦ inr (subst (λ (k : ℕ). length room < k) needed w.if-needed-room.false, w.room-is)
    ] in
    let kept : length c.if-needed-room.room ≡ length room = elim c.if-needed-room.branch [ then-needed-room w ↦ ap length w.room-is ∙ same_length w.write.ensures | else-needed-room w ↦ ap length w.room-is ] in
    let is = c.fitted.ensures ∙ ap₂ fitting needed kept in
    record { value = is; room_after = left_so t room _ _ is written }
