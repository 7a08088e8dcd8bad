-- Judging under a sheet: by which marks, and that parties do not touch one another.
-- Assumes nothing.
use mathlib.Core.Path.{◌≡◌, refl, sym, ap, ap₂, ◌∙◌}
use mathlib.Core.Bool.{Bool, true, false, cond}
use mathlib.Core.List.{List, [], ◌∷◌}
use Prim.Native.Nat.{ℕ, ◌<◌}
use lib.Dec.{eqb}
use lib.ListN.{length}
use Rattle.table.specs.Terms.{terms, term_at}
use Rattle.table.proofs.Admitted.{admission-sound}
use Rattle.sheets.specs.Marks.{own_marks, marks_under, LeavesMarks}
use Rattle.sheets.specs.Check.{sheet_check}
use Rattle.sheets.proofs.Saying.{empty}
use Rattle.setting.specs.Cells.{look}
use Rattle.setting.specs.Check.{check}
use Rattle.setting.specs.Interpretation.{Interpretation, interpret}
use Rattle.evaluate.specs.Evaluation.{Evaluation}
use Rattle.evaluate.specs.Evaluation.{evaluates, ready}
use Rattle.evaluate.proofs.Answers.{passed}
use Rattle.judge.specs.Judgement.{Judgement}
use Rattle.judge.specs.Judgement.{rule_in, rule_condition, verdict, judgement_under, judgement, room_in}
use Rattle.judge.specs.Sheets.{JudgedBy, JudgedUnder, JudgedAsMarked, EmptySheet, Party, Asked, judged, served, after, answers, standing, own, PartiesApart}
use Rattle.judge.proofs.SheetMarks.{ready_under, verdict_alike, room_alike}
use Rattle.table.specs.Answers.{accepted}

module _ (w sheet values cells : List ℕ) (allowance : ℕ) (room : List ℕ) (sound : sheet_check sheet ≡ accepted) where
  abbrev I : Interpretation
  I = interpret values (look cells)

  abbrev e : Evaluation
  e = ready 512 w values cells 2 allowance (length room)

  plainly : judgement w sheet values cells allowance (length room) ≡ judgement_under (marks_under sheet) w values cells allowance (length room)
  plainly = ap (λ (x : Evaluation). verdict x w (marks_under sheet) I) (ready_under w sheet (check w values cells) 2 allowance (length room) sound)

  by_sheet : JudgedBy (marks_under sheet) w sheet values cells allowance room
  by_sheet = record { answer = plainly; left = λ j h. refl }

  module _ (leaves : LeavesMarks w sheet) where
    -- a judgement that is not refused has a rule
    some : evaluates e ≡ true → 0 < terms w
    some h = (admission-sound 512 w (passed 512 w values cells 2 allowance (length room) h).admitted).some

    as_marked : JudgedBy own_marks w sheet values cells allowance room
    as_marked =
        record {
          answer = plainly ∙ verdict_alike w (marks_under sheet) own_marks I e (λ h. (some h, leaves));
          left = λ j h.
              ap (λ (x : Judgement). room_in x w (marks_under sheet) I room) (sym h ∙ plainly)
              ∙ room_alike w (marks_under sheet) own_marks I e (rule_in w I) (rule_condition w (marks_under sheet) I) room (λ h. leaves)
              ∙ ap (λ (x : Judgement). room_in x w own_marks I room) (sym plainly ∙ h);
        }

pub judged_under : JudgedUnder
judged_under w sheet values cells allowance room sound = by_sheet w sheet values cells allowance room sound

pub judged_as_marked : JudgedAsMarked
judged_as_marked w sheet values cells allowance room sound leaves = as_marked w sheet values cells allowance room sound leaves

pub empty_sheet : EmptySheet
empty_sheet w values cells allowance room = judged_as_marked w [] values cells allowance room empty.checked (λ k b v. empty.marks (term_at w k))

-- Parties: what party i is told and how it stands go by how it stood alone

module _ (w : List ℕ) (i : ℕ) where
  -- who did not ask stands as before; who asked, by how it stood
  others : (a : Asked) (parties : ℕ → Party) → eqb a.party i ≡ false → after w a parties i ≡ parties i
  others a parties e = rw e

  served_alike : (a : Asked) (parties parties' : ℕ → Party) → parties i ≡ parties' i → after w a parties i ≡ after w a parties' i
  served_alike a parties parties' h = ap (λ (p : Party). cond (eqb a.party i) (served w a p) p) h

  told_by : (asked : List Asked) (parties parties' : ℕ → Party) → parties i ≡ parties' i → answers w i parties asked ≡ answers w i parties' (own i asked)
  unfolding answers own
  told_by [] parties parties' h = refl
  told_by (a ∷ later) parties parties' h = go (eqb a.party i) refl (told_by later)
    where
      go : (b : Bool) → eqb a.party i ≡ b
          → ((parties parties' : ℕ → Party) → parties i ≡ parties' i → answers w i parties later ≡ answers w i parties' (own i later))
          → cond b (judged w a (parties i) ∷ answers w i (after w a parties) later) (answers w i (after w a parties) later) ≡ answers w i parties' (cond b (a ∷ own i later) (own i later))
      go true e rest =
          ap₂ (λ (j : Judgement) (l : List Judgement). j ∷ l) (ap (judged w a) h) (rest (after w a parties) (after w a parties') (served_alike a parties parties' h))
          ∙ sym (ap (λ (b : Bool). cond b (judged w a (parties' i) ∷ answers w i (after w a parties') (own i later)) (answers w i (after w a parties') (own i later))) e)
      go false e rest = rest (after w a parties) parties' (others a parties e ∙ h)

  stands_by : (asked : List Asked) (parties parties' : ℕ → Party) → parties i ≡ parties' i → standing w i parties asked ≡ standing w i parties' (own i asked)
  unfolding standing own
  stands_by [] parties parties' h = h
  stands_by (a ∷ later) parties parties' h = go (eqb a.party i) refl (stands_by later)
    where
      go : (b : Bool) → eqb a.party i ≡ b
          → ((parties parties' : ℕ → Party) → parties i ≡ parties' i → standing w i parties later ≡ standing w i parties' (own i later))
          → standing w i (after w a parties) later ≡ standing w i parties' (cond b (a ∷ own i later) (own i later))
      go true e rest = rest (after w a parties) (after w a parties') (served_alike a parties parties' h)
      go false e rest = rest (after w a parties) parties' (others a parties e ∙ h)

pub parties_apart : PartiesApart
parties_apart w i parties asked = record { told = told_by w i asked parties parties refl; left = stands_by w i asked parties parties refl }
