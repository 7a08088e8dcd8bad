-- Judging under a mark sheet (paper 02, request 06): an empty sheet, sheets that leave the marks, and two parties with a table lent to both.
-- Assumes nothing.
use Rattle.std.specs.Prelude.{Ok, Err, ◌≡◌, Bool, cond, List, [], ◌∷◌, ℕ, eqb, length}
use Rattle.table.specs.declared.words.Term.{Term}
use Rattle.sheets.specs.Marks.{own_marks, marks_under, LeavesMarks}
use Rattle.sheets.specs.Check.{sheet_check}
use Rattle.setting.specs.Cells.{look}
use Rattle.setting.specs.Interpretation.{interpret}
use Rattle.judge.specs.Judgement.{Judgement}
use Rattle.judge.specs.Judgement.{judgement_under, judgement, room_in, room_after}
use Rattle.table.specs.Answers.{accepted}

-- a judgement under a sheet is one by some marks: the answer, and the room
pub record JudgedBy (marked : Term → Bool) (w sheet values cells : List ℕ) (allowance : ℕ) (room : List ℕ) : Type 0 where
  pub answer : judgement w sheet values cells allowance (length room) ≡ judgement_under marked w values cells allowance (length room)
  pub left : (j : Judgement) → judgement w sheet values cells allowance (length room) ≡ j → room_after j w sheet values cells room ≡ room_in j w marked (interpret values (look cells)) room

-- Under a sheet that is not refused: by the marks that hold under it.
abbrev pub JudgedUnder : Type 0
JudgedUnder = (w sheet values cells : List ℕ) (allowance : ℕ) (room : List ℕ) → sheet_check sheet ≡ accepted → JudgedBy (marks_under sheet) w sheet values cells allowance room

-- Under a sheet that leaves the table's marks as they are: by the table's own. So it is under the empty sheet.
abbrev pub JudgedAsMarked : Type 0
JudgedAsMarked =
    (w sheet values cells : List ℕ) (allowance : ℕ) (room : List ℕ) → sheet_check sheet ≡ accepted → LeavesMarks w sheet
    → JudgedBy own_marks w sheet values cells allowance room

abbrev pub EmptySheet : Type 0
EmptySheet = (w values cells : List ℕ) (allowance : ℕ) (room : List ℕ) → JudgedBy own_marks w [] values cells allowance room

-- Parties, by their numbers: each has a room and an allowance of its own, and asks for judgements of one table, each with a sheet and a
-- setting.
pub record Party : Type 0 where
  pub room : List ℕ
  pub allowance : ℕ

pub record Asked : Type 0 where
  pub party : ℕ
  pub sheet : List ℕ
  pub values : List ℕ
  pub cells : List ℕ

-- what is left of an allowance: a refusal spends nothing
abbrev pub left_by : Judgement → ℕ → ℕ
left_by (Ok v) allowance = v.left
left_by (Err r) allowance = allowance

abbrev pub judged : List ℕ → Asked → Party → Judgement
judged w a p = judgement w a.sheet a.values a.cells p.allowance (length p.room)

-- a party after a judgement that it asked for
abbrev pub served : List ℕ → Asked → Party → Party
served w a p = record { room = room_after (judged w a p) w a.sheet a.values a.cells p.room; allowance = left_by (judged w a p) p.allowance }

-- all parties after it: who asked is served, the others are as they were
abbrev pub after : List ℕ → Asked → (ℕ → Party) → ℕ → Party
after w a parties i = cond (eqb a.party i) (served w a (parties i)) (parties i)

-- what party i is answered in a run of judgements, and how it stands after it
unfoldable pub answers : List ℕ → ℕ → (ℕ → Party) → List Asked → List Judgement
answers w i parties [] = []
answers w i parties (a ∷ later) =
    let rest = answers w i (after w a parties) later in
    cond (eqb a.party i) (judged w a (parties i) ∷ rest) rest

unfoldable pub standing : List ℕ → ℕ → (ℕ → Party) → List Asked → Party
standing w i parties [] = parties i
standing w i parties (a ∷ later) = standing w i (after w a parties) later

-- the judgements that party i asked for
unfoldable pub own : ℕ → List Asked → List Asked
own i [] = []
own i (a ∷ later) = cond (eqb a.party i) (a ∷ own i later) (own i later)

-- A party's answers, room and allowance are those that it has where nobody else asks: judgements of others, before, between and after its
-- own, change none of them.
pub record Alone (w : List ℕ) (i : ℕ) (parties : ℕ → Party) (asked : List Asked) : Type 0 where
  pub told : answers w i parties asked ≡ answers w i parties (own i asked)
  pub left : standing w i parties asked ≡ standing w i parties (own i asked)

abbrev pub PartiesApart : Type 0
PartiesApart = (w : List ℕ) (i : ℕ) (parties : ℕ → Party) (asked : List Asked) → Alone w i parties asked
