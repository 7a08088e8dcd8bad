-- Demand 3 applied through the record entrance: one pair of settings of records, one of records and numbers.
-- Assumes nothing.
use Rattle.std.specs.Prelude.{Ok, ◌≡◌, true, List, [], ◌∷◌, ℕ}
use Rattle.setting.specs.declared.cells.Cell.{Cell}
use Rattle.setting.specs.Cells as flat
use Rattle.setting.specs.Interpretation.{interpret, AgreeUnmarked}
use Rattle.judge.specs.declared.Verdict.{Verdict}
use Rattle.sheets.specs.Marks.{marks_under}
use Rattle.judge.specs.Judgement as judges
use Rattle.judge.specs.Demand3.{SameVerdict}
use Rattle.judge.specs.Pairs.{copied}
use Rattle.records.specs.Answers.{in_records, judgement}

abbrev cell : ℕ → ℕ → ℕ → Cell
cell slot index value = record { slot = slot; index = index; value = value }

abbrev pub passed : Verdict
passed = record { rule = true; condition = true; steps = 1; left = 8 }

-- array u holds 42 at 1 and 7 elsewhere; the marked array t 0, and 200 but for one cell
abbrev pub few : List Cell
few = cell 0 1 42 ∷ []

abbrev pub many : List Cell
many = cell 1 3 9 ∷ cell 0 3 7 ∷ cell 0 1 42 ∷ cell 0 2 7 ∷ cell 0 1 5 ∷ cell 0 0 7 ∷ []

abbrev pub short : List ℕ
short = 7 ∷ 0 ∷ 1 ∷ []

abbrev pub long : List ℕ
long = 9 ∷ 200 ∷ 1 ∷ 4 ∷ []

-- Both are judged under the empty sheet, they agree, and so demand 3 speaks of them: of two rows of records, and of one beside a row of numbers.
pub record Compared : Type 0 where
  pub first : judgement copied [] short few 9 99 ≡ Ok passed
  pub second : judgement copied [] long many 9 99 ≡ Ok passed
  pub agree : AgreeUnmarked copied (marks_under []) (in_records short few) (in_records long many)
  pub same : SameVerdict passed passed
  pub flatly : judges.judgement copied [] short (0 ∷ 1 ∷ 42 ∷ []) 9 99 ≡ Ok passed
  pub agree_across : AgreeUnmarked copied (marks_under []) (in_records long many) (interpret short (flat.look (0 ∷ 1 ∷ 42 ∷ [])))
  pub across : SameVerdict passed passed
