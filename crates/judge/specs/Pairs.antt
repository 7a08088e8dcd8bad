-- Demand 3 applied: pairs of settings that agree on every unmarked input, their verdicts worked out.
-- Assumes nothing.
use Rattle.std.specs.Prelude.{Ok, ◌≡◌, true, false, List, [], ◌∷◌, ℕ, ◌-◌, ◌<◌}
use Rattle.table.specs.Bench.{term, rule_g}
use Rattle.setting.specs.Cells.{look}
use Rattle.setting.specs.Interpretation.{interpret, AgreeUnmarked}
use Rattle.judge.specs.declared.Verdict.{Verdict}
use Rattle.sheets.specs.Marks.{marks_under}
use Rattle.judge.specs.Judgement.{rule_in, judgement}
use Rattle.judge.specs.Demand3.{SameVerdict}

-- a table, a sheet, two settings and the verdict in each
pub record Pair : Type 0 where
  pub table : List ℕ
  pub sheet : List ℕ
  pub values : List ℕ
  pub cells : List ℕ
  pub verdict : Verdict
  pub values' : List ℕ
  pub cells' : List ℕ
  pub verdict' : Verdict

-- The settings are judged, they agree, and so demand 3 speaks of them.
pub record Compared (x : Pair) : Type 0 where
  pub first : judgement x.table x.sheet x.values x.cells 9 99 ≡ Ok x.verdict
  pub second : judgement x.table x.sheet x.values' x.cells' 9 99 ≡ Ok x.verdict'
  pub agree : AgreeUnmarked x.table (marks_under x.sheet) (interpret x.values (look x.cells)) (interpret x.values' (look x.cells'))
  pub same : SameVerdict x.verdict x.verdict'

-- what u holds at j, stored at j in t and read again there, is 42: array u and index j unmarked, array t marked (slots 0, 2, 1)
abbrev pub copied : List ℕ
copied =
    term 1 2 8 0 0 0
    (term 1 2 8 1 1 0
    (term 1 0 2 2 0 0
    (term 15 0 8 0 2 0
    (term 16 2 8 1 2 3
    (term 15 0 8 4 2 0
    (term 0 0 8 42 0 0
    (term 6 0 0 5 6 0 [])))))))

abbrev passing : ℕ → Verdict
passing spent = record { rule = true; condition = true; steps = spent; left = 9 - spent }

-- rule G, x 5 and x 77
abbrev pub other_vector : Pair
other_vector =
    record {
      table = rule_g;
      sheet = [];
      values = 0 ∷ 5 ∷ 1 ∷ [];
      cells = [];
      verdict = passing 0;
      values' = 0 ∷ 77 ∷ 1 ∷ [];
      cells' = [];
      verdict' = passing 0;
    }

-- u listed in two ways: 42 at 1 over a default of 7; all four cells, one of them twice, over a default of 9, in a longer row
abbrev pub other_listing : Pair
other_listing =
    record {
      table = copied;
      sheet = [];
      values = 7 ∷ 0 ∷ 1 ∷ [];
      cells = 0 ∷ 1 ∷ 42 ∷ [];
      verdict = passing 1;
      values' = 9 ∷ 0 ∷ 1 ∷ 4 ∷ 300 ∷ [];
      cells' = 0 ∷ 3 ∷ 7 ∷ 0 ∷ 1 ∷ 42 ∷ 0 ∷ 2 ∷ 7 ∷ 0 ∷ 1 ∷ 5 ∷ 0 ∷ 0 ∷ 7 ∷ [];
      verdict' = passing 1;
    }

-- the marked array t differs: all 0; 200 but for two cells
abbrev pub other_array : Pair
other_array =
    record {
      table = copied;
      sheet = [];
      values = 7 ∷ 0 ∷ 1 ∷ [];
      cells = 0 ∷ 1 ∷ 42 ∷ [];
      verdict = passing 1;
      values' = 7 ∷ 200 ∷ 1 ∷ [];
      cells' = 1 ∷ 1 ∷ 8 ∷ 0 ∷ 1 ∷ 42 ∷ 1 ∷ 3 ∷ 9 ∷ [];
      verdict' = passing 1;
    }

-- rule G under a sheet that marks a and keeps x: x is 0 and free, and so a does not matter, 5 or 77
abbrev pub other_party : Pair
other_party =
    record {
      table = rule_g;
      sheet = 1 ∷ 0 ∷ 0 ∷ 0 ∷ 1 ∷ 1 ∷ [];
      values = 5 ∷ 0 ∷ 1 ∷ [];
      cells = [];
      verdict = passing 0;
      values' = 77 ∷ 0 ∷ 1 ∷ [];
      cells' = [];
      verdict' = passing 0;
    }

abbrev pub ComparedPairs : Type 0
ComparedPairs = Compared other_vector × Compared other_listing × Compared other_array × Compared other_party

-- By the table's own marks the same setting does not pass: of two parties each has its own verdict.
abbrev pub OtherVerdict : Type 0
OtherVerdict = judgement rule_g [] other_party.values [] 9 99 ≡ Ok (record { rule = true; condition = false; steps = 0; left = 9 })

-- And the last sentence of demand 3: rule G passes at a 0, x 5, b 1 (P1), so it is true there at every x that fits.
abbrev pub SureOfG : Type 0
SureOfG = (x : ℕ) → x < 256 → rule_in rule_g (interpret (0 ∷ x ∷ 1 ∷ []) (look [])) ≡ true
