-- The promise of finishing applied: paper 01's rules in settings, judged and, finished, evaluated.
-- Assumes nothing.
use Rattle.std.specs.Prelude.{Ok, ◌≡◌, true, false, List, [], ◌∷◌, ℕ, length}
use Rattle.table.specs.Bench.{rule_g, rule_h}
use Rattle.evaluate.specs.declared.Spent.{Spent}
use Rattle.evaluate.specs.Evaluation.{evaluation, room_after}
use Rattle.judge.specs.declared.Verdict.{Verdict}
use Rattle.judge.specs.Judgement.{judgement}
use Rattle.finish.specs.Finished.{finished, extent}
use Rattle.finish.specs.Laws.{SameAnswers}

-- a table in a setting, the verdict there, and what evaluating the finished table spends
pub record Setting : Type 0 where
  pub table : List ℕ
  pub values : List ℕ
  pub verdict : Verdict
  pub spent : Spent

-- Judging and evaluating are not refused, and so the promise speaks of what evaluating leaves in any room of 99 numbers.
pub record Agreed (x : Setting) : Type 0 where
  pub judged : judgement x.table [] x.values [] 9 99 ≡ Ok x.verdict
  pub evaluated : evaluation (finished x.table) x.values [] 9 99 ≡ Ok x.spent
  pub same : (work : List ℕ) → length work ≡ 99 → SameAnswers x.table (extent x.table) x.verdict (room_after (Ok x.spent) (finished x.table) x.values [] work)

-- P2: rule G, true with a false condition
abbrev pub P2 : Setting
P2 = record { table = rule_g; values = 1 ∷ 1 ∷ 0 ∷ []; verdict = record { rule = true; condition = false; steps = 0; left = 9 }; spent = record { steps = 0; left = 9 } }

-- P7: rule H, both true; the finished table's second read, of the variable, takes no step
abbrev pub P7 : Setting
P7 = record { table = rule_h; values = 9 ∷ 0 ∷ 0 ∷ []; verdict = record { rule = true; condition = true; steps = 1; left = 8 }; spent = record { steps = 1; left = 8 } }

abbrev pub AgreedSettings : Type 0
AgreedSettings = Agreed P2 × Agreed P7
