-- Demand 3 through the record entrance: that of the cells laid flat.
-- Assumes nothing.
use Rattle.std.specs.Prelude.{Ok, Err}
use mathlib.Core.Path.{sym, subst, ◌∙◌}
use mathlib.Core.List.{List}
use Prim.Native.Nat.{ℕ}
use Prim.{tt}
use Rattle.setting.specs.declared.cells.Cell.{Cell}
use Rattle.setting.specs.Interpretation.{Interpretation, interpret, AgreeUnmarked}
use Rattle.setting.specs.Cells as flat
use Rattle.judge.specs.Judgement.{Judgement}
use Rattle.sheets.specs.Marks.{marks_under}
use Rattle.judge.specs.Judgement as judges
use Rattle.judge.specs.Demand3 as demands
use Rattle.judge.proofs.Promises.{demand3}
use Rattle.records.specs.Rows.{flattened}
use Rattle.records.specs.Answers.{in_records}
use Rattle.records.specs.Laws.{RecordJudgementPromise, RecordDemand3, FlatJudgementPromise, FlatDemand3}
use Rattle.records.proofs.Flattened.{laid_interpret, equal-judgement}

module _ (w sheet values : List ℕ) (cells : List Cell) where
  -- the records' interpretation, on either side of an agreement, is that of the cells laid flat
  from_laid : (I : Interpretation) → AgreeUnmarked w (marks_under sheet) (in_records values cells) I → AgreeUnmarked w (marks_under sheet) (interpret values (flat.look (flattened cells))) I
  from_laid I = subst (λ J. AgreeUnmarked w (marks_under sheet) J I) (sym (laid_interpret cells values))

  to_laid : (I : Interpretation) → AgreeUnmarked w (marks_under sheet) I (in_records values cells) → AgreeUnmarked w (marks_under sheet) I (interpret values (flat.look (flattened cells)))
  to_laid I = subst (AgreeUnmarked w (marks_under sheet) I) (sym (laid_interpret cells values))

module _ (w sheet values : List ℕ) (cells : List Cell) where
  of_laid : (j : Judgement) → demands.JudgementPromise w sheet values (flattened cells) j → RecordJudgementPromise w sheet values cells j
  of_laid (Ok v) p =
      record {
        same = λ values' cells' allowance' room' v' e agree.
            p.same values' (flattened cells') allowance' room' v' (sym (equal-judgement w sheet values' cells' allowance' room') ∙ e)
            (from_laid w sheet values cells (interpret values' (flat.look (flattened cells'))) (to_laid w sheet values' cells' (in_records values cells) agree));
        across = λ values' cells' allowance' room' v' e agree.
            p.same values' cells' allowance' room' v' e (from_laid w sheet values cells (interpret values' (flat.look cells')) agree);
        sure = λ h I fit agree. p.sure h I fit (from_laid w sheet values cells I agree);
      }
  of_laid (Err r) p = tt

pub record_demand3 : RecordDemand3
record_demand3 w sheet values cells allowance room =
    subst (RecordJudgementPromise w sheet values cells) (sym (equal-judgement w sheet values cells allowance room))
    (of_laid w sheet values cells (judges.judgement w sheet values (flattened cells) allowance room) (demand3 w sheet values (flattened cells) allowance room))

-- a judgement of numbers against one of records
pub flat_demand3 : FlatDemand3
flat_demand3 w sheet values cells allowance room = go (judges.judgement w sheet values cells allowance room) (demand3 w sheet values cells allowance room)
  where
    go : (j : Judgement) → demands.JudgementPromise w sheet values cells j → FlatJudgementPromise w sheet values cells j
    go (Ok v) p = λ values' cells' allowance' room' v' e agree.
        p.same values' (flattened cells') allowance' room' v' (sym (equal-judgement w sheet values' cells' allowance' room') ∙ e)
        (to_laid w sheet values' cells' (interpret values (flat.look cells)) agree)
    go (Err r) p = tt
