use Rattle.std.proofs.Common.{length, sym, subst}
use Rattle.setting.specs.Check.{check}
use Rattle.judge.specs.Demand3.{JudgementPromise}
use Rattle.judge.proofs.Promises.{demand3}
use Rattle.judge.proofs.judge.Goals as goal

pub returns : goal.returns
unfolding check
returns c =
    let w = c.args.table.now in
    let sheet = c.args.sheet.now in
    let values = c.args.values.now in
    let cells = c.args.cells.now in
    let is = c.judge_in.ensures.value in
    record {
      value = is;
      work_after = c.judge_in.ensures.work_after;
      judgement_promise = subst (JudgementPromise w sheet values cells) (sym is) (demand3 w sheet values cells c.args.allowance (length c.args.work.now));
    }
