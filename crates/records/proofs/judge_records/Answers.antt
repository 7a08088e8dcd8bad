use Rattle.std.proofs.Common.{length, sym, subst}
use Rattle.records.specs.Laws.{RecordJudgementPromise}
use Rattle.records.proofs.Demand.{record_demand3}
use Rattle.records.proofs.judge_records.Goals as goal

pub returns : goal.returns
returns c =
    let is = c.judge_in.ensures.value in
    record {
      value = is;
      work_after = c.judge_in.ensures.work_after;
      record_judgement_promise = subst (RecordJudgementPromise c.args.table.now c.args.sheet.now c.args.values.now c.args.cells.now) (sym is) (record_demand3 c.args.table.now c.args.sheet.now c.args.values.now c.args.cells.now c.args.allowance (length c.args.work.now));
    }
