use mathlib.Core.Path.{◌≡◌, refl, sym, ap, ◌∙◌}
use lib.ListN.{length}
use Rattle.std.proofs.Common.{rules}
use Rattle.std.specs.Prelude.{Err}
use Rattle.assignments.proofs.Running.{put_cell-length, put_line-length, run_none, run_failed, run_on}
use Rattle.assignments.proofs.statements.run.Goals as goal

pub returns-in_err-state : goal.returns-in_err-state
returns-in_err-state c =
    let e : c.from_residual.result ≡ Err c.in_err-state.field-0.0 = search rules in
    rw e (
    run_failed c.args.source.names.now c.args.source.table.now c.args.source.text.now c.loop-token.state c.loop-token.cells c.loop-token.sheet _ c.in-Some.token _ c.in-Some.ensures.steps c.in_err-state.field-0.0 (sym c.step.ensures ∙ c.in_err-state.was)
    ∙ c.loop-token.invariant.3)

pub loop-token-init : goal.loop-token-init
loop-token-init c = ((tt, tt), refl, refl, rw (c.into_iter-token-iterator.ensures.into_iter_gives, c.new-token-items.ensures, c.start-state.ensures))

pub loop-token-preserved : goal.loop-token-preserved
loop-token-preserved c = (
  (tt, tt),
  ap length c.write.ensures.cells_after ∙ put_cell-length c.loop-token.cells c.in_ok-state.state ∙ c.loop-token.invariant.1,
  ap length c.write.ensures.sheet_after ∙ put_line-length c.loop-token.sheet c.in_ok-state.state ∙ c.loop-token.invariant.2,
  rw (c.counted-state.ensures, c.write.ensures.cells_after, c.write.ensures.sheet_after) (
      run_on c.args.source.names.now c.args.source.table.now c.args.source.text.now c.loop-token.state c.loop-token.cells c.loop-token.sheet _ c.in-Some.token _ c.in-Some.ensures.steps c.in_ok-state.state (sym c.step.ensures ∙ c.in_ok-state.was)
      ∙ c.loop-token.invariant.3),
)

pub returns : goal.returns
returns c =
    run_none c.args.source.names.now c.args.source.table.now c.args.source.text.now c.loop-token.state c.loop-token.cells c.loop-token.sheet _ c.in-None.ensures.steps.0
    ∙ c.loop-token.invariant.3
