use mathlib.Core.Path.{sym, ap, ◌∙◌}
use Prim.Native.Nat.{ℕ}
use native.Mathlib.Omega.{arith}
use lib.ListN.{length}
use Rattle.outline.specs.Scanning.{scanned, start, words_from}
use Rattle.outline.proofs.WordLists.{before_is, scan_none, scan_stop, scan_more}
use Rattle.outline.proofs.scan.context_at.Goals as goal

pub loop-token-init : goal.loop-token-init
loop-token-init c = (
  (tt, tt),
  rw (c.into_iter-token-iterator.ensures.into_iter_gives, c.new-token-items.ensures, c.start-scan.ensures) (
      ap (scanned start) (
      before_is (length c.args.text.now) c.args.text.now c.min-stop.result 0 (omega (arith, c.min-stop.ensures))
      ∙ ap (λ (n : ℕ). words_from (length c.args.text.now) c.args.text.now n 0) c.min-stop.ensures)),
)

pub loop-token-preserved : goal.loop-token-preserved
loop-token-preserved c =
    ((tt, tt), rw c.step-scan.ensures (sym (scan_more c.min-stop.result c.loop-token.scan _ c.in-Some.token _ c.in-Some.ensures.steps c.if-stop-token.false) ∙ c.loop-token.invariant.1))

pub returns-in-None : goal.returns-in-None
returns-in-None c = sym (scan_none c.min-stop.result c.loop-token.scan _ c.in-None.ensures.steps.0) ∙ c.loop-token.invariant.1

pub returns-then-stop-token : goal.returns-then-stop-token
returns-then-stop-token c = sym (scan_stop c.min-stop.result c.loop-token.scan _ c.in-Some.token _ c.in-Some.ensures.steps c.if-stop-token.true) ∙ c.loop-token.invariant.1
