use Prim.Native.Nat.{ℕ}
use mathlib.Core.Path.{subst}
use native.Mathlib.Omega.{arith}
use Rattle.sheets.specs.Code.Said.{Said}
use Rattle.sheets.proofs.Saying.{none_said, one_said}
use Rattle.sheets.proofs.marks.said.Goals as goal

pub loop-k-init : goal.loop-k-init
loop-k-init c = (omega arith, none_said c.args.sheet.now)

pub line_in-requires : goal.line_in-requires
line_in-requires c = omega (arith, c.loop-k-test.true, c.count-lines.ensures)

pub enter-requires : goal.enter-requires
enter-requires c = c.loop-k.invariant.1.size

pub loop-k-preserved : goal.loop-k-preserved
loop-k-preserved c = (omega (arith, c.loop-k-test.true), one_said c.args.sheet.now c.loop-k.k c.loop-k.row _ c.line_in.result c.loop-k.invariant.1 c.line_in.ensures c.enter.ensures)

pub returns : goal.returns
returns c =
    let s = c.args.sheet.now in
    subst (λ (n : ℕ). Said s n c.loop-k.row) (omega (arith, c.loop-k.invariant.0, c.loop-k-test.false, c.count-lines.ensures)) c.loop-k.invariant.1
