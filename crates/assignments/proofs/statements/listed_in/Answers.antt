use mathlib.Core.Path.{ap}
use native.Mathlib.Omega.{arith}
use Prim.Native.Nat.{ℕ, ◌+◌, ◌*◌, ◌-◌}
use Rattle.assignments.proofs.Ways.{listed_none, listed_found, listed_on}
use Rattle.assignments.proofs.statements.listed_in.Goals as goal

pub returns-then-slot-cell : goal.returns-then-slot-cell
returns-then-slot-cell c =
    listed_found c.args.cells.now c.args.cell.slot c.args.cell.index c.args.count c.loop-n.n c.loop-n.invariant c.loop-n-test.true c.pair_in-slot.result.0 c.pair_in-slot.result.1 (ap (λ (p : ℕ × ℕ). p.0) c.pair_in-slot.ensures) (ap (λ (p : ℕ × ℕ). p.1) c.pair_in-slot.ensures)
    c.if-slot-cell.true

pub loop-n-preserved : goal.loop-n-preserved
loop-n-preserved c =
    listed_on c.args.cells.now c.args.cell.slot c.args.cell.index c.args.count c.loop-n.n c.loop-n.invariant c.loop-n-test.true c.pair_in-slot.result.0 c.pair_in-slot.result.1 (ap (λ (p : ℕ × ℕ). p.0) c.pair_in-slot.ensures) (ap (λ (p : ℕ × ℕ). p.1) c.pair_in-slot.ensures)
    c.if-slot-cell.false

pub returns : goal.returns
returns c = listed_none c.args.cells.now c.args.cell.slot c.args.cell.index c.args.count c.loop-n.n c.loop-n.invariant (omega (arith, c.loop-n-test.false))
