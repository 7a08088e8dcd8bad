use mathlib.Core.Path.{sym, ◌∙◌}
use Rattle.setting.proofs.Looks.{begun, on, stop, through}
use Rattle.setting.proofs.cells.look.Goals as goal

pub loop-k-init : goal.loop-k-init
loop-k-init g c = begun (g.C.Cells.at c.args.cells.now) c.args.among c.args.slot c.args.index c.args.other

pub returns-then-matches : goal.returns-then-matches
returns-then-matches g c =
    stop (g.C.Cells.at c.args.cells.now) c.args.among c.args.slot c.args.index c.args.other c.loop-k.k c.loop-k.invariant c.loop-k-test.true
    c.cell-c.result c.cell-c.ensures (sym c.matches.ensures ∙ c.if-matches.true)

pub loop-k-preserved : goal.loop-k-preserved
loop-k-preserved g c =
    on (g.C.Cells.at c.args.cells.now) c.args.among c.args.slot c.args.index c.args.other c.loop-k.k c.loop-k.invariant c.loop-k-test.true
    c.cell-c.result c.cell-c.ensures (sym c.matches.ensures ∙ c.if-matches.false)

pub returns : goal.returns
returns g c = through (g.C.Cells.at c.args.cells.now) c.args.among c.args.slot c.args.index c.args.other c.loop-k.k c.loop-k.invariant c.loop-k-test.false
