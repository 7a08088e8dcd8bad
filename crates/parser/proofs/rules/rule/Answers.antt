use Rattle.std.proofs.Common.{sym, ◌∙◌}
use Rattle.parser.proofs.Commands.{none_read, one_read, stopped, through, whole}
use Rattle.parser.proofs.rules.rule.Goals as goal

pub loop-init : goal.loop-init
loop-init c = none_read c.args.text.now c.command-p.result c.command-p.new.room

pub loop-preserved : goal.loop-preserved
loop-preserved c = one_read c.args.text.now c.command-p.result c.command-p.new.room c.loop.p c.loop.room c.loop.counter c.loop.invariant c.loop-test.true (sym c.halted.ensures ∙ c.if-halted.false) c.command-p-in-loop.result c.command-p-in-loop.new.room c.command-p-in-loop.ensures c.command-p-in-loop.auto.room

pub returns-then-halted : goal.returns-then-halted
returns-then-halted c =
    whole c.args.text.now c.args.room.now c.start.result c.start.ensures c.command-p.result c.command-p.new.room c.command-p.ensures c.loop.p c.loop.room
    (stopped c.args.text.now c.command-p.result c.command-p.new.room c.loop.p c.loop.room c.loop.counter c.loop.invariant c.loop-test.true (sym c.halted.ensures ∙ c.if-halted.true))

pub returns : goal.returns
returns c =
    whole c.args.text.now c.args.room.now c.start.result c.start.ensures c.command-p.result c.command-p.new.room c.command-p.ensures c.loop.p c.loop.room
    (through c.args.text.now c.command-p.result c.command-p.new.room c.loop.p c.loop.room c.loop.counter c.loop.invariant c.loop-test.false)
