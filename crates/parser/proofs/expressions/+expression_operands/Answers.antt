use mathlib.Core.Path.{sym, subst, ◌∙◌}
use Prim.Native.Nat.{ℕ, ◌<◌, ◌+◌, ◌-◌}
use native.Mathlib.Nat.{pos_of_ne-zero}
use Rattle.parser.proofs.Moving.{deeper}
use Rattle.parser.proofs.Cycle.{measure, done, constant, listed, none_left, stopped, one_more_lem, list-below, operand_below, rest_below}
use Rattle.parser.proofs.Faults.{faulted, clean}
use Rattle.parser.proofs.expressions.+expression_operands.Goals as goal

pub expression-overflow_sub-levels : goal.expression-overflow_sub-levels
expression-overflow_sub-levels t c = deeper c.args.text.now c.args.names c.args.s c.args.levels (sym c.head_at.ensures ∙ c.in-Call.is)

pub expression-operands-l-requires : goal.expression-operands-l-requires
expression-operands-l-requires t c = let b = c.begin_list.result in
    (subst (λ (j : ℕ). measure c.args.text.now (c.args.levels - 1) b.state.at + 1 < j) c.decreases (list-below c.args.text.now c.args.names c.args.s c.args.levels (sym c.head_at.ensures ∙ c.in-Call.is) b.state.at), tt)

pub expression-overflow_sub-levels-in-Call : goal.expression-overflow_sub-levels-in-Call
expression-overflow_sub-levels-in-Call t c = deeper c.args.text.now c.args.names c.args.s c.args.levels (sym c.head_at.ensures ∙ c.in-Call.is)

pub expression-returns-in-Done : goal.expression-returns-in-Done
expression-returns-in-Done t c = done c.args.levels c.args.text.now c.args.names c.args.s c.args.room.now _ (sym c.head_at.ensures ∙ c.in-Done.is)

pub expression-returns-in-Constant : goal.expression-returns-in-Constant
expression-returns-in-Constant t c = constant c.args.levels c.args.text.now c.args.names c.args.s c.args.room.now _ _ _ (sym c.head_at.ensures ∙ c.in-Constant.is) _ c.write_constant.ensures _ c.added.ensures

pub expression-returns-in-Call : goal.expression-returns-in-Call
expression-returns-in-Call t c = listed c.args.levels c.args.text.now c.args.names c.args.s c.args.room.now _ _ (sym c.head_at.ensures ∙ c.in-Call.is)
    _ c.begin_list.ensures _ c.operands_of.ensures _ _ c.operands-l.ensures _ c.write_list.ensures _ c.closed.ensures

pub operands-returns-then-left-eq0 : goal.operands-returns-then-left-eq0
operands-returns-then-left-eq0 t c = none_left c.args.levels c.args.text.now c.args.names c.args.left c.args.l c.args.room.now c.if-left-eq0.true

pub operands-expression-e-requires : goal.operands-expression-e-requires
operands-expression-e-requires t c = let m = measure c.args.text.now c.args.levels c.args.l.state.at in (subst (λ (j : ℕ). m < j) c.decreases (operand_below m), tt)

pub operands-returns-then-is_some : goal.operands-returns-then-is_some
operands-returns-then-is_some t c = stopped c.args.levels c.args.text.now c.args.names c.args.left c.args.l c.args.room.now c.if-left-eq0.false _ _ c.expression-e.ensures _ c.joined.ensures (faulted c.expression-e.result.fault c.is_some.ensures c.if-is_some.true)

pub operands-overflow_sub-left : goal.operands-overflow_sub-left
operands-overflow_sub-left t c = pos_of_ne-zero c.if-left-eq0.false

pub operands-operands-requires : goal.operands-operands-requires
operands-operands-requires t c = (
  subst (λ (k : ℕ). measure c.args.text.now c.args.levels c.joined-2.result.state.at + 1 < k) c.decreases
      (rest_below c.args.levels c.args.text.now c.args.names c.args.l c.args.room.now _ c.expression-e.ensures.0 (clean c.expression-e.result.fault c.is_some.ensures c.if-is_some.false) c.joined-2.result c.joined-2.ensures),
  tt,
)

pub operands-returns : goal.operands-returns
operands-returns t c = one_more_lem c.args.levels c.args.text.now c.args.names c.args.left c.args.l c.args.room.now c.if-left-eq0.false _ _ c.expression-e.ensures _ c.joined-2.ensures
    (clean c.expression-e.result.fault c.is_some.ensures c.if-is_some.false) _ _ c.operands.ensures
