use mathlib.Core.Path.{sym, ◌∙◌}
use Rattle.evaluate.specs.Code.Turns.{number_of}
use Rattle.evaluate.proofs.Operands.{behind}
use Rattle.evaluate.proofs.turns.number.Goals as goal

pub returns-then-is_read : goal.returns-then-is_read
unfolding number_of
returns-then-is_read c = rw (sym c.is_read.ensures ∙ c.if-is_read.true)

pub returns-then-is_constant : goal.returns-then-is_constant
unfolding number_of
returns-then-is_constant c = rw (sym c.is_read.ensures ∙ c.if-is_read.false, sym c.is_constant.ensures ∙ c.if-is_constant.true)

pub returns-then-is_variable : goal.returns-then-is_variable
unfolding number_of
returns-then-is_variable c = c.variable_number.ensures ∙ rw (sym c.is_read.ensures ∙ c.if-is_read.false, sym c.is_constant.ensures ∙ c.if-is_constant.false, sym c.is_variable.ensures ∙ c.if-is_variable.true)

pub operated_number-requires : goal.operated_number-requires
operated_number-requires c =
    let table = c.args.table.now in
    record { well_formed = c.requires.well_formed; front_len_bound = (c.requires.next.inside, behind 80000 table c.args.front.now c.args.x c.requires.well_formed c.requires.next (sym c.is_constant.ensures ∙ c.if-is_constant.false) (sym c.is_variable.ensures ∙ c.if-is_variable.false)) }

pub returns : goal.returns
unfolding number_of
returns c = c.operated_number.ensures ∙ rw (sym c.is_read.ensures ∙ c.if-is_read.false, sym c.is_constant.ensures ∙ c.if-is_constant.false, sym c.is_variable.ensures ∙ c.if-is_variable.false)
