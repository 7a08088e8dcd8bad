use mathlib.Core.Path.{sym, ◌∙◌}
use Rattle.evaluate.specs.Code.Turns.{number_of}
use Rattle.evaluate.proofs.Operands.{behind}
use Rattle.judge.proofs.terms.plain.Goals as goal

pub returns-then-is_constant : goal.returns-then-is_constant
unfolding number_of
returns-then-is_constant c = rw (c.requires.next.1, sym c.is_constant.ensures ∙ c.if-is_constant.true)

pub returns-then-is_variable : goal.returns-then-is_variable
unfolding number_of
returns-then-is_variable c = rw (c.marked.ensures, c.variable_number.ensures, c.requires.next.1, sym c.is_constant.ensures ∙ c.if-is_constant.false, sym c.is_variable.ensures ∙ c.if-is_variable.true)

pub operated-r-requires : goal.operated-r-requires
operated-r-requires c =
    let below = behind 80000 c.args.table.now c.args.front.now c.args.x c.requires.well_formed c.requires.next.0 (sym c.is_constant.ensures ∙ c.if-is_constant.false) (sym c.is_variable.ensures ∙ c.if-is_variable.false) in
    record { well_formed = c.requires.well_formed; front_len_bound = (c.requires.next.0.inside, below); truths_len = c.requires.truths_len }

pub returns : goal.returns
unfolding number_of
returns c = c.operated-r.ensures ∙ rw (c.requires.next.1, sym c.is_constant.ensures ∙ c.if-is_constant.false, sym c.is_variable.ensures ∙ c.if-is_variable.false)
