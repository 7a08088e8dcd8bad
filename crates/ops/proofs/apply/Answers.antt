use Rattle.ops.specs.Meaning.{apply}
use Rattle.ops.proofs.apply.Goals as goal

pub returns-in-Constant : goal.returns-in-Constant
unfolding apply
returns-in-Constant c = rw c.in-Constant.is

pub returns-in-Variable : goal.returns-in-Variable
unfolding apply
returns-in-Variable c = rw c.in-Variable.is

pub returns-in-Apply : goal.returns-in-Apply
unfolding apply
returns-in-Apply c = rw c.in-Apply.is c.value_of.ensures

pub returns-in-Ite : goal.returns-in-Ite
unfolding apply
returns-in-Ite c = rw (c.in-Ite.is, c.ite.ensures)

pub returns-in-Select : goal.returns-in-Select
unfolding apply
returns-in-Select c = rw c.in-Select.is

pub returns-in-Store : goal.returns-in-Store
unfolding apply
returns-in-Store c = rw c.in-Store.is

pub returns-in-Unknown : goal.returns-in-Unknown
unfolding apply
returns-in-Unknown c = rw c.in-Unknown.is
