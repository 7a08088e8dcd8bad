use Rattle.ops.specs.Condition.{settles}
use Rattle.ops.proofs.settles.Goals as goal

pub returns-in-Constant : goal.returns-in-Constant
unfolding settles
returns-in-Constant c = rw c.in-Constant.is

pub returns-in-Variable : goal.returns-in-Variable
unfolding settles
returns-in-Variable c = rw c.in-Variable.is

pub returns-in-Apply : goal.returns-in-Apply
unfolding settles
returns-in-Apply c = rw c.in-Apply.is c.condition_of.ensures

pub returns-in-Ite : goal.returns-in-Ite
unfolding settles
returns-in-Ite c = rw (c.in-Ite.is, c.chosen.ensures)

pub returns-in-Select : goal.returns-in-Select
unfolding settles
returns-in-Select c = rw c.in-Select.is

pub returns-in-Store : goal.returns-in-Store
unfolding settles
returns-in-Store c = rw c.in-Store.is

pub returns-in-Unknown : goal.returns-in-Unknown
unfolding settles
returns-in-Unknown c = rw c.in-Unknown.is
