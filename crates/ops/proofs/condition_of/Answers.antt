use Rattle.ops.proofs.condition_of.Goals as goal

pub returns-in-Not : goal.returns-in-Not
returns-in-Not c = rw c.in-Not.is

pub returns-in-And : goal.returns-in-And
returns-in-And c = rw (c.in-And.is, c.absorbed.ensures)

pub returns-in-Or : goal.returns-in-Or
returns-in-Or c = rw (c.in-Or.is, c.absorbed-in-Or.ensures)

pub returns-in-Implies : goal.returns-in-Implies
returns-in-Implies c = rw (c.in-Implies.is, c.absorbed-in-Implies.ensures)

pub returns-in-Equal : goal.returns-in-Equal
returns-in-Equal c = rw c.in-Equal.is

pub returns-in-BvNot : goal.returns-in-BvNot
returns-in-BvNot c = rw c.in-BvNot.is

pub returns-in-BvAnd : goal.returns-in-BvAnd
returns-in-BvAnd c = rw (c.in-BvAnd.is, c.absorbed-in-BvAnd.ensures)

pub returns-in-BvOr : goal.returns-in-BvOr
returns-in-BvOr c = rw (c.in-BvOr.is, c.absorbed-in-BvOr.ensures, c.all_ones-in-BvOr.ensures, c.all_ones.ensures)

pub returns-in-BvAdd : goal.returns-in-BvAdd
returns-in-BvAdd c = rw c.in-BvAdd.is

pub returns-in-BvMul : goal.returns-in-BvMul
returns-in-BvMul c = rw (c.in-BvMul.is, c.absorbed-in-BvMul.ensures)

pub returns-in-BvShl : goal.returns-in-BvShl
returns-in-BvShl c = rw (c.in-BvShl.is, c.shifted.ensures)

pub returns-in-BvUlt : goal.returns-in-BvUlt
returns-in-BvUlt c = rw (c.in-BvUlt.is, c.absorbed-in-BvUlt.ensures, c.all_ones-in-BvUlt.ensures)

pub returns-in-BvNeg : goal.returns-in-BvNeg
returns-in-BvNeg c = rw c.in-BvNeg.is

pub returns-in-BvSub : goal.returns-in-BvSub
returns-in-BvSub c = rw c.in-BvSub.is

pub returns-in-BvSlt : goal.returns-in-BvSlt
returns-in-BvSlt c = rw (c.in-BvSlt.is, c.absorbed-in-BvSlt.ensures, c.is_least.ensures, c.all_ones-in-BvSlt.ensures, c.top.ensures)

pub returns-in-BvAshr : goal.returns-in-BvAshr
returns-in-BvAshr c = rw (c.in-BvAshr.is, c.fixed_by.ensures, c.all_ones-in-BvAshr.ensures)
