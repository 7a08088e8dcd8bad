use Rattle.ops.proofs.value_of.Goals as goal

pub returns-in-Not : goal.returns-in-Not
returns-in-Not c = rw (c.in-Not.is, c.bit.ensures)

pub returns-in-And : goal.returns-in-And
returns-in-And c = rw (c.in-And.is, c.bit-in-And.ensures)

pub returns-in-Or : goal.returns-in-Or
returns-in-Or c = rw (c.in-Or.is, c.bit-in-Or.ensures)

pub returns-in-Implies : goal.returns-in-Implies
returns-in-Implies c = rw (c.in-Implies.is, c.bit-in-Implies.ensures)

pub returns-in-Equal : goal.returns-in-Equal
returns-in-Equal c = rw (c.in-Equal.is, c.bit-in-Equal.ensures)

pub returns-in-BvNot : goal.returns-in-BvNot
returns-in-BvNot c = rw (c.in-BvNot.is, c.bvnot.ensures)

pub returns-in-BvAnd : goal.returns-in-BvAnd
returns-in-BvAnd c = rw (c.in-BvAnd.is, c.reduce.ensures)

pub returns-in-BvOr : goal.returns-in-BvOr
returns-in-BvOr c = rw (c.in-BvOr.is, c.reduce-in-BvOr.ensures)

pub returns-in-BvAdd : goal.returns-in-BvAdd
returns-in-BvAdd c = rw (c.in-BvAdd.is, c.bvadd.ensures)

pub returns-in-BvMul : goal.returns-in-BvMul
returns-in-BvMul c = rw (c.in-BvMul.is, c.bvmul.ensures)

pub returns-in-BvShl : goal.returns-in-BvShl
returns-in-BvShl c = rw (c.in-BvShl.is, c.bvshl.ensures)

pub returns-in-BvUlt : goal.returns-in-BvUlt
returns-in-BvUlt c = rw (c.in-BvUlt.is, c.bit-in-BvUlt.ensures)

pub returns-in-BvNeg : goal.returns-in-BvNeg
returns-in-BvNeg c = rw (c.in-BvNeg.is, c.bvneg.ensures)

pub returns-in-BvSub : goal.returns-in-BvSub
returns-in-BvSub c = rw (c.in-BvSub.is, c.bvsub.ensures)

pub returns-in-BvSlt : goal.returns-in-BvSlt
returns-in-BvSlt c = rw (c.in-BvSlt.is, c.bit-in-BvSlt.ensures, c.bvslt.ensures)

pub returns-in-BvAshr : goal.returns-in-BvAshr
returns-in-BvAshr c = rw (c.in-BvAshr.is, c.bvashr.ensures)
