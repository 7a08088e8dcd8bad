-- The lines of paper 01's table of operators: what each operator asks of its sorts (SMT-LIB's word: its rank) and
-- what its fields hold.
-- Assumes nothing.
use Rattle.std.specs.Prelude.{Bool, true, false, ℕ}
use Rattle.ops.specs.declared.Op.{Op}
use Rattle.ops.specs.declared.Op.TheVariants.{Constant, Variable, Apply, Ite, Select, Store, Unknown}
use Rattle.ops.specs.Ranks.{Arity, FunctionRank, function_rank}
use Rattle.ops.specs.Ranks.FunctionRank.{bool_unary, bool_binary, equality, bv_unary, bv_binary, bv_compare}
use Rattle.table.specs.declared.ranks.Rank.{Rank}
use Rattle.table.specs.declared.ranks.Rank.TheVariants.{Literal, Input, BoolUnary, BoolBinary, Equality, Choice, BvUnary, BvBinary, BvCompare, Read, Write, Other}
use Rattle.table.specs.declared.ranks.Fields.{Fields}
use Rattle.table.specs.declared.ranks.Fields.TheVariants.{Value, Slot, One, Two, Three}

-- a function's
abbrev pub applied : {a : Arity} → FunctionRank a → Rank
applied bool_unary = BoolUnary
applied bool_binary = BoolBinary
applied equality = Equality
applied bv_unary = BvUnary
applied bv_binary = BvBinary
applied bv_compare = BvCompare

abbrev pub rank_of : Op → Rank
rank_of Constant = Literal
rank_of Variable = Input
rank_of (Apply f) = applied (function_rank f)
rank_of Ite = Choice
rank_of Select = Read
rank_of Store = Write
rank_of Unknown = Other

-- what p, q, r hold: a value; a slot and a mark; one, two or three operands. The others are unused
abbrev pub fields_of : Rank → Fields
fields_of Literal = Value
fields_of Input = Slot
fields_of BoolUnary = One
fields_of BoolBinary = Two
fields_of Equality = Two
fields_of Choice = Three
fields_of BvUnary = One
fields_of BvBinary = Two
fields_of BvCompare = Two
fields_of Read = Two
fields_of Write = Three
fields_of Other = Three

-- how many operands the fields hold
abbrev pub operand_count : Fields → ℕ
operand_count Value = 0
operand_count Slot = 0
operand_count One = 1
operand_count Two = 2
operand_count Three = 3

-- one of seven by the case of Op: constant, variable, function, choice, read, store, unknown
abbrev pub by_op : {A : Type 0} → A → A → A → A → A → A → A → Op → A
by_op c v f i r s u Constant = c
by_op c v f i r s u Variable = v
by_op c v f i r s u (Apply g) = f
by_op c v f i r s u Ite = i
by_op c v f i r s u Select = r
by_op c v f i r s u Store = s
by_op c v f i r s u Unknown = u

-- a constant, a variable, a choice, a read, a store
abbrev pub immediate : Op → Bool
immediate op = by_op true false false false false false false op

abbrev pub slotted : Op → Bool
slotted op = by_op false true false false false false false op

abbrev pub picks : Op → Bool
picks op = by_op false false false true false false false op

abbrev pub reads : Op → Bool
reads op = by_op false false false false true false false op

abbrev pub writes : Op → Bool
writes op = by_op false false false false false true false op
