use Rattle.table.specs.Code.Writing.{placed}
use borrow.Author.Tests.{le-leb, lt-leb}
use lib.ListN.{length-set}
use native.Mathlib.Omega.{arith}
use Rattle.table.proofs.words.put.Goals as goal

pub bounds-table-at-then-at-table : goal.bounds-table-at-then-at-table
bounds-table-at-then-at-table c = simp length-set (omega arith)

pub bounds-table-at-then-at-table-2 : goal.bounds-table-at-then-at-table-2
bounds-table-at-then-at-table-2 c = simp length-set (omega arith)

pub bounds-table-at-then-at-table-3 : goal.bounds-table-at-then-at-table-3
bounds-table-at-then-at-table-3 c = simp length-set (omega arith)

pub bounds-table-at-then-at-table-4 : goal.bounds-table-at-then-at-table-4
bounds-table-at-then-at-table-4 c = simp length-set (omega arith)

pub bounds-table-at-then-at-table-5 : goal.bounds-table-at-then-at-table-5
bounds-table-at-then-at-table-5 c = simp length-set (omega arith)

pub returns-then-at-table : goal.returns-then-at-table
unfolding placed
returns-then-at-table c = rw (le-leb _ _ c.if-at-table.true)

pub returns-else-at-table : goal.returns-else-at-table
unfolding placed
returns-else-at-table c = rw (lt-leb _ _ c.if-at-table.false)
