-- The parts that routines are called with, in one row of numbers. Number k counts part k's numbers, which stand from
-- 64 * k on. Parts 1 to 5 have one number, 6 to 9 more.
-- Assumes nothing.
use Rattle.std.specs.Prelude.{Bool, false, cond, ◌&&◌, List, [], ℕ, ◌+◌, ◌*◌, eqb, leb, ltb, length, take, drop, get_or, set}
use Rattle.lines.specs.declared.tokens.Token.{Token}
use Rattle.lines.specs.declared.tokens.Token.TheVariants.{Nothing as NoToken, Number, Word, Unknown}
use Rattle.lines.specs.declared.parts.Part.{Part as PartOf}
use Rattle.lines.specs.declared.parts.Part.TheVariants.{Allowance, Room, Finished, Limit, Constants, Values, Cells, Sheet, Table}
use Rattle.lines.specs.declared.parts.Routine.TheVariants.{Admit, AdmitWithin, Evaluate, Judge, Finish, Extent}
use Rattle.lines.specs.declared.parts.Next.{Next}
use Rattle.lines.specs.declared.parts.Next.TheVariants.{Nothing, Part, Routine, Wrong}
use Rattle.lines.specs.Tokens.{spelt}

abbrev pub part_number : PartOf → ℕ
part_number Allowance = 1
part_number Room = 2
part_number Finished = 3
part_number Limit = 4
part_number Constants = 5
part_number Values = 6
part_number Cells = 7
part_number Sheet = 8
part_number Table = 9

-- parts by their numbers, then the routines, then what is wrong
abbrev pub number : Next → ℕ
number Nothing = 0
number (Part p) = part_number p
number (Routine Admit) = 10
number (Routine AdmitWithin) = 11
number (Routine Evaluate) = 12
number (Routine Judge) = 13
number (Routine Finish) = 14
number (Routine Extent) = 15
number Wrong = 16

-- the part, or the routine, of a word
abbrev pub named : ℕ → Next
named word =
    cond (eqb word (spelt "allowance")) (Part Allowance)
    (cond (eqb word (spelt "room")) (Part Room)
    (cond (eqb word (spelt "finished")) (Part Finished)
    (cond (eqb word (spelt "limit")) (Part Limit)
    (cond (eqb word (spelt "constants")) (Part Constants)
    (cond (eqb word (spelt "values")) (Part Values)
    (cond (eqb word (spelt "cells")) (Part Cells)
    (cond (eqb word (spelt "sheet")) (Part Sheet)
    (cond (eqb word (spelt "table")) (Part Table)
    (cond (eqb word (spelt "admit")) (Routine Admit)
    (cond (eqb word (spelt "admit_within")) (Routine AdmitWithin)
    (cond (eqb word (spelt "evaluate")) (Routine Evaluate)
    (cond (eqb word (spelt "judge")) (Routine Judge)
    (cond (eqb word (spelt "finish")) (Routine Finish)
    (cond (eqb word (spelt "extent")) (Routine Extent)
    Wrong))))))))))))))

-- the most numbers of a part
abbrev pub most : PartOf → ℕ
most Table = 6144
most Values = 64
most Cells = 64
most Sheet = 64
most _ = 1

-- a part of one number
abbrev pub single : Next → Bool
single (Part p) = leb (part_number p) 5
single _ = false

-- so many numbers from a place on; none where there are fewer
abbrev pub row_of : List ℕ → ℕ → ℕ → List ℕ
row_of ns from count = cond (leb (from + count) (length ns)) (take count (drop from ns)) []

-- the table: its own numbers, or so many constants, six zeros each, where they were given last
abbrev pub table_of : List ℕ → List ℕ
table_of ns = cond (eqb (get_or ns 5 0) 0) (row_of ns 576 (get_or ns 9 0)) (row_of ns 8192 (get_or ns 320 0 * 6))

-- a part by its word: wrong before the one number of another part was given; a table ends the constants
abbrev pub opened : List ℕ → Next → Next → Next
opened ns part next = cond (single part && eqb (get_or ns (number part) 0) 0) Wrong next

-- what is set to zero: the part's count, and the constants' where it is the table
abbrev pub begun : List ℕ → Next → List ℕ
begun ns (Part Table) = set (set ns 5 0) 9 0
begun ns next = set ns (number next) 0

-- one number more: wrong past the most, and where no part was begun
abbrev pub part_added : List ℕ → Next → Next
part_added ns (Part p) = cond (leb (most p) (get_or ns (part_number p) 0)) Wrong (Part p)
part_added ns _ = Wrong

abbrev pub added : List ℕ → Next → ℕ → List ℕ
added ns (Part p) v =
    cond (leb (most p) (get_or ns (part_number p) 0)) ns
    (set (set ns (part_number p * 64 + get_or ns (part_number p) 0) v) (part_number p) (get_or ns (part_number p) 0 + 1))
added ns _ v = ns

-- a token: what the line goes on with, and the row of numbers
abbrev pub part_after : List ℕ → Next → Token → Next
part_after ns part NoToken = part
part_after ns part (Number v) = cond (ltb v 4294967296) (part_added ns part) Wrong
part_after ns part (Word w) = opened ns part (named w)
part_after ns part Unknown = Wrong

abbrev pub after : List ℕ → Next → Token → List ℕ
after ns part NoToken = ns
after ns part (Number v) = cond (ltb v 4294967296) (added ns part v) ns
after ns part (Word w) = begun ns (named w)
after ns part Unknown = ns
