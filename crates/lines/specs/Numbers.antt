-- Parts and routines by number: 0 nothing yet, 1 to 9 the parts and 10 to 15 the routines in their order, 16 what is wrong.
-- Other numbers are taken as well, as what no number can follow.
-- Assumes nothing.
use Rattle.std.specs.Prelude.{cond, ◌&&◌, ◌||◌, List, ℕ, ◌+◌, ◌*◌, eqb, leb, ltb, get_or, set}
use Rattle.lines.specs.declared.tokens.Token.{Token}
use Rattle.lines.specs.declared.tokens.Token.TheVariants.{Nothing as NoToken, Number, Word, Unknown}
use Rattle.lines.specs.declared.parts.Part.TheVariants.{Allowance, Room, Finished, Limit, Constants, Values, Cells, Sheet, Table}
use Rattle.lines.specs.declared.parts.Routine.TheVariants.{Admit, AdmitWithin, Evaluate, Judge, Finish, Extent}
use Rattle.lines.specs.declared.parts.Next.{Next}
use Rattle.lines.specs.declared.parts.Next.TheVariants.{Nothing, Part, Routine, Wrong}
use Rattle.lines.specs.Tokens.{spelt}

-- what is no part, nor the word of a routine
abbrev pub wrong : ℕ
wrong = 16

-- the part, or the routine, of a word
abbrev pub part_of : ℕ → ℕ
part_of word =
    cond (eqb word (spelt "allowance")) 1
    (cond (eqb word (spelt "room")) 2
    (cond (eqb word (spelt "finished")) 3
    (cond (eqb word (spelt "limit")) 4
    (cond (eqb word (spelt "constants")) 5
    (cond (eqb word (spelt "values")) 6
    (cond (eqb word (spelt "cells")) 7
    (cond (eqb word (spelt "sheet")) 8
    (cond (eqb word (spelt "table")) 9
    (cond (eqb word (spelt "admit")) 10
    (cond (eqb word (spelt "admit_within")) 11
    (cond (eqb word (spelt "evaluate")) 12
    (cond (eqb word (spelt "judge")) 13
    (cond (eqb word (spelt "finish")) 14
    (cond (eqb word (spelt "extent")) 15
    wrong))))))))))))))

-- the most numbers of a part
abbrev pub most : ℕ → ℕ
most part = cond (eqb part 9) 6144 (cond (leb 6 part && leb part 8) 64 (cond (eqb part 0 || ltb 9 part) 0 1))

-- a part by its word: wrong before the one number of another part was given; a table ends the constants
abbrev pub opened : List ℕ → ℕ → ℕ → ℕ
opened ns part next = cond ((ltb 0 part && ltb part 6) && eqb (get_or ns part 0) 0) wrong next

abbrev pub begun : List ℕ → ℕ → List ℕ
begun ns next = set (set ns (cond (eqb next 9) 5 next) 0) next 0

-- one number more: wrong past the most
abbrev pub part_added : List ℕ → ℕ → ℕ
part_added ns part = cond (leb (most part) (get_or ns part 0)) wrong part

abbrev pub added : List ℕ → ℕ → ℕ → List ℕ
added ns part v =
    cond (leb (most part) (get_or ns part 0)) ns
    (set (set ns (part * 64 + get_or ns part 0) v) part (get_or ns part 0 + 1))

-- a token: the part that the next number goes to, and the row of numbers
abbrev pub part_after : List ℕ → ℕ → Token → ℕ
part_after ns part NoToken = part
part_after ns part (Number v) = cond (ltb v 4294967296) (part_added ns part) wrong
part_after ns part (Word w) = opened ns part (part_of w)
part_after ns part Unknown = wrong

abbrev pub after : List ℕ → ℕ → Token → List ℕ
after ns part NoToken = ns
after ns part (Number v) = cond (ltb v 4294967296) (added ns part v) ns
after ns part (Word w) = begun ns (part_of w)
after ns part Unknown = ns

-- what a number stands for
abbrev pub next_of : ℕ → Next
next_of number =
    cond (eqb number 0) Nothing
    (cond (eqb number 1) (Part Allowance)
    (cond (eqb number 2) (Part Room)
    (cond (eqb number 3) (Part Finished)
    (cond (eqb number 4) (Part Limit)
    (cond (eqb number 5) (Part Constants)
    (cond (eqb number 6) (Part Values)
    (cond (eqb number 7) (Part Cells)
    (cond (eqb number 8) (Part Sheet)
    (cond (eqb number 9) (Part Table)
    (cond (eqb number 10) (Routine Admit)
    (cond (eqb number 11) (Routine AdmitWithin)
    (cond (eqb number 12) (Routine Evaluate)
    (cond (eqb number 13) (Routine Judge)
    (cond (eqb number 14) (Routine Finish)
    (cond (eqb number 15) (Routine Extent)
    Wrong)))))))))))))))
