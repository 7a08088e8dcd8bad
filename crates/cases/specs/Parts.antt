-- The parts of a case, by their numbers.
-- Assumes nothing.
use Rattle.std.specs.Prelude.{ℕ, Option, Some, None}
use Rattle.cases.specs.declared.part.Part.{Part}
use Rattle.cases.specs.declared.part.Part.TheVariants.{Table, Values, Cells, Allowance, Sheet}

abbrev pub number : Part → ℕ
number Table = 1
number Values = 2
number Cells = 3
number Allowance = 4
number Sheet = 5

-- 0 before any heading
abbrev pub number_or_none : Option Part → ℕ
number_or_none None = 0
number_or_none (Some part) = number part

-- the place among the five
abbrev pub index : Part → ℕ
index Table = 0
index Values = 1
index Cells = 2
index Allowance = 3
index Sheet = 4
