-- What is wrong with a text, by its number.
-- Assumes nothing.
use Rattle.std.specs.Prelude.{ℕ}
use Rattle.cases.specs.declared.error.ErrorKind.{ErrorKind}
use Rattle.cases.specs.declared.error.ErrorKind.TheVariants.{UnknownWord, LargeNumber, NumberBeforeParts, PartGivenTwice, SecondAllowance, RoomFull, NoTable, NoValues, NoCells, NoAllowance, EmptyAllowance, LongText, TableFull, OthersFull, ByteOrderMark}

abbrev pub number : ErrorKind → ℕ
number UnknownWord = 1
number LargeNumber = 2
number NumberBeforeParts = 3
number PartGivenTwice = 4
number SecondAllowance = 5
number RoomFull = 6
number NoTable = 7
number NoValues = 8
number NoCells = 9
number NoAllowance = 10
number EmptyAllowance = 11
number LongText = 12
number TableFull = 13
number OthersFull = 14
number ByteOrderMark = 15
