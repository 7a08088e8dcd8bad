-- Settings by computation. The names are a, a vector of slot 0, and t, an array of slot 1.
-- Assumes nothing.
use mathlib.Core.Path.{◌≡◌, refl}
use mathlib.Core.Bool.{true, false}
use mathlib.Core.List.{List, [], ◌∷◌}
use Prim.Native.Nat.{ℕ}
use Rattle.smtlib.specs.Bytes.{bytes, same_bytes, place_in}
use Rattle.smtlib.specs.Numerals.{value_of}
use Rattle.table.specs.Folds.{every}
use Rattle.cases.specs.Places.{feeds, back_to}
use Rattle.parser.specs.Words.{among, symbol, private, plain_of, word_of, ahead}
use Rattle.std.specs.Prelude.{Result, Ok, Err, unwrap_or}
use Rattle.assignments.specs.declared.Setting.{Setting}
use Rattle.assignments.specs.declared.Error.{Error}
use Rattle.assignments.specs.Tokens.{skipped_from, token_at, tokens_from, decimal_from, number_of}
use Rattle.assignments.specs.Seeking.{lines_from, slot_from, place_from, value_place, cell_place, allowance_place, by_parts_from, by_parts}
use Rattle.assignments.specs.Statements.{listed_in, step, run}
use Rattle.assignments.specs.Reading.{fault_number, missing_from, values_in, worked, reading}

names : List ℕ
names = bytes "a\nt\n"

table : List ℕ
table = 1 ∷ 0 ∷ 8 ∷ 0 ∷ 0 ∷ 0 ∷ 1 ∷ 8 ∷ 8 ∷ 1 ∷ 0 ∷ 0 ∷ []

room : List ℕ
room = 0 ∷ 0 ∷ 0 ∷ []

-- what is read: 0, and the counts and the allowance; or the fault, its line and column, 0 where there is none, and the bytes of its
-- token
told : Result Setting Error → List ℕ
told (Ok s) = 0 ∷ s.values ∷ s.cells ∷ s.sheet ∷ s.allowance ∷ []
told (Err e) = fault_number e.kind ∷ e.line ∷ unwrap_or e.column 0 ∷ e.from ∷ e.to ∷ []

reads : List ℕ → List ℕ
reads text = told (reading names table text room (0 ∷ 0 ∷ 0 ∷ 0 ∷ 0 ∷ 0 ∷ []))

-- statements in any order, with a comment; the rooms of the cells and of the sheet, the values, and where the values stand
given : List ℕ
given = bytes "t[4] = 7 mark t t = 1;\na = #b11 keep a allowance 9"

sheet : List ℕ
sheet = 0 ∷ 0 ∷ 0 ∷ 0 ∷ 0 ∷ 0 ∷ []

whole : reads given ∷ (worked names table given room sheet).cells ∷ (worked names table given room sheet).sheet ∷ values_in names given 2 room
    ∷ (value_place names given 0 ∷ value_place names given 1 ∷ cell_place given 0 ∷ allowance_place given ∷ []) ∷ []
    ≡ (0 ∷ 2 ∷ 3 ∷ 6 ∷ 9 ∷ []) ∷ (1 ∷ 4 ∷ 7 ∷ []) ∷ (1 ∷ 1 ∷ 1 ∷ 0 ∷ 0 ∷ 0 ∷ []) ∷ (3 ∷ 1 ∷ 0 ∷ []) ∷ (27 ∷ 20 ∷ 7 ∷ 49 ∷ []) ∷ []
unfolding names table room told reads given sheet same_bytes place_in value_of every feeds back_to among symbol private plain_of word_of ahead skipped_from token_at tokens_from decimal_from number_of lines_from slot_from place_from listed_in step run missing_from values_in
whole = refl

-- 1 to 7
faults : reads (bytes "b = 1") ∷ reads (bytes "a = 1\n a = 1") ∷ reads (bytes "t[4] = 1 t[4] = 1") ∷ reads (bytes "a 1") ∷ reads (bytes "a = b") ∷ reads (bytes "a = 4294967296") ∷ reads (bytes "a[1] = 1") ∷ []
    ≡ (1 ∷ 1 ∷ 1 ∷ 0 ∷ 1 ∷ []) ∷ (2 ∷ 2 ∷ 2 ∷ 7 ∷ 8 ∷ []) ∷ (3 ∷ 1 ∷ 12 ∷ 11 ∷ 12 ∷ []) ∷ (4 ∷ 1 ∷ 3 ∷ 2 ∷ 3 ∷ []) ∷ (5 ∷ 1 ∷ 5 ∷ 4 ∷ 5 ∷ [])
    ∷ (6 ∷ 1 ∷ 5 ∷ 4 ∷ 14 ∷ []) ∷ (7 ∷ 1 ∷ 2 ∷ 1 ∷ 2 ∷ []) ∷ []
unfolding names table room told reads same_bytes place_in value_of every feeds back_to among symbol private plain_of word_of ahead skipped_from token_at tokens_from decimal_from number_of lines_from slot_from place_from listed_in step run missing_from
faults = refl

-- 8 to 13
others : reads (bytes "t[1 =") ∷ reads (bytes "allowance 1 allowance 2") ∷ reads (bytes "t[true") ∷ reads (bytes "t = 1") ∷ reads (bytes "t[1] = 1 t[2] = 1") ∷ reads (bytes "a =") ∷ []
    ≡ (8 ∷ 1 ∷ 5 ∷ 4 ∷ 5 ∷ []) ∷ (9 ∷ 1 ∷ 13 ∷ 12 ∷ 21 ∷ []) ∷ (10 ∷ 1 ∷ 3 ∷ 2 ∷ 6 ∷ []) ∷ (11 ∷ 1 ∷ 0 ∷ 0 ∷ 0 ∷ []) ∷ (12 ∷ 1 ∷ 12 ∷ 11 ∷ 12 ∷ [])
    ∷ (13 ∷ 1 ∷ 0 ∷ 3 ∷ 3 ∷ []) ∷ []
unfolding names table room told reads same_bytes place_in value_of every feeds back_to among symbol private plain_of word_of ahead skipped_from token_at tokens_from decimal_from number_of lines_from slot_from place_from listed_in step run missing_from
others = refl

-- mark and keep: a name that is not declared; the end; one line more than the room has; where = follows, a name that is not declared
marks : reads (bytes "mark b") ∷ reads (bytes "keep") ∷ reads (bytes "mark a keep a mark b") ∷ reads (bytes "keep = 1") ∷ []
    ≡ (1 ∷ 1 ∷ 6 ∷ 5 ∷ 6 ∷ []) ∷ (13 ∷ 1 ∷ 0 ∷ 4 ∷ 4 ∷ []) ∷ (14 ∷ 1 ∷ 15 ∷ 14 ∷ 18 ∷ []) ∷ (1 ∷ 1 ∷ 1 ∷ 0 ∷ 4 ∷ []) ∷ []
unfolding names table room told reads same_bytes place_in value_of every feeds back_to among symbol private plain_of word_of ahead skipped_from token_at tokens_from decimal_from number_of lines_from slot_from place_from listed_in step run missing_from
marks = refl

-- the allowance is not sought after mark: there it is a name
named : allowance_place (bytes "mark allowance a = 1 allowance 2") ≡ 31
unfolding same_bytes ahead skipped_from token_at tokens_from place_from
named = refl

parts : by_parts (bytes "sheet 1") ∷ by_parts (bytes "allowance 3 values 1") ∷ by_parts (bytes "values = 1") ∷ by_parts (bytes "; x\ncells[") ∷ by_parts (bytes "a = 1") ∷ by_parts [] ∷ [] ≡ true ∷ true ∷ false ∷ false ∷ false ∷ false ∷ []
unfolding same_bytes ahead skipped_from token_at tokens_from decimal_from by_parts_from
parts = refl
