-- The reasons for each refusal, in order: docs/PROGRAM.md, "Refusals".
-- Assumes nothing.
use Rattle.std.specs.Prelude.{Bool, Option, None, cond, not, ◌&&◌, ◌||◌, List, [], ◌∷◌, ◌++◌, ℕ, ◌-◌, ◌%◌, ◌^◌, eqb, ltb, leb, length, get_or}
use Rattle.ops.specs.Numbers.{last_op}
use Rattle.ops.specs.Fits.{fits}
use Rattle.table.specs.declared.words.Sort.{Sort}
use Rattle.table.specs.declared.words.Term.{Term}
use Rattle.table.specs.declared.ranks.Fields.{Fields}
use Rattle.table.specs.declared.ranks.Fields.TheVariants.{Value, Slot, One, Two, Three}
use Rattle.table.specs.Terms.{terms, term_at, sort_at, boolean, array, same_sort}
use Rattle.table.specs.Faults.{rank, fields, is_variable, is_constant, known, conflicts, size}
use Rattle.table.specs.Folds.{first_from}
use Rattle.setting.specs.declared.cells.Cell.{Cell}
use Rattle.setting.specs.Cells.{cell_at}
use Rattle.setting.specs.Arrays.{slot_sort}
use Rattle.sheets.specs.Marks.{line_at, line_count, mark}
use Rattle.diagnosis.specs.declared.reason.Part.{Part}
use Rattle.diagnosis.specs.declared.reason.Part.TheVariants.{P, Q, R}
use Rattle.diagnosis.specs.declared.reason.Reason.{Reason}
use Rattle.diagnosis.specs.declared.reason.Reason.TheVariants.{EmptyTable, UnevenTable, TooManyTerms, UnknownOp, IndexTooWide, TooWide, NoElementWidth, LateOperand, StrayField, WrongSort, ConstantTooLarge, SlotTooLarge, MarkTooLarge, OtherSort, OtherMark, TooManyStores, RuleNotBool, UnevenCells, NoValue, ValueTooLarge, NotAnArray, CellIndexTooLarge, CellValueTooLarge, CutLine, UnknownKind, ReversedSlots, LineSlotTooLarge, AllowanceTooSmall}
use Rattle.diagnosis.specs.declared.asking.Asking.{Asking}
use Rattle.diagnosis.specs.declared.terms.Use.{Use}
use Rattle.diagnosis.specs.declared.terms.Use.TheVariants.{Number, Operand, Unused}
use Rattle.diagnosis.specs.Telling.{vector_sort, Line, line, tell}
use Rattle.diagnosis.specs.Asking.{asks, met, asked, of_part}

-- 1, of a table of so many numbers
abbrev pub length_lines : ℕ → List Line
length_lines numbers = line (not (eqb numbers 0)) EmptyTable ∷ line (eqb (numbers % 6) 0) (UnevenTable numbers) ∷ []

-- 2, of so many terms
abbrev pub count_lines : ℕ → List Line
count_lines terms = line (not (ltb 512 terms)) (TooManyTerms terms) ∷ []

-- 3
abbrev pub op_lines : Term → List Line
op_lines x = line (known x) (UnknownOp x.op last_op) ∷ []

-- 4
abbrev pub width_lines : Sort → List Line
width_lines s = line (leb s.m 32) (IndexTooWide s.m) ∷ line (leb s.n 32) (TooWide s.n) ∷ line (eqb s.m 0 || ltb 0 s.n) NoElementWidth ∷ []

-- 5: what a field holds; that it is right in term i, else what is told
abbrev pub uses : Fields → Use × Use × Use
uses Value = (Number, Unused, Unused)
uses Slot = (Number, Number, Unused)
uses One = (Operand, Unused, Unused)
uses Two = (Operand, Operand, Unused)
uses Three = (Operand, Operand, Operand)

abbrev pub field_line : Use → Part → ℕ → ℕ → List Line
field_line Number part i v = []
field_line Operand part i v = line (ltb v i) (LateOperand part v i) ∷ []
field_line Unused part i v = line (eqb v 0) (StrayField part v) ∷ []

abbrev pub field_lines : Use × Use × Use → ℕ → Term → List Line
field_lines u i x = field_line u.0 P i x.p ++ field_line u.1 Q i x.q ++ field_line u.2 R i x.r

-- 6
abbrev pub sort_line : List ℕ → ℕ → Term → Part → Asking → Line
sort_line t i x part asking =
    let a = sort_at t x.p in
    let s = of_part part x.sort a (sort_at t x.q) (sort_at t x.r) in
    line (met asking x.sort a s) (WrongSort part (of_part part i x.p x.q x.r) s (asked asking x.sort a))

abbrev pub sort_lines : List (Part × Asking) → List ℕ → ℕ → Term → List Line
sort_lines [] t i x = []
sort_lines (ask ∷ asks) t i x = sort_line t i x ask.0 ask.1 ∷ sort_lines asks t i x

-- the most that fits a width of up to 32, which is 0 for a Boolean
abbrev pub most : ℕ → ℕ
most n = cond (eqb n 0) 1 (cond (ltb n 32) (2 ^ n - 1) 4294967295)

-- 7
abbrev pub value_lines : Term → List Line
value_lines x =
    line (not (is_constant x) || fits x.sort.n x.p) (ConstantTooLarge x.p (most x.sort.n) x.sort)
    ∷ line (not (is_variable x) || leb x.p 255) (SlotTooLarge x.p)
    ∷ line (not (is_variable x) || leb x.q 1) (MarkTooLarge x.q)
    ∷ []

-- 8: the first variable before term i that clashes with it
abbrev pub clashing : List ℕ → Term → ℕ → Bool
clashing t x k = is_variable (term_at t k) && conflicts (term_at t k) x

abbrev pub clash_lines : ℕ → Term → Term → List Line
clash_lines k a x = line (same_sort a.sort x.sort) (OtherSort k x.p a.sort x.sort) ∷ line (eqb a.q x.q) (OtherMark k x.p a.q x.q) ∷ []

abbrev pub first_clashing : List ℕ → ℕ → ℕ
first_clashing t i = first_from (clashing t (term_at t i)) i 0

-- 9
abbrev pub size_lines : List ℕ → ℕ → List Line
size_lines t i = line (leb (size t i) 16) (TooManyStores (size t i)) ∷ []

-- 10
abbrev pub rule_lines : List ℕ → ℕ → List Line
rule_lines t i = line (boolean (sort_at t i)) (RuleNotBool (sort_at t i)) ∷ []

-- 16: of a line that is whole; of line k, which may be the last and cut
abbrev pub mark_lines : ℕ → ℕ → ℕ → List Line
mark_lines kind lowest highest =
    line (leb kind mark) (UnknownKind kind) ∷ line (leb lowest highest) (ReversedSlots lowest highest) ∷ line (leb highest 255) (LineSlotTooLarge highest) ∷ []

abbrev pub sheet_lines : List ℕ → ℕ → List Line
sheet_lines sheet k =
    line (ltb k (line_count sheet)) (CutLine (length sheet % 3))
    ∷ mark_lines (line_at sheet k).kind (line_at sheet k).lowest (line_at sheet k).highest

-- 11
abbrev pub row_lines : List ℕ → List Line
row_lines cells = line (eqb (length cells % 3) 0) (UnevenCells (length cells)) ∷ []

-- 12
abbrev pub slot_lines : List ℕ → Term → List Line
slot_lines values x = line (not (is_variable x) || ltb x.p (length values)) (NoValue x.p (length values)) ∷ []

-- 13
abbrev pub given_lines : List ℕ → Term → List Line
given_lines values x =
    let value = get_or values x.p 0 in
    line (not (is_variable x) || fits x.sort.n value) (ValueTooLarge x.p value (most x.sort.n) (vector_sort x.sort.n)) ∷ []

-- 14
abbrev pub array_lines : Sort → Cell → List Line
array_lines s c = line (array s) (NotAnArray c.slot) ∷ []

-- 15
abbrev pub cell_lines : Sort → Cell → List Line
cell_lines s c =
    line (fits s.m c.index) (CellIndexTooLarge c.index (most s.m) (vector_sort s.m))
    ∷ line (fits s.n c.value) (CellValueTooLarge c.value (most s.n) (vector_sort s.n))
    ∷ []

-- 23
abbrev pub step_lines : ℕ → ℕ → List Line
step_lines allowance steps = line (leb steps allowance) (AllowanceTooSmall allowance steps) ∷ []

-- of a table, of term i, of a setting
unfoldable pub table_reasons : List ℕ → ℕ → List Line
table_reasons t number = cond (eqb number 1) (length_lines (length t)) (count_lines (terms t))

unfoldable pub term_reasons : List ℕ → ℕ → ℕ → List Line
term_reasons t number i =
    let x = term_at t i in
    cond (eqb number 3) (op_lines x)
    (cond (eqb number 4) (width_lines x.sort)
    (cond (eqb number 5) (field_lines (uses (fields x)) i x)
    (cond (eqb number 6) (sort_lines (asks (rank x)) t i x)
    (cond (eqb number 7) (value_lines x)
    (cond (eqb number 8) (clash_lines (first_clashing t i) (term_at t (first_clashing t i)) x)
    (cond (eqb number 9) (size_lines t i)
    (rule_lines t i)))))))

unfoldable pub setting_reasons : List ℕ → List ℕ → List ℕ → ℕ → ℕ → ℕ → List Line
setting_reasons t values cells allowance number i =
    let c = cell_at cells i in
    cond (eqb number 11) (row_lines cells)
    (cond (eqb number 12) (slot_lines values (term_at t i))
    (cond (eqb number 13) (given_lines values (term_at t i))
    (cond (eqb number 14) (array_lines (slot_sort t c.slot) c)
    (cond (eqb number 15) (cell_lines (slot_sort t c.slot) c)
    (cond (eqb number 23) (step_lines allowance i)
    [])))))

unfoldable pub reasons : List ℕ → List ℕ → List ℕ → List ℕ → ℕ → ℕ → ℕ → List Line
reasons t sheet values cells allowance number i =
    cond (eqb number 0) []
    (cond (leb number 2) (table_reasons t number)
    (cond (leb number 10) (term_reasons t number i)
    (cond (eqb number 16) (sheet_lines sheet i)
    (setting_reasons t values cells allowance number i))))

-- the numbers are small enough to be looked at
abbrev pub small : List ℕ → ℕ → Bool
small t place = ltb place 4294967296 && ltb (terms t) 4294967296

abbrev pub diagnosis : List ℕ → List ℕ → List ℕ → List ℕ → ℕ → ℕ → ℕ → Option Reason
diagnosis t sheet values cells allowance number place = cond (small t place) (tell (reasons t sheet values cells allowance number place)) None
