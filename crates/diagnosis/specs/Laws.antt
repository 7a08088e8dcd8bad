-- A refusal is told by a reason that is true of the table, the sheet and the setting.
-- Assumes nothing.
use Rattle.std.specs.Prelude.{Ok, Err, ◌≡◌, true, List, ℕ, ◌≤◌, ◌<◌, leb, Option, None, Some}
use Rattle.ops.specs.Fits.{fits}
use Rattle.table.specs.Answers.{Acceptance}
use Rattle.table.specs.Admission.{admission_within}
use Rattle.setting.specs.Check.{check}
use Rattle.sheets.specs.Check.{sheet_check}
use Rattle.diagnosis.specs.declared.reason.Reason.{Reason}
use Rattle.diagnosis.specs.declared.reason.Reason.TheVariants.{EmptyTable, UnevenTable, TooManyTerms, UnknownOp, IndexTooWide, TooWide, NoElementWidth, LateOperand, StrayField, WrongSort, ConstantTooLarge, SlotTooLarge, MarkTooLarge, OtherSort, OtherMark, TooManyStores, RuleNotBool, UnevenCells, NoValue, ValueTooLarge, NotAnArray, CellIndexTooLarge, CellValueTooLarge, CutLine, UnknownKind, ReversedSlots, LineSlotTooLarge, AllowanceTooSmall}
use Rattle.diagnosis.specs.Telling.{FirstFails}
use Rattle.diagnosis.specs.Reasons.{most, small, reasons, diagnosis}

-- what is told of a refusal is the first of its number's reasons whose test fails; so there is one
abbrev pub Told : List ℕ → List ℕ → List ℕ → List ℕ → ℕ → ℕ → ℕ → Type 0
Told t sheet values cells allowance number place =
    small t place ≡ true → FirstFails (reasons t sheet values cells allowance number place) (diagnosis t sheet values cells allowance number place)

-- of an answer that refuses
abbrev pub Answered : (ℕ → ℕ → Type 0) → Acceptance → Type 0
Answered P (Ok _) = Unit {0}
Answered P (Err r) = P r.number r.place

-- of a table, by any limit from 512 on
abbrev pub TableTold : Type 0
TableTold = (limit : ℕ) → 512 ≤ limit → (t sheet values cells : List ℕ) (allowance : ℕ) → Answered (Told t sheet values cells allowance) (admission_within limit t)

-- of a setting
abbrev pub SettingTold : Type 0
SettingTold = (t sheet values cells : List ℕ) (allowance : ℕ) → Answered (Told t sheet values cells allowance) (check t values cells)

-- of a sheet
abbrev pub SheetTold : Type 0
SheetTold = (t sheet values cells : List ℕ) (allowance : ℕ) → Answered (Told t sheet values cells allowance) (sheet_check sheet)

-- of an allowance below the steps that the reads take
abbrev pub AllowanceTold : Type 0
AllowanceTold = (t sheet values cells : List ℕ) (allowance steps : ℕ) → allowance < steps → Told t sheet values cells allowance 23 steps

-- the refusal that a reason is for, by its number; 0 where there is none
abbrev pub refusal_of : Option Reason → ℕ
refusal_of None = 0
refusal_of (Some EmptyTable) = 1
refusal_of (Some (UnevenTable a)) = 1
refusal_of (Some (TooManyTerms a)) = 2
refusal_of (Some (UnknownOp a b)) = 3
refusal_of (Some (IndexTooWide a)) = 4
refusal_of (Some (TooWide a)) = 4
refusal_of (Some NoElementWidth) = 4
refusal_of (Some (LateOperand a b c)) = 5
refusal_of (Some (StrayField a b)) = 5
refusal_of (Some (WrongSort a b c d)) = 6
refusal_of (Some (ConstantTooLarge a b c)) = 7
refusal_of (Some (SlotTooLarge a)) = 7
refusal_of (Some (MarkTooLarge a)) = 7
refusal_of (Some (OtherSort a b c d)) = 8
refusal_of (Some (OtherMark a b c d)) = 8
refusal_of (Some (TooManyStores a)) = 9
refusal_of (Some (RuleNotBool a)) = 10
refusal_of (Some (UnevenCells a)) = 11
refusal_of (Some (NoValue a b)) = 12
refusal_of (Some (ValueTooLarge a b c d)) = 13
refusal_of (Some (NotAnArray a)) = 14
refusal_of (Some (CellIndexTooLarge a b c)) = 15
refusal_of (Some (CellValueTooLarge a b c)) = 15
refusal_of (Some (CutLine a)) = 16
refusal_of (Some (UnknownKind a)) = 16
refusal_of (Some (ReversedSlots a b)) = 16
refusal_of (Some (LineSlotTooLarge a)) = 16
refusal_of (Some (AllowanceTooSmall a b)) = 23

-- what is told is a reason for that very number
abbrev pub OwnReasons : Type 0
OwnReasons = (t sheet values cells : List ℕ) (allowance number i : ℕ) (d : Option Reason) → FirstFails (reasons t sheet values cells allowance number i) d → refusal_of d ≡ number

-- the most that is told to fit a width up to 32 is what fits
abbrev pub MostFits : Type 0
MostFits = (n v : ℕ) → n ≤ 32 → fits n v ≡ leb v (most n)
