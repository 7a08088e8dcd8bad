-- Refusals with what is told of them, worked out from the definitions.
-- Assumes nothing.
use mathlib.Core.Path.{◌≡◌, refl}
use mathlib.Core.List.{List, [], ◌∷◌}
use Prim.Native.Nat.{ℕ}
use Rattle.table.specs.Faults.{typed, clash, size_within, fault_if, fault}
use Rattle.table.specs.Folds.{any_below, first_from}
use Rattle.table.specs.Admission.{refused, scan, admission_within, admission}
use Rattle.setting.specs.Arrays.{array_entry, slot_sort}
use Rattle.setting.specs.Check.{check}
use Rattle.sheets.specs.Check.{sheet_check}
use Rattle.std.proofs.Common.{Some}
use Rattle.diagnosis.specs.declared.reason.Asked.TheVariants.{Exactly}
use Rattle.diagnosis.specs.declared.reason.Part.TheVariants.{P, Q}
use Rattle.diagnosis.specs.declared.reason.Reason.TheVariants.{LateOperand, WrongSort, SlotTooLarge, OtherSort, ValueTooLarge, CellValueTooLarge, CutLine, UnknownKind, ReversedSlots, LineSlotTooLarge}
use Rattle.diagnosis.specs.declared.spots.Section.TheVariants.{Values, Sheet}
use Rattle.diagnosis.specs.declared.spots.Spot.TheVariants.{Number}
use Rattle.diagnosis.specs.Telling.{vector_sort, boolean_sort}
use Rattle.diagnosis.specs.Reasons.{term_reasons, setting_reasons, reasons, diagnosis}
use Rattle.diagnosis.specs.Spots.{spot_at, spot}

-- a variable of slot 300
slot : List ℕ
slot = 1 ∷ 0 ∷ 8 ∷ 300 ∷ 0 ∷ 0 ∷ []

slot-refused : admission slot ≡ refused 7 0
unfolding slot admission_within scan fault fault_if typed clash any_below size_within
slot-refused = refl

slot-told : diagnosis slot [] [] [] 0 7 0 ≡ Some (SlotTooLarge 300)
unfolding slot reasons term_reasons
slot-told = refl

-- a vector, and the conjunction of it with itself
sorts : List ℕ
sorts = 1 ∷ 0 ∷ 8 ∷ 0 ∷ 0 ∷ 0 ∷ 3 ∷ 0 ∷ 0 ∷ 0 ∷ 0 ∷ 0 ∷ []

sorts_refused : admission sorts ≡ refused 6 1
unfolding sorts admission_within scan fault fault_if typed clash any_below size_within
sorts_refused = refl

sorts_told : diagnosis sorts [] [] [] 0 6 1 ≡ Some (WrongSort P 0 (vector_sort 8) (Exactly boolean_sort))
unfolding sorts reasons term_reasons
sorts_told = refl

-- q is term 5
later_told : diagnosis (3 ∷ 0 ∷ 0 ∷ 0 ∷ 0 ∷ 0 ∷ 3 ∷ 0 ∷ 0 ∷ 0 ∷ 5 ∷ 0 ∷ []) [] [] [] 0 5 1 ≡ Some (LateOperand Q 5 1)
unfolding reasons term_reasons
later_told = refl

-- slot 2 as a vector of 8, of 8 again, and Boolean: the first is told
clashing : List ℕ
clashing = 1 ∷ 0 ∷ 8 ∷ 2 ∷ 0 ∷ 0 ∷ 1 ∷ 0 ∷ 8 ∷ 2 ∷ 0 ∷ 0 ∷ 1 ∷ 0 ∷ 0 ∷ 2 ∷ 0 ∷ 0 ∷ []

clashing-refused : admission clashing ≡ refused 8 2
unfolding clashing admission_within scan fault fault_if typed clash any_below size_within
clashing-refused = refl

clashing-told : diagnosis clashing [] [] [] 0 8 2 ≡ Some (OtherSort 0 2 (vector_sort 8) boolean_sort)
unfolding clashing reasons term_reasons first_from
clashing-told = refl

-- a Boolean's value is 2: the value of slot 1 is pointed at
wide_refused : check (1 ∷ 0 ∷ 0 ∷ 1 ∷ 0 ∷ 0 ∷ []) (0 ∷ 2 ∷ []) [] ≡ refused 13 0
unfolding check scan
wide_refused = refl

wide_told : diagnosis (1 ∷ 0 ∷ 0 ∷ 1 ∷ 0 ∷ 0 ∷ []) [] (0 ∷ 2 ∷ []) [] 0 13 0 ≡ Some (ValueTooLarge 1 2 1 boolean_sort)
unfolding reasons setting_reasons
wide_told = refl

wide_spot : spot (1 ∷ 0 ∷ 0 ∷ 1 ∷ 0 ∷ 0 ∷ []) 13 0 ≡ Some (Number Values 1)
unfolding spot_at
wide_spot = refl

-- an array of 8 bits by 4 bits; the cell's value 20 is too large
cell-told : diagnosis (1 ∷ 8 ∷ 4 ∷ 0 ∷ 0 ∷ 0 ∷ []) [] (0 ∷ []) (0 ∷ 200 ∷ 20 ∷ []) 0 15 0 ≡ Some (CellValueTooLarge 20 15 (vector_sort 4))
unfolding reasons setting_reasons slot_sort array_entry
cell-told = refl

-- a line that is right and one whose ends are reversed, though its slot is too large as well; a line whose kind is 2; a cut one
reversed : List ℕ
reversed = 1 ∷ 0 ∷ 3 ∷ 0 ∷ 300 ∷ 299 ∷ []

reversed_refused : sheet_check reversed ≡ refused 16 1
unfolding reversed sheet_check scan
reversed_refused = refl

reversed_told : diagnosis slot reversed [] [] 0 16 1 ≡ Some (ReversedSlots 300 299)
unfolding slot reversed reasons
reversed_told = refl

reversed_spot : spot slot 16 1 ≡ Some (Number Sheet 3)
unfolding spot_at
reversed_spot = refl

lines_told : diagnosis slot (2 ∷ 9 ∷ 300 ∷ []) [] [] 0 16 0 ∷ diagnosis slot (1 ∷ 9 ∷ 300 ∷ []) [] [] 0 16 0 ∷ diagnosis slot (1 ∷ 0 ∷ 3 ∷ 0 ∷ 7 ∷ []) [] [] 0 16 1 ∷ []
    ≡ Some (UnknownKind 2) ∷ Some (LineSlotTooLarge 300) ∷ Some (CutLine 2) ∷ []
unfolding slot reasons
lines_told = refl
