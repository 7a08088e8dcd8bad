-- What printing answers and leaves in the room: Req 01, "Errors: evaluate's 1 to 10, then 24".
-- Assumes nothing.
use Rattle.std.specs.Prelude.{Ok, Err, ◌≡◌, Bool, true, cond, ◌||◌, List, ◌++◌, ℕ, eqb, ltb, length, drop, Result}
use Rattle.table.specs.Admission.{and_then, admission_within}
use Rattle.table.specs.Refusals.{between}
use Rattle.table.specs.declared.Refusal.{Refusal}
use Rattle.printer.specs.Printed.{text}

-- the count of bytes, or the first refusal
abbrev pub Printing : Type 0
Printing = Result ℕ Refusal

-- 24 text room too short (place: the bytes needed); else the count of bytes
abbrev pub fitting : ℕ → ℕ → Printing
fitting needed room = cond (ltb room needed) (Err (record { number = 24; place = needed })) (Ok needed)

-- 1 to 10, of a table of up to 80,000 terms; then 24
abbrev pub printing : List ℕ → ℕ → Printing
printing t room = and_then Err (admission_within 80000 t) (fitting (length (text t)) room)

-- the room: its front holds the text, its rest is untouched; a refusal leaves it as it was
abbrev pub room_after : Printing → List ℕ → List ℕ → List ℕ
room_after (Ok n) t room = text t ++ drop (length (text t)) room
room_after (Err r) t room = room

-- Print knows 1 to 10 and 24: none is given on other grounds. Of a text nothing is said.
abbrev pub print_numbers : ℕ → Bool
print_numbers number = between 1 10 number || eqb number 24

abbrev pub NotPrintedBy : (ℕ → Bool) → Printing → Type 0
NotPrintedBy numbers (Ok n) = Unit {0}
NotPrintedBy numbers (Err r) = numbers r.number ≡ true

abbrev pub PrintingNumbers : Type 0
PrintingNumbers = (t : List ℕ) (room : ℕ) → NotPrintedBy print_numbers (printing t room)
