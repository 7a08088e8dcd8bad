-- What parsing answers and leaves in the room: Req 02, "Errors".
-- Assumes nothing.
use Rattle.std.specs.Prelude.{Ok, Err, cond, List, ◌++◌, ℕ, ◌*◌, eqb, ltb, take, drop, Result}
use Rattle.parser.specs.Expressions.{fault_in}
use Rattle.table.specs.Terms.{words}
use Rattle.table.specs.Admission.{and_then, admission}
use Rattle.table.specs.declared.Refusal.{Refusal}
use Rattle.parser.specs.Rules.{rule_of}

-- the count of numbers, or the first refusal
abbrev pub Parsing : Type 0
Parsing = Result ℕ Refusal

abbrev pub not_parsed : ℕ → ℕ → Parsing
not_parsed number place = Err (record { number = number; place = place })

-- the table that was built
abbrev pub built : List ℕ → List ℕ
built text = take ((rule_of text).progress.state.count * words) (rule_of text).room

-- 2 more than 512 terms; the other refusals of the table; 21 the room holds under six numbers a term (place: terms needed); else the
-- count of numbers
abbrev pub tabled : List ℕ → ℕ → ℕ → Parsing
tabled t count room =
    cond (ltb 512 count) (not_parsed 2 0)
    (and_then Err (admission t)
    (cond (ltb room (count * words)) (not_parsed 21 count)
    (Ok (count * words))))

-- 31 to 35 at their word; then the rest
abbrev pub parsing : List ℕ → ℕ → Parsing
parsing text room =
    let s = (rule_of text).progress.state in
    cond (eqb (fault_in s) 0) (tabled (built text) s.count room) (not_parsed (fault_in s) s.at)

-- the room: its front holds the table, its rest is untouched; a refusal leaves it as it was
abbrev pub room_after : Parsing → List ℕ → List ℕ → List ℕ
room_after (Ok n) text room = built text ++ drop n room
room_after (Err r) text room = room

-- how many numbers the room is given: none by a refusal
abbrev pub given_by : Parsing → ℕ
given_by (Ok n) = n
given_by (Err r) = 0
