-- A finished table, what finishing answers and what it leaves in the room: paper 01, "A finished table is", "Results", 21.
-- Assumes nothing.
use Rattle.std.specs.Prelude.{Ok, Err, cond, List, [], ◌∷◌, ◌++◌, ℕ, pred, ◌*◌, ltb, length, drop, Result}
use Rattle.table.specs.declared.words.Term.{Term}
use Rattle.table.specs.Terms.{words, terms}
use Rattle.table.specs.Admission.{and_then, admission}
use Rattle.sheets.specs.Marks.{own_marks}
use Rattle.finish.specs.declared.Extent.{Extent}
use Rattle.table.specs.declared.Refusal.{Refusal}
use Rattle.groups.specs.Added.{and_t, constant_t, flat}
use Rattle.groups.specs.Plans.{groups, plans, plan_at}

-- the number of C(t), of term k
abbrev pub condition_number : List ℕ → ℕ → ℕ
condition_number w k = (plan_at w own_marks k).condition

-- what is added: T; F; the groups in ascending term order; and(rule, C(rule))
abbrev pub added : List ℕ → List Term
added w =
    let rule = pred (terms w) in
    constant_t 0 1 ∷ constant_t 0 0 ∷ (groups (plans w own_marks (terms w)) ++ (and_t rule (condition_number w rule) ∷ []))

-- a finished table: the n terms, and what is added
unfoldable pub finished : List ℕ → List ℕ
finished w = w ++ flat (added w)

-- the extent, or the first refusal
abbrev pub Finishing : Type 0
Finishing = Result Extent Refusal

abbrev pub not_finished : ℕ → ℕ → Finishing
not_finished number place = Err (record { number = number; place = place })

-- the count of terms, the number of C(rule), the number of the last term
abbrev pub extent : List ℕ → Extent
extent w = record { terms = terms (finished w); condition = condition_number w (pred (terms w)); last = pred (terms (finished w)) }

-- 1 to 10; then 21 the finished room holds under six numbers a term (place: terms needed)
abbrev pub finishing : List ℕ → ℕ → Finishing
finishing w room =
    and_then Err (admission w)
    (cond (ltb room (terms (finished w) * words)) (not_finished 21 (terms (finished w)))
    (Ok (extent w)))

-- the room: its front holds the finished table, its rest is untouched; a refusal leaves it as it was
abbrev pub room_after : Finishing → List ℕ → List ℕ → List ℕ
room_after (Ok e) w room = finished w ++ drop (length (finished w)) room
room_after (Err r) w room = room
