-- One number more: the limits on the parts are kept, and a room for all numbers within them is never too short.
-- Assumes nothing.
use Rattle.std.proofs.Common.{◌≡◌, ℕ, zero, suc, ◌+◌, ◌≤◌, ◌<◌, Bool, true, false, cond, ltb, leb, List, [], ◌∷◌, length, get_or, set, Option, Some, None, Result, Ok, Err, refl, sym, subst, arith}
use Rattle.std.proofs.lemmas.List.{get_or-set_same, get_or-set_other}
use Rattle.std.specs.Option.{option_map}
use Rattle.std.specs.Bool.{⊤}
use borrow.Author.Tests.{leb-false, ltb-true, ltb-false}
use Rattle.cases.specs.declared.part.Part.{Part}
use Rattle.cases.specs.declared.part.Part.TheVariants.{Table, Values, Cells, Allowance, Sheet}
use Rattle.cases.specs.declared.error.ErrorKind.{ErrorKind}
use Rattle.cases.specs.declared.error.ErrorKind.TheVariants.{RoomFull, TableFull, OthersFull, SecondAllowance}
use Rattle.cases.specs.declared.parser.Run.{Run}
use Rattle.cases.specs.declared.parser.Parser.{Parser}
use Rattle.cases.specs.Parts.{index}
use Rattle.cases.specs.Parsing.{table_limit, others_limit, size, size_of, others, others_fault, limit, number_fault, until}
use Rattle.cases.specs.Reading.{WithinIf}
use Rattle.cases.proofs.Results.{then_ok, then_err, passed_on, met}

-- Runs

-- what holds of each part's run, and of a new one
pub set_each : (P : Option Run → Type 0) (runs : List (Option Run)) (i j : ℕ) (run : Option Run) → P run → P (get_or runs j None) → P (get_or (set runs i run) j None)
set_each P [] i j run h k = k
set_each P (r ∷ runs) zero zero run h k = h
set_each P (r ∷ runs) zero (suc j) run h k = k
set_each P (r ∷ runs) (suc i) zero run h k = k
set_each P (r ∷ runs) (suc i) (suc j) run h k = set_each P runs i j run h k

-- what holds of the table's run after a part's was changed
pub table_after : (P : Option Run → Type 0) (runs : List (Option Run)) (part : Part) (run : Option Run) → length runs ≡ 5
    → (part ≡ Table → P run) → ((part ≡ Table → ⊥) → P (get_or runs 0 None)) → P (get_or (set runs (index part) run) 0 None)
table_after P runs Table run five f g = subst P (sym (get_or-set_same runs 0 run None (omega arith))) (f refl)
table_after P runs Values run five f g = subst P (sym (get_or-set_other runs 1 0 run None (omega arith))) (g (λ z. cc))
table_after P runs Cells run five f g = subst P (sym (get_or-set_other runs 2 0 run None (omega arith))) (g (λ z. cc))
table_after P runs Allowance run five f g = subst P (sym (get_or-set_other runs 3 0 run None (omega arith))) (g (λ z. cc))
table_after P runs Sheet run five f g = subst P (sym (get_or-set_other runs 4 0 run None (omega arith))) (g (λ z. cc))

-- a part was given, and its numbers go up to n
abbrev pub EndsAt : ℕ → Option Run → Type 0
EndsAt n None = ⊥
EndsAt n (Some run) = run.to ≡ n

pub wider : (run : Option Run) (n m : ℕ) → n ≤ m → WithinIf run n → WithinIf run m
wider None n m b h = tt
wider (Some run) n m b h = record { low = h.low; high = omega (arith, h.high) }

pub grown_within : (run : Option Run) (n : ℕ) → WithinIf run n → WithinIf (option_map (until (n + 1)) run) (n + 1)
grown_within None n h = tt
grown_within (Some run) n h = record { low = omega (arith, h.low, h.high); high = omega arith }

pub grown_size : (run : Option Run) (n : ℕ) → WithinIf run n → EndsAt n run → size (option_map (until (n + 1)) run) ≡ size run + 1
grown_size None n h e = absurd e
grown_size (Some run) n h e = omega (arith, h.low, e)

pub grown_ends : (run : Option Run) (n : ℕ) → EndsAt n run → EndsAt (n + 1) (option_map (until (n + 1)) run)
grown_ends None n e = absurd e
grown_ends (Some run) n e = refl

-- The limits

pub table_few : (p : Parser) (a : ⊤) → limit p Table ≡ Ok a → size_of p Table < table_limit
table_few p a e = passed_on (leb table_limit (size_of p Table)) _ _ a e (λ b _. leb-false table_limit (size_of p Table) b)

others_few_all : (p : Parser) (a : ⊤) → others_fault p ≡ Ok a → others p < others_limit
others_few_all p a e = passed_on (leb others_limit (others p)) _ _ a e (λ b _. leb-false others_limit (others p) b)

pub others_few : (p : Parser) (part : Part) (a : ⊤) → limit p part ≡ Ok a → (part ≡ Table → ⊥) → others p < others_limit
others_few p Table a e ne = absurd (ne refl)
others_few p Values a e ne = others_few_all p a e
others_few p Cells a e ne = others_few_all p a e
others_few p Allowance a e ne = passed_on (ltb 0 (size_of p Allowance)) _ _ a e (λ _ d. others_few_all p a d)
others_few p Sheet a e ne = others_few_all p a e

-- nothing is wrong with a number
pub fits : (p : Parser) (part : Part) (room : ℕ) (a : ⊤) → number_fault p part room ≡ Ok a → (limit p part ≡ Ok tt) × (p.total < room)
fits p part room a e =
    then_ok (limit p part) (λ _. cond (ltb p.total room) (Ok tt) (Err RoomFull)) a e
    (λ x i d. (i, met (ltb p.total room) RoomFull (Ok tt) a d (λ b _. ltb-true p.total room b)))

-- A room for all

not_full : (b : Bool) (kind : ErrorKind) (r : Result ⊤ ErrorKind) → (kind ≡ RoomFull → ⊥) → (r ≡ Err RoomFull → ⊥) → cond b (Err kind) r ≡ Err RoomFull → ⊥
not_full true kind r f g e = f cc
not_full false kind r f g e = g e

others_not : (p : Parser) → others_fault p ≡ Err RoomFull → ⊥
others_not p = not_full (leb others_limit (others p)) OthersFull (Ok tt) (λ z. cc) (λ z. cc)

limit_not : (p : Parser) (part : Part) → limit p part ≡ Err RoomFull → ⊥
limit_not p Table = not_full (leb table_limit (size_of p Table)) TableFull (Ok tt) (λ z. cc) (λ z. cc)
limit_not p Values = others_not p
limit_not p Cells = others_not p
limit_not p Allowance = not_full (ltb 0 (size_of p Allowance)) SecondAllowance (others_fault p) (λ z. cc) (others_not p)
limit_not p Sheet = others_not p

few_enough : (p : Parser) (part : Part) (a : ⊤) → size_of p Table ≤ table_limit → others p ≤ others_limit → limit p part ≡ Ok a → p.total < table_limit + others_limit
few_enough p Table a t o e = let few = table_few p a e in omega arith
few_enough p Values a t o e = let few = others_few p Values a e (λ z. cc) in omega arith
few_enough p Cells a t o e = let few = others_few p Cells a e (λ z. cc) in omega arith
few_enough p Allowance a t o e = let few = others_few p Allowance a e (λ z. cc) in omega arith
few_enough p Sheet a t o e = let few = others_few p Sheet a e (λ z. cc) in omega arith

full_at : {A E : Type 0} (b : Bool) (a : A) (x y : E) → cond b (Ok a) (Err x) ≡ Err y → b ≡ false
full_at true a x y e = absurd cc
full_at false a x y e = refl

pub number_short : (p : Parser) (part : Part) (room : ℕ) → table_limit + others_limit ≤ room → size_of p Table ≤ table_limit → others p ≤ others_limit
    → number_fault p part room ≡ Err RoomFull → ⊥
number_short p part room b t o e =
    then_err (limit p part) (λ _. cond (ltb p.total room) (Ok tt) (Err RoomFull)) RoomFull e
    (limit_not p part)
    (λ a i d. let few = few_enough p part a t o i in let full = ltb-false p.total room (full_at (ltb p.total room) tt RoomFull RoomFull d) in omega arith)
