-- Which tables share text: Req 01, "Two tables with no marks and no slot used twice share text just where ..".
-- Assumes nothing.
use Rattle.std.specs.Prelude.{◌≡◌, true, false, cond, List, ℕ, pred, ◌+◌, ◌*◌, ◌≤◌, ◌<◌, length}
use Rattle.table.specs.declared.ranks.Fields.{Fields}
use Rattle.table.specs.declared.ranks.Fields.TheVariants.{Value, Slot, One, Two, Three}
use Rattle.table.specs.declared.words.Term.{Term}
use Rattle.table.specs.Terms.{terms, term_at}
use Rattle.table.specs.Faults.{fields, is_variable}
use Rattle.table.specs.WellFormed.{WellFormed}
use Rattle.printer.specs.Printed.{uses, text}

-- no marks
abbrev pub Unmarked : List ℕ → Type 0
Unmarked t = (k : ℕ) → k < terms t → is_variable (term_at t k) ≡ true → (term_at t k).q ≡ 0

-- no slot used twice
abbrev pub UsedOnce : List ℕ → Type 0
UsedOnce t = (s j k : ℕ) → j < terms t → k < terms t → uses (term_at t j) s ≡ true → uses (term_at t k) s ≡ true → j ≡ k

-- a term whose operands follow a map of numbers
abbrev pub moved_as : Fields → (ℕ → ℕ) → Term → Term
moved_as Value f x = x
moved_as Slot f x = x
moved_as One f x = record { op = x.op; sort = x.sort; p = f x.p; q = x.q; r = x.r }
moved_as Two f x = record { op = x.op; sort = x.sort; p = f x.p; q = f x.q; r = x.r }
moved_as Three f x = record { op = x.op; sort = x.sort; p = f x.p; q = f x.q; r = f x.r }

abbrev pub moved : (ℕ → ℕ) → Term → Term
moved f x = moved_as (fields x) f x

-- b is a with its variables in another order over the same places, operands following, a variable that is the rule staying last:
-- a permutation of the numbers below the count of terms, and its inverse
pub record Reordered (a b : List ℕ) : Type 0 where
  pub to : ℕ → ℕ
  pub back : ℕ → ℕ
  pub count : terms a ≡ terms b
  pub within : (k : ℕ) → k < terms a → to k < terms a
  pub back_within : (k : ℕ) → k < terms a → back k < terms a
  pub back_to : (k : ℕ) → k < terms a → back (to k) ≡ k
  pub to_back : (k : ℕ) → k < terms a → to (back k) ≡ k
  pub fixed : (k : ℕ) → k < terms a → is_variable (term_at a k) ≡ false → to k ≡ k
  pub follows : (k : ℕ) → k < terms a → term_at b (to k) ≡ moved to (term_at a k)
  pub last : is_variable (term_at a (pred (terms a))) ≡ true → to (pred (terms a)) ≡ pred (terms a)

-- The theorem: text is shared just by reordered tables.
abbrev pub SharedText : Type 0
SharedText =
    (a b : List ℕ) → WellFormed 80000 a → WellFormed 80000 b → Unmarked a → Unmarked b → UsedOnce a → UsedOnce b
    → (text a ≡ text b → Reordered a b) × (Reordered a b → text a ≡ text b)

-- a term without its mark
abbrev pub without_mark : Term → Term
without_mark x = cond (is_variable x) (record { op = x.op; sort = x.sort; p = x.p; q = 0; r = x.r }) x

-- Marks leave no trace: tables that differ in marks only share text.
pub record SameButMarks (a b : List ℕ) : Type 0 where
  pub count : terms a ≡ terms b
  pub each_term : (k : ℕ) → k < terms a → without_mark (term_at a k) ≡ without_mark (term_at b k)

abbrev pub MarksUnseen : Type 0
MarksUnseen = (a b : List ℕ) → WellFormed 80000 a → WellFormed 80000 b → SameButMarks a b → text a ≡ text b

-- The length: 57 bytes at most declare a slot, 88 define a term, 47 are the other lines.
abbrev pub TextBounded : Type 0
TextBounded = (t : List ℕ) → WellFormed 80000 t → length (text t) ≤ 14639 + 88 * terms t
