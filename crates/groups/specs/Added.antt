-- The kinds of terms that finishing adds, by their numbers in paper 01's table of operators; and terms as a table's numbers.
-- Assumes nothing.
use Rattle.std.specs.Prelude.{List, [], ◌∷◌, ◌++◌, ℕ}
use Rattle.table.specs.declared.words.Term.{Term}

-- a Boolean term
abbrev pub bool_term : ℕ → ℕ → ℕ → ℕ → Term
bool_term op p q r = record { op = op; sort = record { m = 0; n = 0 }; p = p; q = q; r = r }

-- a vector term of width n
abbrev pub vector_term : ℕ → ℕ → ℕ → ℕ → Term
vector_term op n p q = record { op = op; sort = record { m = 0; n = n }; p = p; q = q; r = 0 }

abbrev pub not_t : ℕ → Term
not_t p = bool_term 2 p 0 0

abbrev pub and_t : ℕ → ℕ → Term
and_t p q = bool_term 3 p q 0

abbrev pub or_t : ℕ → ℕ → Term
or_t p q = bool_term 4 p q 0

abbrev pub equal_t : ℕ → ℕ → Term
equal_t p q = bool_term 6 p q 0

abbrev pub choice_t : ℕ → ℕ → ℕ → Term
choice_t p q r = bool_term 7 p q r

abbrev pub less_t : ℕ → ℕ → Term
less_t p q = bool_term 14 p q 0

-- of width n, which is 0 for a Boolean
abbrev pub constant_t : ℕ → ℕ → Term
constant_t n value = vector_term 0 n value 0

-- of width n: array p at index q
abbrev pub read_t : ℕ → ℕ → ℕ → Term
read_t n p q = vector_term 15 n p q

-- a term's numbers, and those of terms one after the other
abbrev pub words_of : Term → List ℕ
words_of x = x.op ∷ x.sort.m ∷ x.sort.n ∷ x.p ∷ x.q ∷ x.r ∷ []

unfoldable pub flat : List Term → List ℕ
flat [] = []
flat (x ∷ xs) = words_of x ++ flat xs
