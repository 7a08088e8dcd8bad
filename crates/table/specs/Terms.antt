-- A table of terms: paper 01, "A term". A term is six numbers; sorts are pairs of widths.
-- Assumes nothing.
use Rattle.std.specs.Prelude.{Bool, ◌&&◌, List, ℕ, ◌+◌, ◌*◌, ◌/◌, ◌<◌, eqb, ltb, length, get_or}
use Rattle.table.specs.declared.words.Sort.{Sort}
use Rattle.table.specs.declared.words.Term.{Term}

-- the numbers of a term
abbrev pub words : ℕ
words = 6

-- the count of terms
abbrev pub terms : List ℕ → ℕ
terms t = length t / words

abbrev pub word_at : List ℕ → ℕ → ℕ → ℕ
word_at t k j = get_or t (k * words + j) 0

abbrev pub sort_at : List ℕ → ℕ → Sort
sort_at t k = record { m = word_at t k 1; n = word_at t k 2 }

-- term k: op, index width m and width n (its sort), fields p, q, r
abbrev pub term_at : List ℕ → ℕ → Term
term_at t k =
    record {
      op = word_at t k 0;
      sort = sort_at t k;
      p = word_at t k 3;
      q = word_at t k 4;
      r = word_at t k 5;
    }

-- a table has term k whole; it has the term's sort
abbrev pub HasTerm : List ℕ → ℕ → Type 0
HasTerm t k = k * words + 5 < length t

abbrev pub HasSort : List ℕ → ℕ → Type 0
HasSort t k = k * words + 2 < length t

-- the sorts: Boolean (0, 0); vector (0, n); array (m, n)
abbrev pub boolean : Sort → Bool
boolean s = eqb s.m 0 && eqb s.n 0

abbrev pub vector : Sort → Bool
vector s = eqb s.m 0 && ltb 0 s.n

abbrev pub array : Sort → Bool
array s = ltb 0 s.m

-- no array
abbrev pub scalar : Sort → Bool
scalar s = eqb s.m 0

-- vector w
abbrev pub vector_of : ℕ → Sort → Bool
vector_of w s = eqb s.m 0 && eqb s.n w

abbrev pub same_sort : Sort → Sort → Bool
same_sort a b = eqb a.m b.m && eqb a.n b.n
