-- The groups: paper 01, "The condition of each term", line by line. b is the number of a group's first term; p, q, r the operands'
-- numbers and cp, cq, cr those of C(p), C(q), C(r). "It" is the term before.
-- Assumes nothing.
use Rattle.std.specs.Prelude.{List, [], ◌∷◌, ℕ, ◌+◌}
use Rattle.table.specs.declared.words.Term.{Term}
use Rattle.groups.specs.Added.{not_t, and_t, or_t, equal_t, choice_t, less_t, constant_t, read_t}

-- Equal, sum, difference: and(C(p), C(q)).
abbrev pub strict_group : ℕ → ℕ → List Term
strict_group cp cq = and_t cp cq ∷ []

-- And: not p; and(C(p), it); not q; and(C(q), it); or of the second and fourth; and(C(p), C(q)); or of the last two. 7 terms.
abbrev pub and_group : ℕ → ℕ → ℕ → ℕ → ℕ → List Term
and_group b p q cp cq =
    not_t p
    ∷ and_t cp b
    ∷ not_t q
    ∷ and_t cq (b + 2)
    ∷ or_t (b + 1) (b + 3)
    ∷ and_t cp cq
    ∷ or_t (b + 4) (b + 5)
    ∷ []

-- Or: and(C(p), p); and(C(q), q); or of both; and(C(p), C(q)); or of the last two. 5.
abbrev pub or_group : ℕ → ℕ → ℕ → ℕ → ℕ → List Term
or_group b p q cp cq =
    and_t cp p
    ∷ and_t cq q
    ∷ or_t b (b + 1)
    ∷ and_t cp cq
    ∷ or_t (b + 2) (b + 3)
    ∷ []

-- Implies: not p; and(C(p), it); and(C(q), q); or of the second and third; and(C(p), C(q)); or of the last two. 6.
abbrev pub implies_group : ℕ → ℕ → ℕ → ℕ → ℕ → List Term
implies_group b p q cp cq =
    not_t p
    ∷ and_t cp b
    ∷ and_t cq q
    ∷ or_t (b + 1) (b + 2)
    ∷ and_t cp cq
    ∷ or_t (b + 3) (b + 4)
    ∷ []

-- Vector and, product: constant 0 of width n; equal(p, it); and(C(p), it); equal(q, the constant); and(C(q), it); or of the third
-- and fifth; and(C(p), C(q)); or of the last two. 8. Vector or: the same with the constant 2^n - 1.
abbrev pub absorbing_group : ℕ → ℕ → ℕ → ℕ → ℕ → ℕ → ℕ → List Term
absorbing_group b n value p q cp cq =
    constant_t n value
    ∷ equal_t p b
    ∷ and_t cp (b + 1)
    ∷ equal_t q b
    ∷ and_t cq (b + 3)
    ∷ or_t (b + 2) (b + 4)
    ∷ and_t cp cq
    ∷ or_t (b + 5) (b + 6)
    ∷ []

-- Less (paper 02, request 03): constant 2^n - 1 at the operands' width; equal(p, it); and(C(p), it); constant 0; equal(q, it);
-- and(C(q), it); or of the third and sixth; and(C(p), C(q)); or of the last two. 9. Signed less (request 05): the greatest and
-- the least in the places of all ones and 0. Right shift: 0, then all ones, and p for q in the fifth and sixth. So u and v are the
-- constants, s and cs what stands in the fifth and sixth.
abbrev pub bounds_group : ℕ → ℕ → ℕ → ℕ → ℕ → ℕ → ℕ → ℕ → ℕ → List Term
bounds_group b n u v p s cp cs cq =
    constant_t n u
    ∷ equal_t p b
    ∷ and_t cp (b + 1)
    ∷ constant_t n v
    ∷ equal_t s (b + 3)
    ∷ and_t cs (b + 4)
    ∷ or_t (b + 2) (b + 5)
    ∷ and_t cp cq
    ∷ or_t (b + 6) (b + 7)
    ∷ []

-- Shift: constant n of width n; less(q, it); not it; and(C(q), it); and(C(p), C(q)); or of the last two. 6.
abbrev pub shift_group : ℕ → ℕ → ℕ → ℕ → ℕ → List Term
shift_group b n q cp cq =
    constant_t n n
    ∷ less_t q b
    ∷ not_t (b + 1)
    ∷ and_t cq (b + 2)
    ∷ and_t cp cq
    ∷ or_t (b + 3) (b + 4)
    ∷ []

-- Choice: choice(p, C(q), C(r)); and(C(p), it); and(C(q), C(r)); equal(q, r); and of the third and fourth; or of the second and
-- fifth. 6.
abbrev pub choice_group : ℕ → ℕ → ℕ → ℕ → ℕ → ℕ → ℕ → List Term
choice_group b p q r cp cq cr =
    choice_t p cq cr
    ∷ and_t cp b
    ∷ and_t cq cr
    ∷ equal_t q r
    ∷ and_t (b + 2) (b + 3)
    ∷ or_t (b + 1) (b + 4)
    ∷ []

-- Read at index j of variable v: and(C(v), C(j)), called D0.
abbrev pub variable_group : ℕ → ℕ → List Term
variable_group cv cj = and_t cv cj ∷ []

-- Then for each store, index i, value e, over array a: read(a, j); equal(i, j); choice(it, C(e), D below); and(C(i), C(j));
-- and(it, the choice); equal(e, the read); and(C(e), D below); and(it, the equality); or of the fifth and eighth, the new D.
abbrev pub store_group : ℕ → ℕ → ℕ → ℕ → ℕ → ℕ → ℕ → ℕ → ℕ → ℕ → List Term
store_group b n a i e j ci ce cj d =
    read_t n a j
    ∷ equal_t i j
    ∷ choice_t (b + 1) ce d
    ∷ and_t ci cj
    ∷ and_t (b + 3) (b + 2)
    ∷ equal_t e b
    ∷ and_t ce d
    ∷ and_t (b + 6) (b + 5)
    ∷ or_t (b + 4) (b + 7)
    ∷ []

-- Choice by c between arrays a and e, read at j (paper 02, request 07), after the groups of both reads, whose conditions are dq and dr:
-- read(a, j); read(e, j); choice(c, Dq, Dr); and(C(c), it); and(Dq, Dr); equal of the reads; and of the last two; or of the fourth and
-- seventh. 8.
abbrev pub array_choice_group : ℕ → ℕ → ℕ → ℕ → ℕ → ℕ → ℕ → ℕ → ℕ → List Term
array_choice_group b n c a e j cc dq dr =
    read_t n a j
    ∷ read_t n e j
    ∷ choice_t c dq dr
    ∷ and_t cc (b + 2)
    ∷ and_t dq dr
    ∷ equal_t b (b + 1)
    ∷ and_t (b + 4) (b + 5)
    ∷ or_t (b + 3) (b + 6)
    ∷ []
