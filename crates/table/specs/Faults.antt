-- What refuses a term: paper 01, "Refused because of the input", 3 to 9, line by line.
-- Assumes nothing.
use Rattle.std.specs.Prelude.{Bool, true, false, not, ◌&&◌, ◌||◌, List, ℕ, zero, suc, ◌+◌, eqb, ltb, leb}
use Rattle.ops.specs.Numbers.{op_of, last_op}
use Rattle.ops.specs.Fits.{fits}
use Rattle.table.specs.declared.ranks.Rank.{Rank}
use Rattle.table.specs.declared.ranks.Rank.TheVariants.{Literal, Input, BoolUnary, BoolBinary, Equality, Choice, BvUnary, BvBinary, BvCompare, Read, Write, Other}
use Rattle.table.specs.declared.ranks.Fields.{Fields}
use Rattle.table.specs.declared.ranks.Fields.TheVariants.{Value, Slot, One, Two, Three}
use Rattle.table.specs.declared.words.Sort.{Sort}
use Rattle.table.specs.declared.words.Term.{Term}
use Rattle.table.specs.Terms.{sort_at, term_at, boolean, vector, scalar, array, vector_of, same_sort}
use Rattle.table.specs.Folds.{any_below}
use Rattle.table.specs.Ranks.{rank_of, fields_of, slotted, immediate, picks, reads, writes}

abbrev pub rank : Term → Rank
rank x = rank_of (op_of x.op)

abbrev pub fields : Term → Fields
fields x = fields_of (rank x)

abbrev pub is_variable : Term → Bool
is_variable x = slotted (op_of x.op)

abbrev pub is_constant : Term → Bool
is_constant x = immediate (op_of x.op)

abbrev pub is_read : Term → Bool
is_read x = reads (op_of x.op)

abbrev pub is_store : Term → Bool
is_store x = writes (op_of x.op)

-- a choice between two arrays
abbrev pub is_choice : Term → Bool
is_choice x = picks (op_of x.op) && array x.sort

-- 3 op over 20
abbrev pub known : Term → Bool
known x = leb x.op last_op

-- 4 not one of the three sorts
abbrev pub width : ℕ → Bool
width n = ltb 0 n && leb n 32

abbrev pub sorted : Sort → Bool
sorted s = boolean s || (eqb s.m 0 && width s.n) || (width s.m && width s.n)

-- 5 an operand not below the term, or an unused field not 0
abbrev pub placed_as : Fields → ℕ → Term → Bool
placed_as Value i x = eqb x.q 0 && eqb x.r 0
placed_as Slot i x = eqb x.r 0
placed_as One i x = ltb x.p i && eqb x.q 0 && eqb x.r 0
placed_as Two i x = ltb x.p i && ltb x.q i && eqb x.r 0
placed_as Three i x = ltb x.p i && ltb x.q i && ltb x.r i

-- 6 sorts not as the op's line asks: x the term's sort, a, b, c those of p, q, r
abbrev pub typed_as : Rank → Sort → Sort → Sort → Sort → Bool
typed_as Literal x a b c = scalar x
typed_as Input x a b c = true
typed_as BoolUnary x a b c = boolean x && boolean a
typed_as BoolBinary x a b c = boolean x && boolean a && boolean b
typed_as Equality x a b c = boolean x && scalar a && same_sort a b
typed_as Choice x a b c = boolean a && same_sort b x && same_sort c x
typed_as BvUnary x a b c = vector x && same_sort a x
typed_as BvBinary x a b c = vector x && same_sort a x && same_sort b x
typed_as BvCompare x a b c = boolean x && vector a && same_sort a b
typed_as Read x a b c = array a && vector_of a.m b && vector_of a.n x
typed_as Write x a b c = array x && same_sort a x && vector_of x.m b && vector_of x.n c
typed_as Other x a b c = true

unfoldable pub typed : List ℕ → Term → Bool
typed t x = typed_as (rank x) x.sort (sort_at t x.p) (sort_at t x.q) (sort_at t x.r)

-- 7 a constant that does not fit, a slot over 255, a mark over 1
abbrev pub valued_as : Fields → Term → Bool
valued_as Value x = fits x.sort.n x.p
valued_as Slot x = leb x.p 255 && leb x.q 1
valued_as One x = true
valued_as Two x = true
valued_as Three x = true

-- 8 an earlier variable has this slot with another sort or mark
abbrev pub conflicts : Term → Term → Bool
conflicts a x = eqb a.p x.p && not (same_sort a.sort x.sort && eqb a.q x.q)

unfoldable pub clash : List ℕ → ℕ → Bool
clash t i = is_variable (term_at t i) && any_below i (λ k. is_variable (term_at t k) && conflicts (term_at t k) (term_at t i))

-- 9 the size of an array term is over 16: of a store 1 more than its operand's, of a choice 1 more than both operands' together,
-- else 0; from the sizes of the terms that it stands on
abbrev pub size_from : (ℕ → ℕ) → Term → Bool → Bool → ℕ
size_from sizes x true choice = suc (sizes x.p)
size_from sizes x false true = suc (sizes x.q + sizes x.r)
size_from sizes x false false = 0

-- counted through at most so many terms in a row
unfoldable pub size_within : ℕ → List ℕ → ℕ → ℕ
size_within zero t k = 0
size_within (suc left) t k = let x = term_at t k in size_from (size_within left t) x (is_store x) (is_choice x)

-- 17 terms in a row are enough: where a term's operands have sizes up to 16, there are no more
abbrev pub size : List ℕ → ℕ → ℕ
size t k = size_within 17 t k

-- a number unless a test is true; then the rest
abbrev pub refuse_unless : ℕ → Bool → ℕ → ℕ
refuse_unless number true rest = rest
refuse_unless number false rest = number

-- of a term x at number i, of a rank: 5, 6 and 7 alone
abbrev pub rank_fault : List ℕ → Rank → ℕ → Term → ℕ
rank_fault t r i x =
    refuse_unless 5 (placed_as (fields_of r) i x)
    (refuse_unless 6 (typed_as r x.sort (sort_at t x.p) (sort_at t x.q) (sort_at t x.r))
    (refuse_unless 7 (valued_as (fields_of r) x)
    0))

-- the lowest number, 3 to 9, that refuses term i, and 0 where none does; clashing says whether 8 applies
unfoldable pub fault_if : List ℕ → ℕ → Bool → ℕ
fault_if t i clashing =
    let x = term_at t i in
    refuse_unless 3 (known x)
    (refuse_unless 4 (sorted x.sort)
    (refuse_unless 5 (placed_as (fields x) i x)
    (refuse_unless 6 (typed t x)
    (refuse_unless 7 (valued_as (fields x) x)
    (refuse_unless 8 (not clashing)
    (refuse_unless 9 (leb (size t i) 16)
    0))))))

unfoldable pub fault : List ℕ → ℕ → ℕ
fault t i = fault_if t i (clash t i)
