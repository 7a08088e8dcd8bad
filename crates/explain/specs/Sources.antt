-- What a term's value comes from in a setting: the operands that make it, by the values alone.
-- Assumes nothing.
use Rattle.std.specs.Prelude.{Bool, false, cond, not, ◌&&◌, ◌||◌, List, [], ◌∷◌, ℕ, zero, suc, eqb, ltb, get_or}
use Rattle.ops.specs.Meaning.{holds}
use Rattle.table.specs.declared.ranks.Rank.{Rank}
use Rattle.table.specs.declared.ranks.Rank.TheVariants.{Literal, Input, BoolUnary, BoolBinary, Equality, Choice, BvUnary, BvBinary, BvCompare, Read, Write, Other}
use Rattle.table.specs.declared.words.Term.{Term}
use Rattle.table.specs.Terms.{term_at}
use Rattle.table.specs.Faults.{rank, is_store, is_choice}
use Rattle.judge.specs.Code.Labelled.{truth_in}
use Rattle.explain.specs.declared.answers.Shape.{Shape}
use Rattle.explain.specs.declared.answers.Shape.TheVariants.{Leaf, Unary, Binary, Branches, Cell}
use Rattle.explain.specs.declared.answers.Source.{Source}
use Rattle.explain.specs.declared.answers.Source.TheVariants.{Operand, Index, Stored, Test, Array}

-- the term that a source names
abbrev pub term_of : Source → ℕ
term_of (Operand k) = k
term_of (Index held) = held.term
term_of (Stored held) = held.term
term_of (Test held) = held.term
term_of (Array a) = a

-- a store over an earlier term
abbrev pub stacked : Term → ℕ → Bool
stacked x a = is_store x && ltb x.p a

-- a choice between two arrays, both earlier terms
abbrev pub branched : Term → ℕ → Bool
branched x a = is_choice x && ltb x.q a && ltb x.r a

-- a read at index j goes past term a: a store at another index
abbrev pub past : List ℕ → List ℕ → ℕ → ℕ → Bool
past w values a j = let x = term_at w a in stacked x a && not (eqb (get_or values x.q 0) j)

-- the branch that a choice's test picks by its value
abbrev pub picked : List ℕ → Term → ℕ
picked values x = cond (holds (get_or values x.p 0)) x.q x.r

-- a read goes on from term a, past such a store or into a branch of a choice: to the store's array, or to the branch
-- picked
abbrev pub goes : List ℕ → List ℕ → ℕ → ℕ → Bool
goes w values a j = past w values a j || branched (term_at w a) a

abbrev pub next : List ℕ → List ℕ → ℕ → ℕ
next w values a = let x = term_at w a in cond (is_store x) x.p (picked values x)

-- of term a, x: a store's index, a store's value, a choice's test
abbrev pub index : Term → ℕ → Source
index x a = Index (record { store = a; term = x.q })

abbrev pub stored : Term → ℕ → Source
stored x a = Stored (record { store = a; term = x.r })

abbrev pub test : Term → ℕ → Source
test x a = Test (record { store = a; term = x.p })

-- what it comes from at term a: of a store the index, and at the read's index the value; of a choice the test; else the
-- array itself
abbrev pub here : List ℕ → List ℕ → ℕ → ℕ → List Source
here w values a j =
    let x = term_at w a in
    cond (stacked x a) (index x a ∷ cond (eqb (get_or values x.q 0) j) (stored x a ∷ []) [])
    (cond (branched x a) (test x a ∷ []) (Array a ∷ []))

-- and where it goes on
abbrev pub passing : Term → ℕ → Source
passing x a = cond (is_store x) (index x a) (test x a)

-- from array term a inward, through at most left terms: the index of each store that it goes past, the test of each
-- choice, and what it comes from where it stops
unfoldable pub along_within : ℕ → List ℕ → List ℕ → ℕ → ℕ → List Source
along_within zero w values a j = here w values a j
along_within (suc left) w values a j =
    let beneath = along_within left w values (next w values a) j in
    cond (goes w values a j) (passing (term_at w a) a ∷ beneath) (here w values a j)

-- an array's number falls on the way, so its own is terms enough
abbrev pub along : List ℕ → List ℕ → ℕ → ℕ → List Source
along w values a j = along_within (suc a) w values a j

-- a term by its operands
abbrev pub shape_of : Rank → Shape
shape_of Literal = Leaf
shape_of Input = Leaf
shape_of BoolUnary = Unary
shape_of BoolBinary = Binary
shape_of Equality = Binary
shape_of Choice = Branches
shape_of BvUnary = Unary
shape_of BvBinary = Binary
shape_of BvCompare = Binary
shape_of Read = Cell
shape_of Write = Leaf
shape_of Other = Leaf

-- what the value of term x comes from
abbrev pub support_by : List ℕ → List ℕ → Term → Shape → List Source
support_by w values x Leaf = []
support_by w values x Unary = Operand x.p ∷ []
support_by w values x Binary = Operand x.p ∷ Operand x.q ∷ []
support_by w values x Branches = Operand x.p ∷ Operand (picked values x) ∷ []
support_by w values x Cell = Operand x.q ∷ along w values x.p (get_or values x.q 0)

unfoldable pub support : List ℕ → List ℕ → Term → List Source
support w values x = support_by w values x (shape_of (rank x))

-- whether term i is one of them
unfoldable pub names : List Source → ℕ → Bool
names [] i = false
names (s ∷ rest) i = eqb (term_of s) i || names rest i

-- what the condition of term k fails by: those of its support that are not free
abbrev pub blames : List ℕ → List ℕ → List ℕ → ℕ → ℕ → Bool
blames w values truths k i = names (support w values (term_at w k)) i && not (truth_in truths i)
