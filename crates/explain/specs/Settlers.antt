-- What settled a term that is free though something beneath it is not.
-- Assumes nothing.
use Rattle.std.specs.Prelude.{Bool, true, false, cond, ◌&&◌, ◌||◌, List, [], ◌∷◌, ℕ, zero, suc, get_or, Option, None, Some, is_some}
use Rattle.std.specs.Option.{option_or}
use Rattle.ops.specs.Numbers.{op_of}
use Rattle.table.specs.declared.words.Term.{Term}
use Rattle.table.specs.Terms.{term_at, sort_at}
use Rattle.table.specs.Faults.{rank}
use Rattle.judge.specs.Code.Labelled.{truth_in}
use Rattle.explain.specs.declared.answers.Shape.{Shape}
use Rattle.explain.specs.declared.answers.Shape.TheVariants.{Leaf, Unary, Binary, Branches, Cell}
use Rattle.explain.specs.declared.answers.Source.{Source}
use Rattle.explain.specs.declared.answers.Source.TheVariants.{Operand, Array}
use Rattle.explain.specs.declared.answers.Settled.{Settled}
use Rattle.explain.specs.declared.answers.Settled.TheVariants.{Alone, Picked, Equal, AtIndex, EqualBeneath, EqualBranches, Unmarked}
use Rattle.explain.specs.Operands.{would_settle}
use Rattle.explain.specs.Sources.{term_of, stacked, branched, past, next, index, stored, test, picked, shape_of}

-- The operands that are not free

-- a source, where its term is not free
abbrev pub unfree : List ℕ → Source → Option Source
unfree truths s = cond (truth_in truths (term_of s)) None (Some s)

abbrev pub unfree_term : List ℕ → ℕ → Option Source
unfree_term truths k = unfree truths (Operand k)

-- at term a, x, of an array: a store's index, or its value; a choice's test; the variable
abbrev pub unfree_here : List ℕ → Term → ℕ → Option Source
unfree_here truths x a =
    cond (stacked x a) (option_or (unfree truths (index x a)) (unfree truths (stored x a))) (cond (branched x a) (unfree truths (test x a)) (unfree truths (Array a)))

-- the first in the whole of array term a, through at most left terms: at a store before what is beneath it, at a choice
-- before its branches, in q before r
unfoldable pub unfree_within : ℕ → List ℕ → List ℕ → ℕ → Option Source
unfree_within zero w truths a = None
unfree_within (suc left) w truths a =
    let x = term_at w a in
    let beneath = unfree_within left w truths x.p in
    let q = unfree_within left w truths x.q in
    let r = unfree_within left w truths x.r in
    option_or (unfree_here truths x a) (cond (stacked x a) beneath (cond (branched x a) (option_or q r) None))

-- an array's number falls on the way, so its own is terms enough
abbrev pub unfree_along : List ℕ → List ℕ → ℕ → Option Source
unfree_along w truths a = unfree_within (suc a) w truths a

-- of p, q, r those that are operands and not free; of a read what is in its array, and its index
abbrev pub unfree_by : List ℕ → List ℕ → Term → Shape → List (Option Source)
unfree_by w truths x Leaf = []
unfree_by w truths x Unary = unfree_term truths x.p ∷ []
unfree_by w truths x Binary = unfree_term truths x.p ∷ unfree_term truths x.q ∷ []
unfree_by w truths x Branches = unfree_term truths x.p ∷ unfree_term truths x.q ∷ unfree_term truths x.r ∷ []
unfree_by w truths x Cell = unfree_along w truths x.p ∷ unfree_term truths x.q ∷ []

unfoldable pub unfree_at : List ℕ → List ℕ → Term → ℕ → Option Source
unfree_at w truths x i = get_or (unfree_by w truths x (shape_of (rank x))) i None

-- some operand is not free
abbrev pub some_unfree : List ℕ → List ℕ → Term → Bool
some_unfree w truths x = is_some (unfree_at w truths x 0) || is_some (unfree_at w truths x 1) || is_some (unfree_at w truths x 2)

-- What settled it

-- operand p, or q where second, is free, and its value settles the operator by itself
abbrev pub settles_alone : List ℕ → List ℕ → List ℕ → Term → Bool → Bool
settles_alone w values truths x second =
    let k = cond second x.q x.p in
    truth_in truths k && would_settle (op_of x.op) (sort_at w x.p).n (get_or values k 0) second

-- a read at index j goes past term a by a free test
abbrev pub freely_past : List ℕ → List ℕ → List ℕ → ℕ → ℕ → Bool
freely_past w values truths j a = past w values a j && truth_in truths (term_at w a).q

-- it goes on from a choice whose test is free
abbrev pub freely_picked : List ℕ → List ℕ → ℕ → Bool
freely_picked w truths a = let x = term_at w a in branched x a && truth_in truths x.p

abbrev pub freely : List ℕ → List ℕ → List ℕ → ℕ → ℕ → Bool
freely w values truths j a = freely_past w values truths j a || freely_picked w truths a

-- from array term a inward, the first that it does not go on from so, within so many terms
unfoldable pub stop_within : ℕ → List ℕ → List ℕ → List ℕ → ℕ → ℕ → ℕ
stop_within zero w values truths j a = a
stop_within (suc left) w values truths j a =
    let beneath = stop_within left w values truths j (next w values a) in
    cond (freely w values truths j a) beneath a

abbrev pub stop_at : List ℕ → List ℕ → List ℕ → ℕ → ℕ → ℕ
stop_at w values truths j a = stop_within (suc a) w values truths j a

-- what settles a read at term a, where it stops
abbrev pub settled_here : List ℕ → List ℕ → ℕ → Settled
settled_here w truths a =
    let x = term_at w a in
    cond (branched x a) (EqualBranches a)
    (cond (stacked x a) (cond (truth_in truths x.q) (AtIndex (record { store = a; term = x.r })) (EqualBeneath (record { store = a; term = x.r }))) (Unmarked a))

-- what settles term x, where it is free and an operand is not
abbrev pub settled_by : List ℕ → List ℕ → List ℕ → Term → Shape → Option Settled
settled_by w values truths x Leaf = None
settled_by w values truths x Unary = None
settled_by w values truths x Binary =
    cond (settles_alone w values truths x false) (Some (Alone x.p)) (cond (settles_alone w values truths x true) (Some (Alone x.q)) None)
settled_by w values truths x Branches = Some (cond (truth_in truths x.p) (Picked x.p (picked values x)) (Equal x.q x.r))
settled_by w values truths x Cell = Some (settled_here w truths (stop_at w values truths (get_or values x.q 0) x.p))

unfoldable pub settler_of : List ℕ → List ℕ → List ℕ → ℕ → Option Settled
settler_of w values truths k =
    let x = term_at w k in
    cond (truth_in truths k && some_unfree w truths x) (settled_by w values truths x (shape_of (rank x))) None
