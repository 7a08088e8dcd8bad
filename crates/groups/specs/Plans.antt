-- Which terms are added for each term, and the number of its condition: a fold over the table. Which terms are marked is a parameter.
-- Assumes nothing.
use Rattle.std.specs.Prelude.{Bool, cond, List, [], ◌∷◌, ◌++◌, ℕ, pred, ◌+◌, length, get_or}
use Rattle.ops.specs.Numbers.{op_of}
use Rattle.ops.specs.Meaning.{ones}
use Rattle.ops.specs.Signed.{greatest, least}
use Rattle.table.specs.declared.words.Term.{Term}
use Rattle.table.specs.Folds.{fold}
use Rattle.table.specs.Terms.{terms, term_at, sort_at, array}
use Rattle.groups.specs.declared.kinds.GroupKind.{GroupKind}
use Rattle.groups.specs.declared.kinds.GroupKind.TheVariants.{Literal, Input, Unary, Strict, Conjunction, Disjunction, Implication, Zero, Ones, Bounds, SignedBounds, Fixed, Shift, Choice, Read, Write}
use Rattle.groups.specs.FunctionGroups.{kind_of}
use Rattle.groups.specs.Groups.{strict_group, and_group, or_group, implies_group, absorbing_group, bounds_group, shift_group, choice_group, variable_group, store_group, array_choice_group}

-- Of a term: the group of terms added for it; the number of C(t); and, of an array, the group of a read of it, from the group's
-- first number, the index's number and that of the index's condition.
pub record Plan : Type 0 where
  pub group : List Term
  pub condition : ℕ
  pub read_group : ℕ → ℕ → ℕ → List Term

-- the number of the last term of a group whose first is b
abbrev pub last_of : ℕ → List Term → ℕ
last_of b group = b + pred (length group)

-- nothing added: C(t) is the term of this number
abbrev pub taken : ℕ → Plan
taken c = record { group = []; condition = c; read_group = λ b j cj. variable_group c cj }

-- an array that is no variable: nothing added, and no C
abbrev pub built : (ℕ → ℕ → ℕ → List Term) → Plan
built read = record { group = []; condition = 0; read_group = read }

-- the plan of term t, whose group's first number is b, from the plans of the terms before it and its first operand's width; yes and no
-- are the numbers of T and F
module _ (marked : Term → Bool) (yes no : ℕ) (plan : ℕ → Plan) (b width : ℕ) (t : Term) where
  abbrev pub cp : ℕ
  cp = (plan t.p).condition

  abbrev pub cq : ℕ
  cq = (plan t.q).condition

  abbrev pub cr : ℕ
  cr = (plan t.r).condition

  -- C(t) is the last of its group
  abbrev pub grown : List Term → Plan
  grown group = record { group = group; condition = last_of b group; read_group = λ s j cj. variable_group (last_of b group) cj }

  -- a read of a store: nine terms after the group of the array beneath
  abbrev pub store_read : ℕ → ℕ → ℕ → List Term
  store_read s j cj =
      let below : List Term = (plan t.p).read_group s j cj in
      below ++ store_group (s + length below) t.sort.n t.p t.q t.r j cq cr cj (last_of s below)

  -- a read of a choice between arrays: eight terms after the groups of both, depth first; nothing is shared
  abbrev pub choice_read : ℕ → ℕ → ℕ → List Term
  choice_read s j cj =
      let q : List Term = (plan t.q).read_group s j cj in
      let r : List Term = (plan t.r).read_group (s + length q) j cj in
      q ++ (r ++ array_choice_group (s + length q + length r) t.sort.n t.p t.q t.r j cp (last_of s q) (last_of (s + length q) r))

  unfoldable pub plan_by : GroupKind → Plan
  plan_by Literal = taken yes
  plan_by Input = taken (cond (marked t) no yes)
  plan_by Unary = taken cp
  plan_by Strict = grown (strict_group cp cq)
  plan_by Conjunction = grown (and_group b t.p t.q cp cq)
  plan_by Disjunction = grown (or_group b t.p t.q cp cq)
  plan_by Implication = grown (implies_group b t.p t.q cp cq)
  plan_by Zero = grown (absorbing_group b t.sort.n 0 t.p t.q cp cq)
  plan_by Ones = grown (absorbing_group b t.sort.n (ones t.sort.n) t.p t.q cp cq)
  plan_by Bounds = grown (bounds_group b width (ones width) 0 t.p t.q cp cq cq)
  plan_by SignedBounds = grown (bounds_group b width (greatest width) (least width) t.p t.q cp cq cq)
  plan_by Fixed = grown (bounds_group b t.sort.n 0 (ones t.sort.n) t.p t.p cp cp cq)
  plan_by Shift = grown (shift_group b t.sort.n t.q cp cq)
  plan_by Choice = cond (array t.sort) (built choice_read) (grown (choice_group b t.p t.q t.r cp cq cr))
  plan_by Read = grown ((plan t.p).read_group b t.q cq)
  plan_by Write = built store_read

abbrev pub plan_in : List Plan → ℕ → Plan
plan_in ps k = get_or ps k (taken 0)

-- the groups one after the other
unfoldable pub groups : List Plan → List Term
groups [] = []
groups (x ∷ xs) = x.group ++ groups xs

-- the n terms; T; F; then the groups
abbrev pub next : List ℕ → List Plan → ℕ
next w ps = terms w + 2 + length (groups ps)

abbrev pub plan_of : List ℕ → (Term → Bool) → List Plan → Term → Plan
plan_of w marked ps t = plan_by marked (terms w) (terms w + 1) (plan_in ps) (next w ps) (sort_at w t.p).n t (kind_of (op_of t.op))

-- the plans of the first k terms
abbrev pub plans : List ℕ → (Term → Bool) → ℕ → List Plan
plans w marked k = fold (λ ps i. plan_of w marked ps (term_at w i)) k

-- the plan of term k
abbrev pub plan_at : List ℕ → (Term → Bool) → ℕ → Plan
plan_at w marked k = plan_of w marked (plans w marked k) (term_at w k)
