-- The group of one term, as each way of the code writes it.
-- Assumes nothing.
use mathlib.Core.Path.{◌≡◌, refl, sym, ap, ap₂, subst, ◌∙◌}
use mathlib.Core.Bool.{true, false, ◌&&◌}
use mathlib.Core.List.{List, []}
use Prim.Native.Nat.{ℕ, suc, ◌+◌, ◌≤◌, ◌<◌}
use native.Mathlib.Nat.{add-zero}
use native.Mathlib.Omega.{arith}
use lib.ListN.{length, get_or}
use Rattle.ops.specs.declared.Op.{Op}
use Rattle.ops.specs.declared.Op.TheVariants.{Constant, Variable, Apply, Ite, Select, Store, Unknown}
use Rattle.ops.specs.Numbers.{op_of}
use Rattle.ops.specs.Meaning.{Operation}
use Rattle.ops.specs.Ranks.{FunctionRank, arity}
use Rattle.ops.proofs.Booleans.{and_parts}
use Rattle.table.specs.declared.words.Term.{Term}
use Rattle.table.specs.Terms.{terms, term_at, sort_at, array}
use Rattle.table.specs.Ranks.{rank_of, fields_of, picks}
use Rattle.table.specs.Faults.{is_choice, placed_as}
use Rattle.table.specs.WellFormed.{WellFormed}
use Rattle.table.proofs.SoundTerms.{n_most_at}
use Rattle.table.proofs.OperandSorts.{two_placed}
use Rattle.sheets.specs.Marks.{own_marks}
use Rattle.groups.specs.declared.groups.Written.{Written}
use Rattle.groups.specs.declared.kinds.GroupKind.{GroupKind}
use Rattle.groups.specs.declared.kinds.GroupKind.TheVariants.{Literal, Input, Unary, Strict, Conjunction, Disjunction, Implication, Zero, Ones, Bounds, SignedBounds, Fixed, Shift, Choice, Read, Write}
use Rattle.groups.specs.FunctionGroups.{FunctionGroup, function_group, group_kind, kind_of}
use Rattle.groups.specs.FunctionGroups.FunctionGroup.{unary, strict, conjunction, disjunction, implication, by_zero, by_ones, by_bounds, by_signed, by_fixed, shift}
use Rattle.groups.specs.Groups.{choice_group}
use Rattle.groups.specs.Code.Writing.{placed_all, placed_from, Numbered, after, written}
use Rattle.groups.specs.Plans.{Plan, last_of, plan_by, plan_in, next, plans, plan_at}
use Rattle.groups.proofs.GroupSizes.{size_small, plan_below, next_more}
use Rattle.groups.proofs.ReadGroups.{Ready, recorded, choice_op}

-- of the kinds that a single operator has, a choice is 1 and a read 2
row : GroupKind → ℕ
row Literal = 0
row Input = 0
row Unary = 0
row Strict = 0
row Conjunction = 0
row Disjunction = 0
row Implication = 0
row Zero = 0
row Ones = 0
row Bounds = 0
row SignedBounds = 0
row Fixed = 0
row Shift = 0
row Choice = 1
row Read = 2
row Write = 0

function_row : {o : Operation} {r : FunctionRank (arity o)} (g : FunctionGroup o r) → row (group_kind g) ≡ 0
unfolding row
function_row unary = refl
function_row strict = refl
function_row conjunction = refl
function_row disjunction = refl
function_row implication = refl
function_row by_zero = refl
function_row by_ones = refl
function_row by_bounds = refl
function_row by_signed = refl
function_row by_fixed = refl
function_row shift = refl

choice-kind : (op : Op) → row (kind_of op) ≡ 1 → op ≡ Ite
unfolding row
choice-kind Constant e = absurd (omega (arith, e))
choice-kind Variable e = absurd (omega (arith, e))
choice-kind (Apply f) e = absurd (omega (arith, function_row (function_group f), e))
choice-kind Ite e = refl
choice-kind Select e = absurd (omega (arith, e))
choice-kind Store e = absurd (omega (arith, e))
choice-kind Unknown e = absurd (omega (arith, e))

read-kind : (op : Op) → row (kind_of op) ≡ 2 → op ≡ Select
unfolding row
read-kind Constant e = absurd (omega (arith, e))
read-kind Variable e = absurd (omega (arith, e))
read-kind (Apply f) e = absurd (omega (arith, function_row (function_group f), e))
read-kind Ite e = absurd (omega (arith, e))
read-kind Select e = refl
read-kind Store e = absurd (omega (arith, e))
read-kind Unknown e = absurd (omega (arith, e))

-- term i, of a kind, where its group is written: conditions has the numbers of those before it
pub record Here (w conditions : List ℕ) (b i yes : ℕ) (x : Term) (kind : GroupKind) : Type 0 where
  pub formed : WellFormed 512 w
  pub numbered : Numbered w conditions
  pub all : i ≡ length conditions
  pub inside : i < terms w
  pub yes_is : yes ≡ terms w
  pub b_is : b ≡ next w (plans w own_marks i)
  pub is : x ≡ term_at w i
  pub kind_is : kind ≡ kind_of (op_of x.op)

module _ {w conditions : List ℕ} {b i yes : ℕ} {x : Term} {kind : GroupKind} (here : Here w conditions b i yes x kind) where
  abbrev before : ℕ → Plan
  before k = plan_in (plans w own_marks i) k

  abbrev pub planned : GroupKind → Plan
  planned l = plan_by own_marks yes (yes + 1) before b (sort_at w x.p).n x l

  -- the number that conditions has of an operand
  number_in : (k : ℕ) {c : ℕ} → c ≡ get_or conditions k 0 → c ≡ (before k).condition
  number_in k e = e ∙ recorded w conditions here.numbered k ∙ ap (λ (n : ℕ). (plan_in (plans w own_marks n) k).condition) (sym here.all)

  plan_is : (l : GroupKind) → kind ≡ l → planned l ≡ plan_at w own_marks i
  plan_is l e =
      ap planned (sym e ∙ here.kind_is)
      ∙ ap (λ (y : Term). plan_by own_marks yes (yes + 1) before b (sort_at w y.p).n y (kind_of (op_of y.op))) here.is
      ∙ ap₂ (λ (n s : ℕ). plan_by own_marks n (n + 1) before s (sort_at w (term_at w i).p).n (term_at w i) (kind_of (op_of (term_at w i).op))) here.yes_is here.b_is

  written_is : (l : GroupKind) → kind ≡ l → (r : Written) → r.condition ≡ (planned l).condition → r.next ≡ b + length (planned l).group → r ≡ written w i
  written_is l e r c n =
      let condition : r.condition ≡ (plan_at w own_marks i).condition = c ∙ ap (λ (y : Plan). y.condition) (plan_is l e) in
      let next_is : r.next ≡ next w (plans w own_marks (suc i)) =
      n ∙ ap₂ (λ (s : ℕ) (y : Plan). s + length y.group) here.b_is (plan_is l e) ∙ sym (next_more w i) in
      λ k. record { condition = condition k; next = next_is k }

  -- a group g, whose last is the condition
  pub grows : (l : GroupKind) → kind ≡ l → {g : List Term} → g ≡ (planned l).group → (planned l).condition ≡ last_of b (planned l).group → {r : Written} (room : List ℕ) {last : List ℕ}
      → (r ≡ after b g) × (last ≡ placed_all room b g) → (r ≡ written w i) × (last ≡ placed_all room b (plan_at w own_marks i).group)
  grows l e {g} same c {r} room {last} (answer, wrote) = (
    written_is l e r (ap (λ (y : Written). y.condition) answer ∙ ap (last_of b) same ∙ sym c) (ap (λ (y : Written). y.next) answer ∙ ap (λ (y : List Term). b + length y) same),
    wrote ∙ ap (placed_all room b) (same ∙ ap (λ (y : Plan). y.group) (plan_is l e)),
  )

  -- the numbers cp and cq of two operands' conditions
  pub both_are : (g : ℕ → ℕ → List Term) {cp cq : ℕ} → cp ≡ get_or conditions x.p 0 → cq ≡ get_or conditions x.q 0 → g cp cq ≡ g (before x.p).condition (before x.q).condition
  both_are g p q = ap₂ g (number_in x.p p) (number_in x.q q)

  pub binary : (l : GroupKind) → kind ≡ l → (g : ℕ → ℕ → List Term) → g (before x.p).condition (before x.q).condition ≡ (planned l).group
      → (planned l).condition ≡ last_of b (planned l).group → {cp cq : ℕ} → cp ≡ get_or conditions x.p 0 → cq ≡ get_or conditions x.q 0 → {r : Written} (room : List ℕ) {last : List ℕ}
      → (r ≡ after b (g cp cq)) × (last ≡ placed_all room b (g cp cq)) → (r ≡ written w i) × (last ≡ placed_all room b (plan_at w own_marks i).group)
  binary l e g same c p q room h = grows l e (both_are g p q ∙ same) c room h

  -- nothing added
  pub stays : (l : GroupKind) → kind ≡ l → (planned l).group ≡ [] → {c : ℕ} → c ≡ (planned l).condition → {r : Written} (room : List ℕ)
      → r ≡ record { condition = c; next = b } → (r ≡ written w i) × (room ≡ placed_all room b (plan_at w own_marks i).group)
  unfolding placed_from
  stays l e none is {r} room answer = (
    written_is l e r (ap (λ (y : Written). y.condition) answer ∙ is) (ap (λ (y : Written). y.next) answer ∙ sym (add-zero b) ∙ sym (ap (λ (y : List Term). b + length y) none)),
    sym (ap (placed_all room b) (sym (ap (λ (y : Plan). y.group) (plan_is l e)) ∙ none)),
  )

  -- a condition of the operand's
  pub unary_is : {c : ℕ} → c ≡ get_or conditions x.p 0 → c ≡ (planned Unary).condition
  unfolding plan_by
  unary_is is = number_in x.p is

  -- a choice between arrays adds nothing
  pub choice_stays : is_choice x ≡ true → {r : Written} (room : List ℕ) → r ≡ record { condition = 0; next = b } → (r ≡ written w i) × (room ≡ placed_all room b (plan_at w own_marks i).group)
  unfolding plan_by
  choice_stays c room answer =
      let parts = and_parts (picks (op_of x.op)) (array x.sort) c in
      stays Choice (here.kind_is ∙ ap kind_of (choice_op (op_of x.op) parts.0)) (rw parts.1) (rw parts.1) room answer

  -- any other has three operands
  pub choice_grows : kind ≡ Choice → is_choice x ≡ false → {cp cq cr : ℕ} → cp ≡ get_or conditions x.p 0 → cq ≡ get_or conditions x.q 0 → cr ≡ get_or conditions x.r 0 → {r : Written} (room : List ℕ) {last : List ℕ}
      → (r ≡ after b (choice_group b x.p x.q x.r cp cq cr)) × (last ≡ placed_all room b (choice_group b x.p x.q x.r cp cq cr))
      → (r ≡ written w i) × (last ≡ placed_all room b (plan_at w own_marks i).group)
  unfolding plan_by row
  choice_grows e none p q r room h =
      let op : op_of x.op ≡ Ite = choice-kind (op_of x.op) (ap row (sym here.kind_is ∙ e)) in
      let scalars : array x.sort ≡ false = ap (λ (o : Op). picks o && array x.sort) (sym op) ∙ none in
      grows Choice e
      (rw scalars (λ j. choice_group b x.p x.q x.r (number_in x.p p j) (number_in x.q q j) (number_in x.r r j)))
      (rw scalars) room h

  -- a read's array is an earlier term
  read_below : kind ≡ Read → x.p < length conditions
  unfolding row
  read_below e =
      let op : op_of x.op ≡ Select = read-kind (op_of x.op) (ap row (sym here.kind_is ∙ e)) in
      let op_at : op_of (term_at w i).op ≡ Select = ap (λ (y : Term). op_of y.op) (sym here.is) ∙ op in
      let low : (term_at w i).p < i = (two_placed i (term_at w i) (subst (λ (o : Op). placed_as (fields_of (rank_of o)) i (term_at w i) ≡ true) op_at (here.formed.sound i here.inside).is_placed)).0 in
      subst (λ (y : Term). y.p < length conditions) (sym here.is) (omega (arith, here.all))

  -- its group
  pub read_is : kind ≡ Read → {cq : ℕ} → cq ≡ get_or conditions x.q 0 → (plan_at w own_marks x.p).read_group b x.q cq ≡ (planned Read).group
  unfolding plan_by
  read_is e is =
      ap₂ (λ (y : Plan) (n : ℕ). y.read_group b x.q n) (sym (plan_below w own_marks i x.p (omega (arith, read_below e, here.all)))) (number_in x.q is)

  -- and its numbers stay small
  pub read-ready : kind ≡ Read → b ≤ 79000 → Ready w conditions b x.p
  read-ready e low = (here.formed, (here.numbered, (read_below e, omega (arith, low, size_small w 512 here.formed x.p))))

  pub width-most : x.sort.n ≤ 32
  width-most = subst (λ (y : Term). y.sort.n ≤ 32) (sym here.is) (n_most_at 512 w here.formed i)
