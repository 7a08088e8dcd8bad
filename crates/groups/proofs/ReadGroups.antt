-- The group of a read, as each way of the code writes it.
-- Assumes nothing.
use mathlib.Core.Path.{◌≡◌, refl, sym, ap, ap₂, subst, ◌∙◌}
use mathlib.Core.Bool.{Bool, true, false, ◌&&◌}
use mathlib.Core.List.{List, ◌++◌}
use Prim.Native.Nat.{ℕ, suc, pred, ◌+◌, ◌*◌, ◌≤◌, ◌<◌}
use native.Mathlib.Omega.{arith}
use lib.ListN.{length, get_or, length-append}
use Rattle.ops.specs.declared.Op.{Op}
use Rattle.ops.specs.declared.Op.TheVariants.{Constant, Variable, Apply, Ite, Select, Store, Unknown}
use Rattle.ops.specs.Numbers.{op_of}
use Rattle.ops.specs.Meaning.{Operation}
use Rattle.ops.specs.Ranks.{FunctionRank, arity}
use Rattle.ops.proofs.Booleans.{never, and_parts}
use Rattle.table.specs.declared.words.Term.{Term}
use Rattle.table.specs.Terms.{terms, term_at, sort_at, array}
use Rattle.table.specs.Ranks.{rank_of, fields_of, picks, writes}
use Rattle.table.specs.Faults.{is_store, is_choice, placed_as, size}
use Rattle.table.specs.WellFormed.{WellFormed}
use Rattle.table.proofs.FoldLaws.{map-fold_in}
use Rattle.table.proofs.OperandSorts.{is_known, op_at, placing_as, three_placed}
use Rattle.table.proofs.Stacks.{by_shape, choice_no-store}
use Rattle.sheets.specs.Marks.{own_marks}
use Rattle.groups.specs.declared.groups.Written.{Written}
use Rattle.groups.specs.Code.Writing.{placed_all, Numbered, after}
use Rattle.groups.specs.FunctionGroups.{FunctionGroup, function_group, group_kind, kind_of}
use Rattle.groups.specs.FunctionGroups.FunctionGroup.{unary, strict, conjunction, disjunction, implication, by_zero, by_ones, by_bounds, by_signed, by_fixed, shift}
use Rattle.groups.specs.Groups.{variable_group, store_group, array_choice_group}
use Rattle.groups.specs.Plans.{Plan, last_of, taken, plan_by, plan_in, plan_of, next, plans, plan_at}
use Rattle.groups.proofs.GroupSizes.{size_is, plan_below, read-size}
use Rattle.groups.proofs.Rooms.{laid_append}

-- conditions has the numbers that the plans so far have
pub recorded : (w conditions : List ℕ) → Numbered w conditions → (i : ℕ) → get_or conditions i 0 ≡ (plan_in (plans w own_marks (length conditions)) i).condition
recorded w conditions h i =
    ap (λ (l : List ℕ). get_or l i 0) h.is
    ∙ map-fold_in (λ ps k. plan_of w own_marks ps (term_at w k)) (λ x. x.condition) (taken 0) (length conditions) i

-- that of each term before this one
number_is : (w conditions : List ℕ) → Numbered w conditions → (i : ℕ) → i < length conditions → get_or conditions i 0 ≡ (plan_at w own_marks i).condition
number_is w conditions h i b = recorded w conditions h i ∙ ap (λ (x : Plan). x.condition) (plan_below w own_marks (length conditions) i b)

-- any other term's read is and(C(v), C(j))
module _ (marked : Term → Bool) (yes no : ℕ) (plan : ℕ → Plan) (b width : ℕ) (t : Term) (s j cj : ℕ) where
  function_end : {o : Operation} {r : FunctionRank (arity o)} (g : FunctionGroup o r)
      → variable_group (plan_by marked yes no plan b width t (group_kind g)).condition cj ≡ (plan_by marked yes no plan b width t (group_kind g)).read_group s j cj
  unfolding plan_by
  function_end unary = refl
  function_end strict = refl
  function_end conjunction = refl
  function_end disjunction = refl
  function_end implication = refl
  function_end by_zero = refl
  function_end by_ones = refl
  function_end by_bounds = refl
  function_end by_signed = refl
  function_end by_fixed = refl
  function_end shift = refl

  end_by : (op : Op) → is_known op ≡ true → writes op ≡ false → picks op && array t.sort ≡ false
      → variable_group (plan_by marked yes no plan b width t (kind_of op)).condition cj ≡ (plan_by marked yes no plan b width t (kind_of op)).read_group s j cj
  unfolding plan_by is_known
  end_by Constant k e a = refl
  end_by Variable k e a = refl
  end_by (Apply f) k e a = function_end (function_group f)
  end_by Ite k e a = rw a
  end_by Select k e a = refl
  end_by Store k e a = never (sym e)
  end_by Unknown k e a = never k

  -- a store's: the group beneath and nine terms
  store_by : (below : List Term) (ci ce : ℕ) → (plan t.p).read_group s j cj ≡ below → (plan t.q).condition ≡ ci → (plan t.r).condition ≡ ce
      → (plan_by marked yes no plan b width t (kind_of Store)).read_group s j cj ≡ below ++ store_group (s + length below) t.sort.n t.p t.q t.r j ci ce cj (last_of s below)
  unfolding plan_by
  store_by below ci ce e f g = rw (e, f, g)

  -- a choice's: both groups and eight terms
  choice_by : (q r : List Term) (cc : ℕ) → array t.sort ≡ true → (plan t.q).read_group s j cj ≡ q → (plan t.r).read_group (s + length q) j cj ≡ r → (plan t.p).condition ≡ cc
      → (plan_by marked yes no plan b width t (kind_of Ite)).read_group s j cj
      ≡ q ++ (r ++ array_choice_group (s + length q + length r) t.sort.n t.p t.q t.r j cc (last_of s q) (last_of (s + length q) r))
  unfolding plan_by
  choice_by q r cc a e f g = rw (a, e, f, g)

store_op : (op : Op) → writes op ≡ true → op ≡ Store
store_op Constant e = never e
store_op Variable e = never e
store_op (Apply f) e = never e
store_op Ite e = never e
store_op Select e = never e
store_op Store e = refl
store_op Unknown e = never e

pub choice_op : (op : Op) → picks op ≡ true → op ≡ Ite
choice_op Constant e = never e
choice_op Variable e = never e
choice_op (Apply f) e = never e
choice_op Ite e = refl
choice_op Select e = never e
choice_op Store e = never e
choice_op Unknown e = never e

-- A group written from b on: what is answered, and the room

abbrev Wrote : List ℕ → ℕ → List Term → Written → List ℕ → Type 0
Wrote room b xs r last = (r ≡ after b xs) × (last ≡ placed_all room b xs)

-- a group after another
after-append : (b : ℕ) (xs ys : List Term) → 0 < length ys → after (b + length xs) ys ≡ after b (xs ++ ys)
after-append b xs ys some =
    let long : length (xs ++ ys) ≡ length xs + length ys = length-append xs ys in
    let c : b + length xs + pred (length ys) ≡ b + pred (length (xs ++ ys)) = omega arith in
    let n : b + length xs + length ys ≡ b + length (xs ++ ys) = omega arith in
    λ i. record { condition = c i; next = n i }

-- the second by what the first answers
wrote-more : (room : List ℕ) (b : ℕ) (xs : List Term) (ys : Written → List Term) → 0 < length (ys (after b xs)) → {first r : Written} {middle last : List ℕ}
    → Wrote room b xs first middle → Wrote middle first.next (ys first) r last → Wrote room b (xs ++ ys (after b xs)) r last
wrote-more room b xs ys some (answer, wrote) (answer-last, wrote-last) = (
  answer-last ∙ ap (λ (y : Written). after y.next (ys y)) answer ∙ after-append b xs (ys (after b xs)) some,
  wrote-last ∙ ap₂ (λ (l : List ℕ) (y : Written). placed_all l y.next (ys y)) wrote answer ∙ sym (laid_append xs (ys (after b xs)) room b),
)

-- Array a, which is x, as its group is written from b on

-- conditions has the numbers of the terms before the read; the group's numbers stay small
abbrev pub Ready : List ℕ → List ℕ → ℕ → ℕ → Type 0
Ready w conditions b a = (WellFormed 512 w) × ((Numbered w conditions) × ((a < length conditions) × (b + 9 * size w a ≤ 80000)))

module _ (w conditions : List ℕ) (b a j cj : ℕ) (ready : Ready w conditions b a) (x : Term) (here : x ≡ term_at w a) where
  abbrev group : ℕ → ℕ → List Term
  group s k = (plan_at w own_marks k).read_group s j cj

  in_table : {k : ℕ} → k ≤ a → k < terms w
  in_table l = let within : length conditions ≤ terms w = ready.1.0.within in let inside : a < length conditions = ready.1.1.0 in omega arith

  -- the size of a, by that of its operands
  sized : size w a ≡ by_shape x (suc (size w x.p)) (suc (size w x.q + size w x.r)) 0
  sized = size_is w a (ready.0.sound a (in_table (omega arith))).short ∙ ap (λ (t : Term). by_shape t (suc (size w t.p)) (suc (size w t.q + size w t.r)) 0) (sym here)

  -- the number after an earlier array's group
  pub after_read : (n k : ℕ) {y : Written} → y ≡ after n (group n k) → k < a → y.next ≡ n + (1 + 9 * size w k)
  after_read n k e l = ap (λ (z : Written). z.next) e ∙ ap (λ (m : ℕ). n + m) (read-size w own_marks ready.0 k (in_table (omega arith)) n j cj)

  -- the plan as the operator has it
  by_op_lem : (op : Op) → op_of (term_at w a).op ≡ op
      → group b a ≡ (plan_by own_marks (terms w) (terms w + 1) (plan_in (plans w own_marks a)) (next w (plans w own_marks a)) (sort_at w (term_at w a).p).n (term_at w a) (kind_of op)).read_group b j cj
  by_op_lem op e = ap (λ (o : Op). (plan_by own_marks (terms w) (terms w + 1) (plan_in (plans w own_marks a)) (next w (plans w own_marks a)) (sort_at w (term_at w a).p).n (term_at w a) (kind_of o)).read_group b j cj) e

  placing : (op : Op) → op_of (term_at w a).op ≡ op → placed_as (fields_of (rank_of op)) a (term_at w a) ≡ true
  placing op e = placing_as w a (ready.0.sound a (in_table (omega arith))) op e

  number_of : (k : ℕ) → k < a → (plan_in (plans w own_marks a) k).condition ≡ get_or conditions k 0
  number_of k l =
      ap (λ (y : Plan). y.condition) (plan_below w own_marks a k l)
      ∙ sym (number_is w conditions ready.1.0 k (let inside : a < length conditions = ready.1.1.0 in omega arith))

  group_of : (s k : ℕ) → k < a → (plan_in (plans w own_marks a) k).read_group s j cj ≡ group s k
  group_of s k l = ap (λ (y : Plan). y.read_group s j cj) (plan_below w own_marks a k l)

  -- a variable
  pub ends : is_store x ≡ false → is_choice x ≡ false → variable_group (get_or conditions a 0) cj ≡ group b a
  ends s c =
      ap (λ (n : ℕ). variable_group n cj) (number_is w conditions ready.1.0 a ready.1.1.0)
      ∙ end_by own_marks (terms w) (terms w + 1) (plan_in (plans w own_marks a)) (next w (plans w own_marks a)) (sort_at w (term_at w a).p).n (term_at w a) b j cj (op_of (term_at w a).op)
      (op_at w a (ready.0.sound a (in_table (omega arith)))) (ap is_store (sym here) ∙ s) (ap is_choice (sym here) ∙ c)

  -- a store over the array beneath
  module _ (s : is_store x ≡ true) where
    store_is : op_of (term_at w a).op ≡ Store
    store_is = store_op (op_of (term_at w a).op) (ap is_store (sym here) ∙ s)

    store_places : ((term_at w a).p < a) × ((term_at w a).q < a) × ((term_at w a).r < a)
    store_places = three_placed a (term_at w a) (placing Store store_is)

    -- it is an earlier term, and smaller by one
    pub store_falls : (x.p < a) × (size w a ≡ suc (size w x.p))
    store_falls = (subst (λ (t : Term). t.p < a) (sym here) store_places.0, sized ∙ rw s)

    -- conditions has the numbers of its index's and its value's
    pub store-inside : (x.q < length conditions) × (x.r < length conditions)
    store-inside =
        let inside : a < length conditions = ready.1.1.0 in
        let q : x.q < a = subst (λ (t : Term). t.q < a) (sym here) store_places.1 in
        let r : x.r < a = subst (λ (t : Term). t.r < a) (sym here) store_places.2 in
        (omega arith, omega arith)

    abbrev nine : ℕ → ℕ → Written → List Term
    nine ci ce y = store_group y.next x.sort.n x.p x.q x.r j ci ce cj y.condition

    store_group_lem : group b a ≡ group b x.p ++ nine (get_or conditions x.q 0) (get_or conditions x.r 0) (after b (group b x.p))
    store_group_lem =
        by_op_lem Store store_is
        ∙ store_by own_marks (terms w) (terms w + 1) (plan_in (plans w own_marks a)) (next w (plans w own_marks a)) (sort_at w (term_at w a).p).n (term_at w a) b j cj
        (group b (term_at w a).p) (get_or conditions (term_at w a).q 0) (get_or conditions (term_at w a).r 0)
        (group_of b (term_at w a).p store_places.0) (number_of (term_at w a).q store_places.1) (number_of (term_at w a).r store_places.2)
        ∙ ap (λ (t : Term). group b t.p ++ store_group (b + length (group b t.p)) t.sort.n t.p t.q t.r j (get_or conditions t.q 0) (get_or conditions t.r 0) cj (last_of b (group b t.p))) (sym here)

    -- nine terms more; ci and ce are the numbers of the index's and of the value's condition
    pub store_wrote : (room : List ℕ) {below r : Written} {first last : List ℕ} (ci ce : ℕ) → ci ≡ get_or conditions x.q 0 → ce ≡ get_or conditions x.r 0
        → Wrote room b (group b x.p) below first → Wrote first below.next (nine ci ce below) r last → Wrote room b (group b a) r last
    store_wrote room {below} {r} {first} {last} ci ce ci-is ce-is beneath more =
        subst (λ (g : List Term). Wrote room b g r last)
        (ap₂ (λ (m n : ℕ). group b x.p ++ nine m n (after b (group b x.p))) ci-is ce-is ∙ sym store_group_lem)
        (wrote-more room b (group b x.p) (nine ci ce) (omega arith) beneath more)

  -- a choice between two
  module _ (c : is_choice x ≡ true) where
    both : (picks (op_of (term_at w a).op) ≡ true) × (array (sort_at w a) ≡ true)
    both = and_parts (picks (op_of (term_at w a).op)) (array (sort_at w a)) (ap is_choice (sym here) ∙ c)

    choice_is : op_of (term_at w a).op ≡ Ite
    choice_is = choice_op (op_of (term_at w a).op) both.0

    choice_places : ((term_at w a).p < a) × ((term_at w a).q < a) × ((term_at w a).r < a)
    choice_places = three_placed a (term_at w a) (placing Ite choice_is)

    -- they are earlier terms, and smaller by one together
    pub choice_falls : (x.q < a) × (x.r < a) × (size w a ≡ suc (size w x.q + size w x.r))
    choice_falls = (subst (λ (t : Term). t.q < a) (sym here) choice_places.1, subst (λ (t : Term). t.r < a) (sym here) choice_places.2, sized ∙ rw (choice_no-store x c, c))

    -- conditions has the number of its test's
    pub choice-inside : x.p < length conditions
    choice-inside =
        let inside : a < length conditions = ready.1.1.0 in
        let test : x.p < a = subst (λ (t : Term). t.p < a) (sym here) choice_places.0 in
        omega arith

    abbrev eight : ℕ → Written → Written → List Term
    eight cc q r = array_choice_group r.next x.sort.n x.p x.q x.r j cc q.condition r.condition

    -- r's group and the eight, by what q's answers
    abbrev rest : ℕ → Written → List Term
    rest cc q = group q.next x.r ++ eight cc q (after q.next (group q.next x.r))

    choice_group_lem : group b a ≡ group b x.q ++ rest (get_or conditions x.p 0) (after b (group b x.q))
    choice_group_lem =
        by_op_lem Ite choice_is
        ∙ choice_by own_marks (terms w) (terms w + 1) (plan_in (plans w own_marks a)) (next w (plans w own_marks a)) (sort_at w (term_at w a).p).n (term_at w a) b j cj
        (group b (term_at w a).q) (group (b + length (group b (term_at w a).q)) (term_at w a).r) (get_or conditions (term_at w a).p 0) both.1
        (group_of b (term_at w a).q choice_places.1) (group_of (b + length (group b (term_at w a).q)) (term_at w a).r choice_places.2) (number_of (term_at w a).p choice_places.0)
        ∙ ap (λ (t : Term). group b t.q ++ (group (b + length (group b t.q)) t.r ++ array_choice_group (b + length (group b t.q) + length (group (b + length (group b t.q)) t.r)) t.sort.n t.p t.q t.r j (get_or conditions t.p 0) (last_of b (group b t.q)) (last_of (b + length (group b t.q)) (group (b + length (group b t.q)) t.r)))) (sym here)

    -- eight terms more; cc is the number of the test's condition
    pub choice-wrote : (room : List ℕ) {q r t : Written} {first second last : List ℕ} (cc : ℕ) → cc ≡ get_or conditions x.p 0
        → Wrote room b (group b x.q) q first → Wrote first q.next (group q.next x.r) r second → Wrote second r.next (eight cc q r) t last → Wrote room b (group b a) t last
    choice-wrote room {q} {r} {t} {first} {second} {last} cc cc-is of-q of-r more =
        let some : 0 < length (rest cc (after b (group b x.q))) = rw length-append (omega arith) in
        subst (λ (g : List Term). Wrote room b g t last)
        (ap (λ (n : ℕ). group b x.q ++ rest n (after b (group b x.q))) cc-is ∙ sym choice_group_lem)
        (wrote-more room b (group b x.q) (rest cc) some of-q (wrote-more first q.next (group q.next x.r) (eight cc q) (omega arith) of-r more))
