use Prim.Native.Nat.{ℕ, ◌<◌, ◌≤◌}
use mathlib.Core.Path.{◌≡◌, refl, sym, ap, ◌∙◌}
use mathlib.Core.Bool.{true, false}
use mathlib.Core.List.{List}
use lib.ListN.{length}
use native.Mathlib.Nat.{le_trans}
use native.Mathlib.Omega.{arith}
use lib.Dec.{lit≤}
use Rattle.table.specs.declared.words.Term.{Term}
use Rattle.ops.specs.Numbers.{op_of}
use Rattle.ops.specs.Meaning.{ones}
use Rattle.table.specs.Terms.{terms, term_at, sort_at}
use Rattle.table.specs.WellFormed.{WellFormed}
use Rattle.sheets.specs.Marks.{own_marks}
use Rattle.groups.specs.declared.groups.Written.{Written}
use Rattle.groups.specs.declared.kinds.GroupKind.{GroupKind}
use Rattle.groups.specs.declared.kinds.GroupKind.TheVariants.{Literal, Input, Unary, Strict, Conjunction, Disjunction, Implication, Zero, Ones, Bounds, SignedBounds, Fixed, Shift, Read, Write}
use Rattle.groups.specs.Groups.{strict_group, and_group, or_group, implies_group, absorbing_group, bounds_group, shift_group}
use Rattle.groups.specs.FunctionGroups.{kind_of}
use Rattle.groups.specs.Code.Writing.{Numbered, less_group}
use Rattle.groups.specs.Plans.{plan_by, next, plans}
use Rattle.groups.proofs.TermGroups.{Here, both_are, grows, binary, stays, unary_is, choice_stays, choice_grows, read_is, read-ready, width-most}
use Rattle.groups.proofs.terms.write_group.Goals as goal

-- what is known of term i once its kind is
here-as : {w conditions : List ℕ} {b i yes : ℕ} {x : Term} {kind : GroupKind} → WellFormed 512 w → Numbered w conditions
    → (i ≡ length conditions) × ((i < terms w) × (yes ≡ terms w)) → (b ≡ next w (plans w own_marks i)) × (b ≤ 79000)
    → x ≡ term_at w i → kind ≡ kind_of (op_of x.op) → Here w conditions b i yes x kind
here-as formed numbered at room is kind =
    record { formed = formed; numbered = numbered; all = at.0; inside = at.1.0; yes_is = at.1.1; b_is = room.0; is = is; kind_is = kind }

-- what was written is what the call answered, field by field
answered : {r w v : Written} {B : Type 0} → r ≡ w → (w ≡ v) × B → (r ≡ v) × B
answered e (answer, wrote) = (e ∙ answer, wrote)

-- the table has term i whole
pub term_in-x-requires : goal.term_in-x-requires
term_in-x-requires c = omega (arith, c.requires.i_value.1.0)

pub ones-requires : goal.ones-requires
ones-requires c =
    let here = here-as c.requires.well_formed c.requires.numbered c.requires.i_value c.requires.b_value c.term_in-x.ensures c.kind_of.ensures in
    width-most here

pub less-requires : goal.less-requires
less-requires c = record { well_formed = c.requires.well_formed; b_bound = le_trans c.requires.b_value.1 (lit≤ tt) }

pub less-requires-in-SignedBounds : goal.less-requires-in-SignedBounds
less-requires-in-SignedBounds c = record { well_formed = c.requires.well_formed; b_bound = le_trans c.requires.b_value.1 (lit≤ tt) }

pub ones-requires-in-Fixed : goal.ones-requires-in-Fixed
ones-requires-in-Fixed c =
    let here = here-as c.requires.well_formed c.requires.numbered c.requires.i_value c.requires.b_value c.term_in-x.ensures c.kind_of.ensures in
    width-most here

pub bounds-requires : goal.bounds-requires
bounds-requires c = le_trans c.requires.b_value.1 (lit≤ tt)

pub read_group-requires : goal.read_group-requires
read_group-requires c =
    let here = here-as c.requires.well_formed c.requires.numbered c.requires.i_value c.requires.b_value c.term_in-x.ensures c.kind_of.ensures in
    let ready = read-ready here c.in-Read.is c.requires.b_value.1 in
    record { well_formed = ready.0; numbered = ready.1.0; a_in_bounds = ready.1.1 }

pub returns-then-is_choice : goal.returns-then-is_choice
returns-then-is_choice c =
    let both = choice_stays (here-as c.requires.well_formed c.requires.numbered c.requires.i_value c.requires.b_value c.term_in-x.ensures refl) (sym c.is_choice.ensures ∙ c.if-is_choice.true) c.args.room.now c.taken.ensures in
    record { value = both.0; room_after = both.1 }

pub returns-in-Literal : goal.returns-in-Literal
unfolding plan_by
returns-in-Literal c =
    let here = here-as c.requires.well_formed c.requires.numbered c.requires.i_value c.requires.b_value c.term_in-x.ensures c.kind_of.ensures in
    let both = stays here Literal c.in-Literal.is refl refl c.args.room.now c.taken-in-Literal.ensures in
    record { value = both.0; room_after = both.1 }

pub returns-in-Input : goal.returns-in-Input
unfolding plan_by
returns-in-Input c =
    let here = here-as c.requires.well_formed c.requires.numbered c.requires.i_value c.requires.b_value c.term_in-x.ensures c.kind_of.ensures in
    let both = stays here Input c.in-Input.is refl c.input.ensures c.args.room.now c.taken-in-Input.ensures in
    record { value = both.0; room_after = both.1 }

pub returns-in-Unary : goal.returns-in-Unary
unfolding plan_by
returns-in-Unary c =
    let here = here-as c.requires.well_formed c.requires.numbered c.requires.i_value c.requires.b_value c.term_in-x.ensures c.kind_of.ensures in
    let both = stays here Unary c.in-Unary.is refl (unary_is here c.number_at-cp.ensures) c.args.room.now c.taken-in-Unary.ensures in
    record { value = both.0; room_after = both.1 }

pub returns-in-Strict : goal.returns-in-Strict
unfolding plan_by
returns-in-Strict c =
    let here = here-as c.requires.well_formed c.requires.numbered c.requires.i_value c.requires.b_value c.term_in-x.ensures c.kind_of.ensures in
    let both = binary here Strict c.in-Strict.is (λ m n. strict_group m n) refl refl
    c.number_at-cp.ensures c.number_at-cq.ensures c.args.room.now (c.strict.ensures.value, c.strict.ensures.room_after) in
    record { value = both.0; room_after = both.1 }

pub returns-in-Conjunction : goal.returns-in-Conjunction
unfolding plan_by
returns-in-Conjunction c =
    let here = here-as c.requires.well_formed c.requires.numbered c.requires.i_value c.requires.b_value c.term_in-x.ensures c.kind_of.ensures in
    let both = binary here Conjunction c.in-Conjunction.is (λ m n. and_group c.args.b c.term_in-x.result.p c.term_in-x.result.q m n) refl refl
    c.number_at-cp.ensures c.number_at-cq.ensures c.args.room.now (c.conjunction.ensures.value, c.conjunction.ensures.room_after) in
    record { value = both.0; room_after = both.1 }

pub returns-in-Disjunction : goal.returns-in-Disjunction
unfolding plan_by
returns-in-Disjunction c =
    let here = here-as c.requires.well_formed c.requires.numbered c.requires.i_value c.requires.b_value c.term_in-x.ensures c.kind_of.ensures in
    let both = binary here Disjunction c.in-Disjunction.is (λ m n. or_group c.args.b c.term_in-x.result.p c.term_in-x.result.q m n) refl refl
    c.number_at-cp.ensures c.number_at-cq.ensures c.args.room.now (c.disjunction.ensures.value, c.disjunction.ensures.room_after) in
    record { value = both.0; room_after = both.1 }

pub returns-in-Implication : goal.returns-in-Implication
unfolding plan_by
returns-in-Implication c =
    let here = here-as c.requires.well_formed c.requires.numbered c.requires.i_value c.requires.b_value c.term_in-x.ensures c.kind_of.ensures in
    let both = binary here Implication c.in-Implication.is (λ m n. implies_group c.args.b c.term_in-x.result.p c.term_in-x.result.q m n) refl refl
    c.number_at-cp.ensures c.number_at-cq.ensures c.args.room.now (c.implication.ensures.value, c.implication.ensures.room_after) in
    record { value = both.0; room_after = both.1 }

pub returns-in-Zero : goal.returns-in-Zero
unfolding plan_by
returns-in-Zero c =
    let here = here-as c.requires.well_formed c.requires.numbered c.requires.i_value c.requires.b_value c.term_in-x.ensures c.kind_of.ensures in
    let both = binary here Zero c.in-Zero.is (λ m n. absorbing_group c.args.b c.term_in-x.result.sort.n 0 c.term_in-x.result.p c.term_in-x.result.q m n) refl refl
    c.number_at-cp.ensures c.number_at-cq.ensures c.args.room.now (answered c.apart.ensures (c.absorbing.ensures.value, c.absorbing.ensures.room_after)) in
    record { value = both.0; room_after = both.1 }

pub returns-in-Ones : goal.returns-in-Ones
unfolding plan_by
returns-in-Ones c =
    let here = here-as c.requires.well_formed c.requires.numbered c.requires.i_value c.requires.b_value c.term_in-x.ensures c.kind_of.ensures in
    let group : ℕ → ℕ → ℕ → List Term = λ v m n. absorbing_group c.args.b c.term_in-x.result.sort.n v c.term_in-x.result.p c.term_in-x.result.q m n in
    let both = grows here Ones c.in-Ones.is
    (ap (λ (v : ℕ). group v c.number_at-cp.result c.number_at-cq.result) c.ones.ensures
    ∙ both_are here (group (ones c.term_in-x.result.sort.n)) c.number_at-cp.ensures c.number_at-cq.ensures) refl
    c.args.room.now (answered c.apart-in-Ones.ensures (c.absorbing-in-Ones.ensures.value, c.absorbing-in-Ones.ensures.room_after)) in
    record { value = both.0; room_after = both.1 }

pub returns-in-Bounds : goal.returns-in-Bounds
unfolding plan_by
returns-in-Bounds c =
    let here = here-as c.requires.well_formed c.requires.numbered c.requires.i_value c.requires.b_value c.term_in-x.ensures c.kind_of.ensures in
    let both = binary here Bounds c.in-Bounds.is (λ m n. less_group c.args.b (sort_at c.args.table.now c.term_in-x.result.p).n false c.term_in-x.result m n) refl refl
    c.number_at-cp.ensures c.number_at-cq.ensures c.args.room.now (answered c.apart-in-Bounds.ensures (c.less.ensures.value, c.less.ensures.room_after)) in
    record { value = both.0; room_after = both.1 }

pub returns-in-SignedBounds : goal.returns-in-SignedBounds
unfolding plan_by
returns-in-SignedBounds c =
    let here = here-as c.requires.well_formed c.requires.numbered c.requires.i_value c.requires.b_value c.term_in-x.ensures c.kind_of.ensures in
    let both = binary here SignedBounds c.in-SignedBounds.is (λ m n. less_group c.args.b (sort_at c.args.table.now c.term_in-x.result.p).n true c.term_in-x.result m n) refl refl
    c.number_at-cp.ensures c.number_at-cq.ensures c.args.room.now (answered c.apart-in-SignedBounds.ensures (c.less-in-SignedBounds.ensures.value, c.less-in-SignedBounds.ensures.room_after)) in
    record { value = both.0; room_after = both.1 }

pub returns-in-Fixed : goal.returns-in-Fixed
unfolding plan_by
returns-in-Fixed c =
    let here = here-as c.requires.well_formed c.requires.numbered c.requires.i_value c.requires.b_value c.term_in-x.ensures c.kind_of.ensures in
    let group : ℕ → ℕ → ℕ → List Term = λ v m n. bounds_group c.args.b c.term_in-x.result.sort.n 0 v c.term_in-x.result.p c.term_in-x.result.p m m n in
    let both = grows here Fixed c.in-Fixed.is
    (ap (λ (v : ℕ). group v c.number_at-cp.result c.number_at-cq.result) c.ones-in-Fixed.ensures
    ∙ both_are here (group (ones c.term_in-x.result.sort.n)) c.number_at-cp.ensures c.number_at-cq.ensures) refl
    c.args.room.now (answered c.apart-in-Fixed.ensures (c.bounds.ensures.value, c.bounds.ensures.room_after)) in
    record { value = both.0; room_after = both.1 }

pub returns-in-Shift : goal.returns-in-Shift
unfolding plan_by
returns-in-Shift c =
    let here = here-as c.requires.well_formed c.requires.numbered c.requires.i_value c.requires.b_value c.term_in-x.ensures c.kind_of.ensures in
    let both = binary here Shift c.in-Shift.is (λ m n. shift_group c.args.b c.term_in-x.result.sort.n c.term_in-x.result.q m n) refl refl
    c.number_at-cp.ensures c.number_at-cq.ensures c.args.room.now (c.shift.ensures.value, c.shift.ensures.room_after) in
    record { value = both.0; room_after = both.1 }

pub returns-in-Choice : goal.returns-in-Choice
returns-in-Choice c =
    let here = here-as c.requires.well_formed c.requires.numbered c.requires.i_value c.requires.b_value c.term_in-x.ensures c.kind_of.ensures in
    let both = choice_grows here c.in-Choice.is (sym c.is_choice.ensures ∙ c.if-is_choice.false)
    c.number_at-cp.ensures c.number_at-cq.ensures c.number_at.ensures c.args.room.now (c.choice.ensures.value, c.choice.ensures.room_after) in
    record { value = both.0; room_after = both.1 }

pub returns-in-Read : goal.returns-in-Read
unfolding plan_by
returns-in-Read c =
    let here = here-as c.requires.well_formed c.requires.numbered c.requires.i_value c.requires.b_value c.term_in-x.ensures c.kind_of.ensures in
    let kind = c.in-Read.is in
    let both = grows here Read kind (read_is here kind c.number_at-cq.ensures) refl c.args.room.now (answered c.apart-in-Read.ensures (c.read_group.ensures.value, c.read_group.ensures.room_after)) in
    record { value = both.0; room_after = both.1 }

pub returns-in-Write : goal.returns-in-Write
unfolding plan_by
returns-in-Write c =
    let here = here-as c.requires.well_formed c.requires.numbered c.requires.i_value c.requires.b_value c.term_in-x.ensures c.kind_of.ensures in
    let both = stays here Write c.in-Write.is refl refl c.args.room.now c.taken-in-Write.ensures in
    record { value = both.0; room_after = both.1 }
