-- What is proved of the settler, as named statements. The proofs are in proofs/.
-- Assumes nothing.
use Rattle.std.specs.Prelude.{◌≡◌, Bool, true, false, cond, List, ℕ, ◌<◌, get_or, Option, None, Some, is_some}
use Rattle.ops.specs.Numbers.{op_of}
use Rattle.table.specs.declared.words.Term.{Term}
use Rattle.table.specs.Terms.{terms, term_at, sort_at}
use Rattle.table.specs.Faults.{is_variable, is_store, is_choice}
use Rattle.table.specs.WellFormed.{WellFormed}
use Rattle.setting.specs.Interpretation.{Interpretation}
use Rattle.evaluate.specs.Values.{value_at, numbers}
use Rattle.judge.specs.Conditions.{condition_at, truths}
use Rattle.judge.specs.Code.Labelled.{truth_in}
use Rattle.explain.specs.declared.answers.Held.{Held}
use Rattle.explain.specs.declared.answers.Settled.{Settled}
use Rattle.explain.specs.declared.answers.Settled.TheVariants.{Alone, Picked, Equal, AtIndex, EqualBeneath, EqualBranches, Unmarked}
use Rattle.explain.specs.Operands.{would_settle}
use Rattle.explain.specs.Sources.{picked}
use Rattle.explain.specs.Settlers.{some_unfree, freely_past, freely_picked, settler_of}

-- A read at index j comes from array term a to term b: past stores at other indexes, each of which is free, and into the
-- branches that free tests pick.
pub data Reaches (w values truths : List ℕ) (j : ℕ) : ℕ → ℕ → Type 0 where
  arrived : {a : ℕ} → Reaches w values truths j a a
  onward : {a b : ℕ} → freely_past w values truths j a ≡ true → Reaches w values truths j (term_at w a).p b → Reaches w values truths j a b
  inward : {a b : ℕ} → freely_picked w truths a ≡ true → Reaches w values truths j (picked values (term_at w a)) b → Reaches w values truths j a b

module _ (w : List ℕ) (marked : Term → Bool) (I : Interpretation) where
  abbrev pub value : ℕ → ℕ
  value i = get_or (numbers w I (terms w)) i 0

  abbrev pub free : ℕ → Bool
  free i = truth_in (truths w marked I (terms w)) i

  abbrev pub Reached : ℕ → ℕ → ℕ → Type 0
  Reached j a b = Reaches w (numbers w I (terms w)) (truths w marked I (terms w)) j a b

  -- operand i of term k is free, and its value settles the operator with no other operand free
  pub record SaysAlone (k i : ℕ) : Type 0 where
    pub second : Bool
    pub its : i ≡ cond second (term_at w k).q (term_at w k).p
    pub is_free : free i ≡ true
    pub settles : would_settle (op_of (term_at w k).op) (sort_at w (term_at w k).p).n (value i) second ≡ true

  -- the test is free, and so is the branch that it picks: the value is the branch's
  pub record SaysPicked (k i b : ℕ) : Type 0 where
    pub test : i ≡ (term_at w k).p
    pub branch : b ≡ picked (numbers w I (terms w)) (term_at w k)
    pub test-free : free i ≡ true
    pub branch-free : free b ≡ true
    pub same : value k ≡ value b

  -- both branches are free and equal: the value is theirs
  pub record SaysEqual (k b c : ℕ) : Type 0 where
    pub branches : (b ≡ (term_at w k).q) × (c ≡ (term_at w k).r)
    pub first-free : free b ≡ true
    pub second-free : free c ≡ true
    pub equal : value b ≡ value c
    pub same : value k ≡ value b

  -- Of a read of array term a at index j, which gives number:

  -- a store at this index, which is free, holds a free value
  pub record SaysAtIndex (j a number : ℕ) (held : Held) : Type 0 where
    pub reached : Reached j a held.store
    pub store : is_store (term_at w held.store) ≡ true
    pub its : held.term ≡ (term_at w held.store).r
    pub index-free : free (term_at w held.store).q ≡ true
    pub index : value (term_at w held.store).q ≡ j
    pub is_free : free held.term ≡ true
    pub same : number ≡ value held.term

  -- a store whose index is not free holds a free value; what is read beneath it is free, and equal
  pub record SaysEqualBeneath (j a number : ℕ) (held : Held) : Type 0 where
    pub reached : Reached j a held.store
    pub store : is_store (term_at w held.store) ≡ true
    pub its : held.term ≡ (term_at w held.store).r
    pub index-unfree : free (term_at w held.store).q ≡ false
    pub is_free : free held.term ≡ true
    pub beneath_free : (condition_at w marked I (term_at w held.store).p).read_free j true ≡ true
    pub equal : (value_at w I (term_at w held.store).p).cell j ≡ value held.term
    pub same : number ≡ value held.term

  -- a choice between arrays whose test is not free; what is read in its branches is free, and equal
  pub record SaysEqualBranches (j a number b : ℕ) : Type 0 where
    pub reached : Reached j a b
    pub choice : is_choice (term_at w b) ≡ true
    pub test-unfree : free (term_at w b).p ≡ false
    pub first-free : (condition_at w marked I (term_at w b).q).read_free j true ≡ true
    pub second-free : (condition_at w marked I (term_at w b).r).read_free j true ≡ true
    pub equal : (value_at w I (term_at w b).q).cell j ≡ (value_at w I (term_at w b).r).cell j
    pub same : number ≡ (value_at w I (term_at w b).q).cell j

  -- the variable at the end is not marked: what it holds there is read
  pub record SaysUnmarked (j a number b : ℕ) : Type 0 where
    pub reached : Reached j a b
    pub input : is_variable (term_at w b) ≡ true
    pub unmarked : marked (term_at w b) ≡ false
    pub same : number ≡ (value_at w I b).cell j

  -- What the settler of term k says.
  abbrev pub Says : ℕ → Option Settled → Type 0
  Says k None = Unit {0}
  Says k (Some (Alone i)) = SaysAlone k i
  Says k (Some (Picked i b)) = SaysPicked k i b
  Says k (Some (Equal b c)) = SaysEqual k b c
  Says k (Some (AtIndex held)) = SaysAtIndex (value (term_at w k).q) (term_at w k).p (value k) held
  Says k (Some (EqualBeneath held)) = SaysEqualBeneath (value (term_at w k).q) (term_at w k).p (value k) held
  Says k (Some (EqualBranches b)) = SaysEqualBranches (value (term_at w k).q) (term_at w k).p (value k) b
  Says k (Some (Unmarked b)) = SaysUnmarked (value (term_at w k).q) (term_at w k).p (value k) b

-- What the settler says is so: of each term of a well-formed table, by the values and truths of any interpretation
-- under any marks.
abbrev pub SettlerTrue : Type 0
SettlerTrue =
    (limit : ℕ) (w : List ℕ) (marked : Term → Bool) (I : Interpretation) → WellFormed limit w
    → (k : ℕ) → k < terms w → Says w marked I k (settler_of w (numbers w I (terms w)) (truths w marked I (terms w)) k)

-- Of a free term with an operand that is not free it says something.
abbrev pub SettlerTold : Type 0
SettlerTold =
    (limit : ℕ) (w : List ℕ) (marked : Term → Bool) (I : Interpretation) → WellFormed limit w
    → (k : ℕ) → k < terms w → free w marked I k ≡ true → some_unfree w (truths w marked I (terms w)) (term_at w k) ≡ true
    → is_some (settler_of w (numbers w I (terms w)) (truths w marked I (terms w)) k) ≡ true
