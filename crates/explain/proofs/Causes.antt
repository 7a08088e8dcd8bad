-- Of a well-formed table, by the values and truths of an interpretation: a term that is not free, no store and no choice
-- between arrays, is a marked variable or blames a term beneath it. So the way is whole, and ends at marked variables.
-- Assumes nothing.
use mathlib.Core.Path.{◌≡◌, refl, sym, ap, ap₂, ◌∙◌}
use mathlib.Core.Bool.{Bool, true, false, not, ◌&&◌}
use mathlib.Core.List.{List}
use mathlib.Core.Logic.{inl, inr, ⊎_elim}
use Prim.Native.Nat.{ℕ, pred, ◌<◌}
use native.Mathlib.Omega.{arith}
use borrow.Author.Tests.{not-true, not-false}
use Rattle.ops.specs.declared.Op.{Op}
use Rattle.ops.specs.declared.Op.TheVariants.{Constant, Apply, Ite, Select, Store}
use Rattle.ops.specs.Numbers.{op_of}
use Rattle.ops.proofs.Booleans.{never, and_parts}
use Rattle.table.specs.declared.words.Term.{Term}
use Rattle.table.specs.Terms.{terms, term_at, sort_at}
use Rattle.table.specs.Ranks.{slotted}
use Rattle.table.specs.Faults.{is_variable, is_store, is_choice}
use Rattle.table.specs.WellFormed.{WellFormed}
use Rattle.table.proofs.OperandSorts.{boolean-scalar}
use Rattle.setting.specs.Interpretation.{Interpretation}
use Rattle.evaluate.specs.Values.{numbers}
use Rattle.judge.specs.Conditions.{Condition, condition_at, truths}
use Rattle.judge.specs.Code.Labelled.{truth_in}
use Rattle.judge.proofs.Alike.{condition_below}
use Rattle.judge.proofs.Meaning.{truth_in_lem}
use Rattle.explain.specs.Sources.{support, names, blames}
use Rattle.explain.specs.Ways.{on_way, way_of}
use Rattle.explain.specs.Laws.{GoesOn, WayGoesOn, WayIsWhole}
use Rattle.explain.proofs.Names.{Each, every-or_one}
use Rattle.explain.proofs.Supports.{scalar-flat, plain_at, unpicked_at, Made, literal, input, function, choice, read, store, fork, made, lower-support, input-free, support_suffices}
use Rattle.explain.proofs.Descents.{all_way, whole}

module _ (limit : ℕ) (w : List ℕ) (marked : Term → Bool) (I : Interpretation) (f : WellFormed limit w) where
  abbrev pub vs : List ℕ
  vs = numbers w I (terms w)

  abbrev pub ts : List ℕ
  ts = truths w marked I (terms w)

  pub truth_at : (i : ℕ) → i < terms w → truth_in ts i ≡ (condition_at w marked I i).free
  truth_at i b = truth_in_lem w marked I (terms w) i ∙ ap (λ (c : Condition). c.free) (condition_below w marked I (terms w) i b)

  -- a term that is not free, no store and no choice between arrays
  pub record Way (k : ℕ) : Type 0 where
    pub inside : k < terms w
    pub plain : is_store (term_at w k) ≡ false
    pub unpicked : is_choice (term_at w k) ≡ false
    pub unfree : truth_in ts k ≡ false

  pub onto : (k i : ℕ) → Way k → blames w vs ts k i ≡ true → Way i
  onto k i y h =
      let parts = and_parts (names (support w vs (term_at w k)) i) (not (truth_in ts i)) h in
      let low = lower-support limit w I f k y.inside y.unpicked i parts.0 in
      let b = low.below in
      let c = y.inside in
      record { inside = omega arith; plain = low.no_store; unpicked = low.no-choice; unfree = not-true (truth_in ts i) parts.1 }

  pub down : (k i : ℕ) → Way k → blames w vs ts k i ≡ true → i < k
  down k i y h = (lower-support limit w I f k y.inside y.unpicked i (and_parts (names (support w vs (term_at w k)) i) (not (truth_in ts i)) h).0).below

  module _ (k : ℕ) (y : Way k) where
    abbrev All : Type 0
    All = Each (λ i. truth_in ts i ≡ true) (support w vs (term_at w k))

    never_free : (is_variable (term_at w k) ≡ true → marked (term_at w k) ≡ false) → All → {A : Type 0} → A
    never_free unmarked all =
        never (sym y.unfree
        ∙ truth_at k y.inside
        ∙ support_suffices limit w marked I f k y.inside y.plain y.unpicked unmarked
        (λ i h. let b = (lower-support limit w I f k y.inside y.unpicked i h).below in let c = y.inside in sym (truth_at i (omega arith)) ∙ all i h))

    -- where its support is all free, it is a marked variable
    caught : All → (v m : Bool) → is_variable (term_at w k) ≡ v → marked (term_at w k) ≡ m → (is_variable (term_at w k) ≡ true) × (marked (term_at w k) ≡ true)
    caught all true true e g = (e, g)
    caught all true false e g = never_free (λ _. g) all
    caught all false m e g = never_free (λ v. never (sym e ∙ v)) all

    pub goes_from : GoesOn w marked vs ts k
    goes_from =
        record {
          on =
              ⊎_elim (λ all. inl (caught all (is_variable (term_at w k)) (marked (term_at w k)) refl refl)) (λ u. inr (record { term = u.term; is = ap₂ ◌&&◌ u.named (ap not u.fails) }))
              (every-or_one (truth_in ts) (support w vs (term_at w k)));
          beneath = λ i h. let z = onto k i y h in record { below = down k i y h; no_store = z.plain; no-choice = z.unpicked; unfree = z.unfree };
        }

  -- a variable among them is marked
  pub input-marked : (k : ℕ) → Way k → is_variable (term_at w k) ≡ true → marked (term_at w k) ≡ true
  input-marked k y v = go (made limit w I f k y.inside)
    where
      other : (op : Op) → op_of (term_at w k).op ≡ op → slotted op ≡ false → marked (term_at w k) ≡ true
      other op e none = never (sym none ∙ sym (ap slotted e) ∙ v)

      go : Made limit w I f k y.inside → marked (term_at w k) ≡ true
      go (literal e) = other Constant e refl
      go (input e) = not-false (marked (term_at w k)) (sym (input-free limit w I f marked k y.inside e) ∙ sym (truth_at k y.inside) ∙ y.unfree)
      go (function g e o) = other (Apply g) e refl
      go (choice e flat l p q r) = other Ite e refl
      go (read e l pb ps q) = other Select e refl
      go (store s) = other Store s.is refl
      go (fork c) = other Ite c.is refl

  pub rule_way : 0 < terms w → truth_in ts (pred (terms w)) ≡ false → Way (pred (terms w))
  rule_way b u =
      let last : pred (terms w) < terms w = omega arith in
      let flat = boolean-scalar (sort_at w (pred (terms w))) f.rule in
      record {
        inside = last;
        plain = plain_at limit w I f (pred (terms w)) last flat;
        unpicked = unpicked_at limit w I f (pred (terms w)) (scalar-flat (sort_at w (pred (terms w))) flat);
        unfree = u;
      }

  pub on_way_lem : (k : ℕ) → on_way (way_of w vs ts (terms w)) k ≡ true → Way k
  on_way_lem = all_way w vs ts Way onto (terms w) rule_way

pub way_goes_on : WayGoesOn
way_goes_on limit w marked I f k o = goes_from limit w marked I f k (on_way_lem limit w marked I f k o)

pub way_is_whole : WayIsWhole
way_is_whole w marked I f =
    whole w (vs 512 w marked I f) (ts 512 w marked I f) (Way 512 w marked I f) (onto 512 w marked I f) (terms w) (rule_way 512 w marked I f)
    (λ k y. let b = y.inside in let c = f.few in omega arith) (down 512 w marked I f) f.some
