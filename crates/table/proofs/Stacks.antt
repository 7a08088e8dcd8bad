-- What is found along a tree of stores and choices, whatever it is: an array's own number is fuel enough.
-- Assumes nothing.
use mathlib.Core.Path.{◌≡◌, refl, sym, ap, ap₂, ◌∙◌}
use mathlib.Core.Bool.{Bool, true, false, cond}
use mathlib.Core.List.{List}
use Prim.Native.Nat.{ℕ, zero, suc, ◌<◌}
use native.Mathlib.Nat.{not-suc-le-zero}
use native.Mathlib.Omega.{arith}
use Rattle.ops.specs.declared.Op.{Op}
use Rattle.ops.specs.declared.Op.TheVariants.{Constant, Variable, Apply, Ite, Select, Store, Unknown}
use Rattle.ops.specs.Numbers.{op_of}
use Rattle.ops.proofs.Booleans.{never, and_parts}
use Rattle.table.specs.declared.words.Term.{Term}
use Rattle.table.specs.Terms.{term_at, array}
use Rattle.table.specs.Ranks.{picks, writes}
use Rattle.table.specs.Faults.{is_store, is_choice}

-- each store stands on an earlier term, each choice on two
pub record Stacked (w : List ℕ) : Type 0 where
  pub stored : (k : ℕ) → is_store (term_at w k) ≡ true → (term_at w k).p < k
  pub first : (k : ℕ) → is_choice (term_at w k) ≡ true → (term_at w k).q < k
  pub second : (k : ℕ) → is_choice (term_at w k) ≡ true → (term_at w k).r < k

-- a choice is no store
picks_no-store : (op : Op) → picks op ≡ true → writes op ≡ false
picks_no-store Constant h = refl
picks_no-store Variable h = refl
picks_no-store (Apply f) h = refl
picks_no-store Ite h = refl
picks_no-store Select h = refl
picks_no-store Store h = never h
picks_no-store Unknown h = refl

pub choice_no-store : (x : Term) → is_choice x ≡ true → is_store x ≡ false
choice_no-store x h = picks_no-store (op_of x.op) (and_parts (picks (op_of x.op)) (array x.sort) h).0

-- the three ways of a term
abbrev pub by_shape : {A : Type 0} → Term → A → A → A → A
by_shape x s c e = cond (is_store x) s (cond (is_choice x) c e)

shape_same : {A : Type 0} (s c : Bool) (x x' y y' e : A) → (s ≡ true → x ≡ x') → (c ≡ true → y ≡ y') → cond s x (cond c y e) ≡ cond s x' (cond c y' e)
shape_same true c x x' y y' e h k = h refl
shape_same false true x x' y y' e h k = k refl
shape_same false false x x' y y' e h k = refl

-- found, with fuel: a store makes it of what is found beneath it, a choice of what is found in both branches, any other term is an end
module _ {A : Type 0} (w : List ℕ) (stacked : Stacked w) (found : ℕ → ℕ → A) (store : ℕ → A → A) (choice : ℕ → A → A → A) (end : ℕ → A)
    (law : (left a : ℕ) → found (suc left) a
    ≡ by_shape (term_at w a) (store a (found left (term_at w a).p)) (choice a (found left (term_at w a).q) (found left (term_at w a).r)) (end a)) where
  enough : (f g a : ℕ) → a < f → a < g → found f a ≡ found g a
  enough zero g a b c = absurd (not-suc-le-zero b)
  enough (suc f) zero a b c = absurd (not-suc-le-zero c)
  enough (suc f) (suc g) a b c =
      law f a
      ∙ shape_same (is_store (term_at w a)) (is_choice (term_at w a)) _ _ _ _ (end a)
      (λ s. ap (store a) (enough f g (term_at w a).p (let d = stacked.stored a s in omega arith) (let d = stacked.stored a s in omega arith)))
      (λ s. ap₂ (choice a)
      (enough f g (term_at w a).q (let d = stacked.first a s in omega arith) (let d = stacked.first a s in omega arith))
      (enough f g (term_at w a).r (let d = stacked.second a s in omega arith) (let d = stacked.second a s in omega arith)))
      ∙ sym (law g a)

  pub at_end : (a : ℕ) → is_store (term_at w a) ≡ false → is_choice (term_at w a) ≡ false → found (suc a) a ≡ end a
  at_end a s c = law a a ∙ rw (s, c)

  pub at_store : (a : ℕ) → is_store (term_at w a) ≡ true → found (suc a) a ≡ store a (found (suc (term_at w a).p) (term_at w a).p)
  at_store a s =
      let b : (term_at w a).p < a = stacked.stored a s in
      law a a
      ∙ rw s
      (ap (store a) (enough a (suc (term_at w a).p) (term_at w a).p b (omega arith)))

  pub at_choice : (a : ℕ) → is_choice (term_at w a) ≡ true
      → found (suc a) a ≡ choice a (found (suc (term_at w a).q) (term_at w a).q) (found (suc (term_at w a).r) (term_at w a).r)
  at_choice a c =
      let q : (term_at w a).q < a = stacked.first a c in
      let r : (term_at w a).r < a = stacked.second a c in
      law a a
      ∙ rw (choice_no-store (term_at w a) c, c)
      (ap₂ (choice a) (enough a (suc (term_at w a).q) (term_at w a).q q (omega arith)) (enough a (suc (term_at w a).r) (term_at w a).r r (omega arith)))
