-- What is found along an array by a walk that goes on by a test to an earlier term, whatever it is: an array's own
-- number is fuel enough.
-- Assumes nothing.
use mathlib.Core.Path.{◌≡◌, refl, sym, ap, ◌∙◌}
use mathlib.Core.Bool.{Bool, true, false, cond}
use Prim.Native.Nat.{ℕ, zero, suc, ◌<◌}
use native.Mathlib.Nat.{not-suc-le-zero}
use native.Mathlib.Omega.{arith}

-- found, with fuel: where the walk goes on, made of what is found at the next term; else what is here
module _ {A : Type 0} (goes : ℕ → Bool) (next : ℕ → ℕ) (below : (a : ℕ) → goes a ≡ true → next a < a) (found : ℕ → ℕ → A) (step : ℕ → A → A) (here : ℕ → A)
    (law : (left a : ℕ) → found (suc left) a ≡ cond (goes a) (step a (found left (next a))) (here a)) where
  by : (b : Bool) (x y z : A) → (b ≡ true → x ≡ y) → cond b x z ≡ cond b y z
  by true x y z h = h refl
  by false x y z h = refl

  enough : (f g a : ℕ) → a < f → a < g → found f a ≡ found g a
  enough zero g a b c = absurd (not-suc-le-zero b)
  enough (suc f) zero a b c = absurd (not-suc-le-zero c)
  enough (suc f) (suc g) a b c =
      law f a
      ∙ by (goes a) _ _ (here a) (λ e. let d = below a e in ap (step a) (enough f g (next a) (omega arith) (omega arith)))
      ∙ sym (law g a)

  pub walk_stopped : (a : ℕ) → goes a ≡ false → here a ≡ found (suc a) a
  walk_stopped a e = sym (law a a ∙ ap (λ (b : Bool). cond b (step a (found a (next a))) (here a)) e)

  pub walk_on : (a : ℕ) → goes a ≡ true → step a (found (suc (next a)) (next a)) ≡ found (suc a) a
  walk_on a e =
      let d : next a < a = below a e in
      sym (law a a
      ∙ ap (λ (b : Bool). cond b (step a (found a (next a))) (here a)) e
      ∙ ap (step a) (enough a (suc (next a)) (next a) d (omega arith)))
