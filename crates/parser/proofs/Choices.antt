-- A choice by a test.
-- Assumes nothing.
use Rattle.std.specs.Prelude.{Some, None}
use Rattle.std.proofs.lemmas.Option.{none-some, same_Some}
use mathlib.Core.Path.{◌≡◌, refl, sym}
use mathlib.Core.Bool.{Bool, true, false, cond}

-- what holds of both cases, each where the test says so, holds of the choice
pub by_test : {A : Type 0} (P : A → Type 0) (b : Bool) {x y : A} → (b ≡ true → P x) → (b ≡ false → P y) → P (cond b x y)
by_test P true p q = p refl
by_test P false p q = q refl

-- a value where a test says so, else none
pub chosen_some : {A : Type 0} (b : Bool) {x y : A} → Some y ≡ cond b (Some x) None → (b ≡ true) × (y ≡ x)
chosen_some true {x} {y} e = (refl, same_Some y x e)
chosen_some false {x} {y} e = absurd (none-some y (sym e))

pub chosen_none : {A : Type 0} (b : Bool) (x : A) → None ≡ cond b (Some x) None → b ≡ false
chosen_none true x e = absurd (none-some x e)
chosen_none false x e = refl
