-- Laws of truths.
-- Assumes nothing.
use mathlib.Core.Path.{◌≡◌, refl, sym}
use mathlib.Core.Bool.{Bool, true, false, ◌&&◌, ◌||◌, false≢true}

pub never : {A : Type 0} → false ≡ true → A
never p = absurd (false≢true p)

pub and_parts : (a b : Bool) → (a && b) ≡ true → (a ≡ true) × (b ≡ true)
and_parts true b p = (refl, p)
and_parts false b p = never p

pub or-first : (a b : Bool) → (a || b) ≡ false → a ≡ false
or-first true b p = never (sym p)
or-first false b p = refl
