-- Laws of truths.
-- Assumes nothing.
use Rattle.std.proofs.Common.{◌≡◌, Bool, true, false, cond, not, ◌&&◌, ◌||◌, ◌⊎◌, sym, refl, ap₂, inl, inr}
use mathlib.Core.Bool.{false≢true}

pub never : {A : Type 0} → false ≡ true → A
never p = absurd (false≢true p)

pub and_parts : (a b : Bool) → (a && b) ≡ true → (a ≡ true) × (b ≡ true)
and_parts true b p = (refl, p)
and_parts false b p = never p

pub or_parts : (a b : Bool) → (a || b) ≡ true → (a ≡ true) ⊎ (b ≡ true)
or_parts true b p = inl refl
or_parts false b p = inr p

pub or_neither : (a b : Bool) → (a || b) ≡ false → (a ≡ false) × (b ≡ false)
or_neither true b p = never (sym p)
or_neither false b p = (refl, p)

pub and_shut : (b : Bool) → (b && false) ≡ false
and_shut true = refl
and_shut false = refl

pub or_open : (b : Bool) → (b || true) ≡ true
or_open true = refl
or_open false = refl

-- a pick as the code has it, with no branch
pub cond_parts : (b d e : Bool) → ((b && d) || (not b && e)) ≡ cond b d e
cond_parts true true e = refl
cond_parts true false e = refl
cond_parts false d e = refl

-- the second part is asked only where the first is true
pub and_same : {a a' b b' : Bool} → a ≡ a' → (a ≡ true → b ≡ b') → (a && b) ≡ (a' && b')
and_same {a} {a'} {b} {b'} = go a a'
  where
    go : (a a' : Bool) → a ≡ a' → (a ≡ true → b ≡ b') → (a && b) ≡ (a' && b')
    go true a' p q = ap₂ ◌&&◌ p (q refl)
    go false true p q = never p
    go false false p q = refl

pub or_same : {a a' b b' : Bool} → a ≡ a' → b ≡ b' → (a || b) ≡ (a' || b')
or_same p q = ap₂ ◌||◌ p q
