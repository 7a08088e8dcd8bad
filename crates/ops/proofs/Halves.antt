-- Products by halves of k bits each, at k + k bits.
-- Assumes nothing.
use Rattle.std.proofs.Common.{◌≡◌, ℕ, ◌+◌, ◌*◌, ◌/◌, ◌%◌, ◌^◌, sym, refl, ap, ◌∙◌, ap₂, arith, pow-add}
use native.Mathlib.Nat.{mul-add-mod_self_right}
use lib.Pow.{split}
use Rattle.ops.proofs.Widths.{wrapped}

abbrev pub low : ℕ → ℕ → ℕ
low k x = x % 2 ^ k

abbrev pub high : ℕ → ℕ → ℕ
high k x = x / 2 ^ k

-- the sum of the cross products
abbrev pub cross : ℕ → ℕ → ℕ → ℕ
cross k x y = low k x * high k y + high k x * low k y

-- with the cross products q * m + r: what is a multiple of m * m, and the rest
multiplied : (m h l h' l' q r : ℕ) → q * m + r ≡ l * h' + h * l' → (h * m + l) * (h' * m + l') ≡ (h * h' + q) * (m * m) + (l * l' + r * m)
multiplied m h l h' l' q r e = let times : (q * m + r) * m ≡ (l * h' + h * l') * m = ap (λ (c : ℕ). c * m) e in omega arith

-- the high halves stand in what is a multiple of 2 ^ (k + k)
parted : (k x y c : ℕ) → c ≡ cross k x y → x * y ≡ (high k x * high k y + high k c) * 2 ^ (k + k) + (low k x * low k y + low k c * 2 ^ k)
parted k x y c e =
    ap₂ (λ (a b : ℕ). a * b) (sym (split x k)) (sym (split y k))
    ∙ multiplied (2 ^ k) (high k x) (low k x) (high k y) (low k y) (high k c) (low k c) (split c k ∙ e)
    ∙ rw (pow-add 2 k k)

-- Of the halves' products there count low by low, and the low half of the cross products.
pub by_halves : (k x y : ℕ) → (low k x * low k y + low k (cross k x y) * 2 ^ k) % 2 ^ (k + k) ≡ (x * y) % 2 ^ (k + k)
by_halves k x y = rw (parted k x y (cross k x y) refl) (sym (mul-add-mod_self_right _ _ _))

-- the same at 32 bits, with the sum of the cross products wrapped
pub at_word : (x y : ℕ) → (low 16 x * low 16 y + low 16 (cross 16 x y % 2 ^ 32) * 2 ^ 16) % 2 ^ 32 ≡ (x * y) % 2 ^ 32
at_word x y = rw (wrapped 16 (cross 16 x y) (omega arith)) (by_halves 16 x y)
