-- Sorts and constants, case by case, as they are written.
-- Assumes nothing.
use mathlib.Core.Path.{◌≡◌, refl}
use mathlib.Core.List.{◌++◌}
use Prim.Native.Nat.{ℕ, zero, suc, ◌<◌}
use native.Mathlib.Omega.{arith}
use Rattle.smtlib.specs.Bytes.{bytes}
use Rattle.smtlib.specs.Numerals.{bits}
use Rattle.smtlib.specs.Symbols.{vector_sort, sort_name, constant_name}

pub bool_is : (m n : ℕ) → m ≡ 0 → n ≡ 0 → bytes "Bool" ≡ sort_name m n
unfolding sort_name
bool_is m n e f = rw (e, f)

pub vector_is : (m n : ℕ) → m ≡ 0 → 0 < n → vector_sort n ≡ sort_name m n
unfolding sort_name
vector_is zero zero e h = absurd (omega arith)
vector_is zero (suc n) e h = refl
vector_is (suc m) n e h = absurd (omega arith)

pub array_is : (m n : ℕ) → 0 < m → bytes "(Array " ++ (vector_sort m ++ (bytes " " ++ (vector_sort n ++ bytes ")"))) ≡ sort_name m n
unfolding sort_name
array_is zero n h = absurd (omega arith)
array_is (suc m) n h = refl

pub false_is : (n v : ℕ) → n ≡ 0 → v ≡ 0 → bytes "false" ≡ constant_name n v
unfolding constant_name
false_is n v e f = rw (e, f)

pub true_is : (n v : ℕ) → n ≡ 0 → 0 < v → bytes "true" ≡ constant_name n v
unfolding constant_name
true_is zero zero e h = absurd (omega arith)
true_is zero (suc v) e h = refl
true_is (suc n) v e h = absurd (omega arith)

pub bits_is : (n v : ℕ) → 0 < n → bytes "#b" ++ bits n v ≡ constant_name n v
unfolding constant_name
bits_is zero v h = absurd (omega arith)
bits_is (suc n) v h = refl
