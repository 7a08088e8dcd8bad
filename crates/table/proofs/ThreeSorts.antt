-- The three sorts by their bounds: widths up to 32, and an array's not 0.
-- Assumes nothing.
use mathlib.Core.Path.{◌≡◌, refl}
use mathlib.Core.Bool.{Bool, true, false, ◌&&◌, ◌||◌}
use Prim.Native.Nat.{ℕ, zero, suc}
use native.Mathlib.Omega.{arith}
use lib.Dec.{eqb, ltb, leb, eqb-suc-zero}
use borrow.Author.Tests.{lt-ltb}
use Rattle.table.specs.declared.words.Sort.{Sort}
use Rattle.table.specs.Faults.{sorted}

by_widths : (m n : ℕ) → leb m 32 && leb n 32 && (eqb m 0 || ltb 0 n) ≡ sorted (record { m = m; n = n })
by_widths zero zero = refl
by_widths zero (suc n) = rw (eqb-suc-zero n, lt-ltb 0 (suc n) (omega arith)) (go (leb (suc n) 32))
  where
    go : (b : Bool) → b && true ≡ b || false
    go true = refl
    go false = refl
by_widths (suc m) zero = rw (eqb-suc-zero m, lt-ltb 0 (suc m) (omega arith)) (go (leb (suc m) 32))
  where
    go : (a : Bool) → a && true && false ≡ a && false
    go true = refl
    go false = refl
by_widths (suc m) (suc n) = rw (eqb-suc-zero m, lt-ltb 0 (suc m) (omega arith), lt-ltb 0 (suc n) (omega arith)) (go (leb (suc m) 32) (leb (suc n) 32))
  where
    go : (a b : Bool) → a && b && true ≡ a && b
    go true true = refl
    go true false = refl
    go false b = refl

pub sorted_by_widths : (s : Sort) → leb s.m 32 && leb s.n 32 && (eqb s.m 0 || ltb 0 s.n) ≡ sorted s
sorted_by_widths s = by_widths s.m s.n
