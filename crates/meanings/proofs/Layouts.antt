-- Terms in a row, as the numbers of a table.
-- Assumes nothing.
use mathlib.Core.Path.{◌≡◌, refl, sym, ap, ◌∙◌}
use mathlib.Core.List.{List, [], ◌∷◌, ◌++◌}
use Prim.Native.Nat.{ℕ, zero, suc, ◌+◌, ◌*◌, ◌/◌, ◌<◌}
use native.Mathlib.Nat.{add-zero, zero-add}
use native.Mathlib.Omega.{arith}
use lib.ListN.{length, get_or, length-append, get_or-append}
use lib.Seq.{get_or-append-add}
use Rattle.table.specs.declared.words.Term.{Term}
use Rattle.table.specs.Terms.{terms, term_at}
use Rattle.parser.specs.Laws.{numbers_of}
use Rattle.parser.proofs.Written.{numbers-length}

abbrev pub no_term : Term
no_term = record { op = 0; sort = record { m = 0; n = 0 }; p = 0; q = 0; r = 0 }

pub terms_are : (xs : List Term) → terms (numbers_of xs) ≡ length xs
terms_are xs = ap (λ (n : ℕ). n / 6) (numbers-length xs) ∙ omega arith

pub term_is : (xs : List Term) (k : ℕ) → term_at (numbers_of xs) k ≡ get_or xs k no_term
unfolding numbers_of
term_is [] k = refl
term_is (x ∷ xs) zero = refl
term_is (x ∷ xs) (suc k) =
    let at : (j : ℕ) → suc k * 6 + j ≡ suc (suc (suc (suc (suc (suc (k * 6 + j)))))) = λ j. omega arith in
    rw (at 0, at 1, at 2, at 3, at 4, at 5) (term_is xs k)

-- the table w has the terms xs from number b on
pub record Has (w : List ℕ) (b : ℕ) (xs : List Term) : Type 0 where
  pub at : (i : ℕ) → i < length xs → term_at w (b + i) ≡ get_or xs i no_term

pub has_all : (xs : List Term) → Has (numbers_of xs) 0 xs
has_all xs = record { at = λ i l. ap (term_at (numbers_of xs)) (zero-add i) ∙ term_is xs i }

pub has_left : {w : List ℕ} {b : ℕ} (xs ys : List Term) → Has w b (xs ++ ys) → Has w b xs
has_left xs ys h = record { at = λ i l. h.at i (rw length-append (omega arith)) ∙ get_or-append xs ys no_term i l }

pub has_right : {w : List ℕ} {b : ℕ} (xs ys : List Term) (c : ℕ) → Has w b (xs ++ ys) → b + length xs ≡ c → Has w c ys
has_right {w} {b} xs ys c h e =
    record {
      at = λ i l. let f : c + i ≡ b + (length xs + i) = omega arith in ap (term_at w) f ∙ h.at (length xs + i) (rw length-append (omega arith))
          ∙ get_or-append-add xs ys i no_term;
    }

-- a term that stands first
pub has_first : {w : List ℕ} {b : ℕ} (x : Term) (xs : List Term) → Has w b (x ∷ xs) → term_at w b ≡ x
has_first {w} {b} x xs h = ap (term_at w) (sym (add-zero b)) ∙ h.at 0 (omega arith)
