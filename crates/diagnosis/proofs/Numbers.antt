-- Which refusal each reason is for; the most that fits a width.
-- Assumes nothing.
use mathlib.Core.Path.{◌≡◌, refl, sym, ap, ◌∙◌}
use mathlib.Core.Bool.{Bool, true, false, cond}
use mathlib.Core.List.{List, [], ◌∷◌}
use mathlib.Core.Logic.{inl, inr}
use Prim.Native.Nat.{ℕ, suc, ◌-◌, ◌^◌, ◌≤◌, ◌<◌}
use Prim.{tt}
use native.Mathlib.Omega.{arith}
use lib.Dec.{eqb, ltb, leb}
use lib.Pow.{pow_pos}
use borrow.Author.Tests.{eqb-true, eqb-false, leb-true, leb-false, ltb-true, ltb-false, le-leb, lt-leb}
use Rattle.table.specs.declared.words.Term.{Term}
use Rattle.table.specs.Terms.{term_at}
use Rattle.table.specs.Faults.{rank, fields}
use Rattle.std.proofs.Common.{Option, Some, subst, ◌++◌}
use Rattle.diagnosis.specs.declared.reason.Part.{Part}
use Rattle.diagnosis.specs.declared.reason.Part.TheVariants.{P, Q, R}
use Rattle.diagnosis.specs.declared.reason.Reason.{Reason}
use Rattle.diagnosis.specs.declared.asking.Asking.{Asking}
use Rattle.diagnosis.specs.declared.terms.Use.{Use}
use Rattle.diagnosis.specs.declared.terms.Use.TheVariants.{Number, Operand, Unused}
use Rattle.diagnosis.specs.Telling.{Line, FirstFails}
use Rattle.diagnosis.specs.Asking.{asks}
use Rattle.diagnosis.specs.Reasons.{field_line, sort_lines, uses, table_reasons, term_reasons, setting_reasons, reasons}
use Rattle.diagnosis.specs.Laws.{refusal_of, OwnReasons, MostFits}

-- where a line's test fails, its reason is for this number
Own : ℕ → List Line → Type 0
Own number [] = Unit {0}
Own number (l ∷ ls) = (l.ok ≡ false → refusal_of (Some l.told) ≡ number) × Own number ls

told-own : (number : ℕ) (ls : List Line) (d : Option Reason) → Own number ls → FirstFails ls d → refusal_of d ≡ number
unfolding Own
told-own number [] d h f = absurd f
told-own number (l ∷ ls) d h (inl f) = ap refusal_of f.1 ∙ h.0 f.0
told-own number (l ∷ ls) d h (inr f) = told-own number ls d h.1 f.1

field_own : (u : Use) (part : Part) (i v : ℕ) → Own 5 (field_line u part i v)
unfolding Own
field_own Number part i v = tt
field_own Operand part i v = (λ _. refl, tt)
field_own Unused part i v = (λ _. refl, tt)

own-append : (number : ℕ) (xs ys : List Line) → Own number xs → Own number ys → Own number (xs ++ ys)
unfolding Own
own-append number [] ys h g = g
own-append number (x ∷ xs) ys h g = (h.0, own-append number xs ys h.1 g)

sort_own : (asks : List (Part × Asking)) (t : List ℕ) (i : ℕ) (x : Term) → Own 6 (sort_lines asks t i x)
unfolding Own
sort_own [] t i x = tt
sort_own (ask ∷ asks) t i x = (λ _. refl, sort_own asks t i x)

-- of a number that is this one
along : {k number : ℕ} (ls : List Line) → k ≡ number → Own k ls → Own number ls
along ls e h = subst (λ (n : ℕ). Own n ls) e h

-- by the number that is asked for
pick : (number : ℕ) (b : Bool) (x y : List Line) → (b ≡ true → Own number x) → (b ≡ false → Own number y) → Own number (cond b x y)
pick number true x y f g = f refl
pick number false x y f g = g refl

-- a test of the number
at : (number k : ℕ) (x y : List Line) → (k ≡ number → Own number x) → ((number ≡ k → ⊥) → Own number y) → Own number (cond (eqb number k) x y)
at number k x y f g = pick number (eqb number k) x y (λ e. f (sym (eqb-true number k e))) (λ e. g (eqb-false number k e))

past : (k number : ℕ) → k ≤ number → (number ≡ k → ⊥) → suc k ≤ number
past k number b n = omega arith

there : (k number : ℕ) → k ≤ number → number ≤ k → k ≡ number
there k number b d = omega arith

module _ (t sheet values cells : List ℕ) (allowance number i : ℕ) where
  table_own : (number ≡ 0 → ⊥) → number ≤ 2 → Own number (table_reasons t number)
  unfolding Own table_reasons
  table_own z b = at number 1 _ _ (λ e. (λ _. e, (λ _. e, tt))) (λ n. (λ _. there 2 number (past 1 number (past 0 number (omega arith) z) n) b, tt))

  term-own : 2 < number → number ≤ 10 → Own number (term_reasons t number i)
  unfolding Own term_reasons
  term-own low high =
      let x : Term = term_at t i in
      let used = uses (fields x) in
      let asked = asks (rank x) in
      at number 3 _ _ (λ e. (λ _. e, tt))
      (λ n3. at number 4 _ _ (λ e. (λ _. e, (λ _. e, (λ _. e, tt))))
      (λ n4. at number 5 _ _ (λ e. along _ e (own-append 5 (field_line used.0 P i x.p ++ field_line used.1 Q i x.q) _ (own-append 5 (field_line used.0 P i x.p) _ (field_own used.0 P i x.p) (field_own used.1 Q i x.q)) (field_own used.2 R i x.r)))
      (λ n5. at number 6 _ _ (λ e. along _ e (sort_own asked t i x))
      (λ n6. at number 7 _ _ (λ e. (λ _. e, (λ _. e, (λ _. e, tt))))
      (λ n7. at number 8 _ _ (λ e. (λ _. e, (λ _. e, tt)))
      (λ n8. at number 9 _ _ (λ e. (λ _. e, tt))
      (λ n9. (λ _. there 10 number (past 9 number (past 8 number (past 7 number (past 6 number (past 5 number (past 4 number (past 3 number low n3) n4) n5) n6) n7) n8) n9) high, tt))))))))

  setting_own : Own number (setting_reasons t values cells allowance number i)
  unfolding Own setting_reasons
  setting_own =
      at number 11 _ _ (λ e. (λ _. e, tt))
      (λ _. at number 12 _ _ (λ e. (λ _. e, tt))
      (λ _. at number 13 _ _ (λ e. (λ _. e, tt))
      (λ _. at number 14 _ _ (λ e. (λ _. e, tt))
      (λ _. at number 15 _ _ (λ e. (λ _. e, (λ _. e, tt)))
      (λ _. at number 23 _ _ (λ e. (λ _. e, tt)) (λ _. tt))))))

  own : Own number (reasons t sheet values cells allowance number i)
  unfolding Own reasons
  own =
      at number 0 _ _ (λ _. tt)
      (λ z. pick number (leb number 2) _ _ (λ e. table_own z (leb-true number 2 e))
      (λ low. pick number (leb number 10) _ _ (λ e. term-own (leb-false number 2 low) (leb-true number 10 e))
      (λ _. at number 16 _ _ (λ e. (λ _. e, (λ _. e, (λ _. e, (λ _. e, tt))))) (λ _. setting_own))))

pub own-reasons : OwnReasons
own-reasons t sheet values cells allowance number i d f = told-own number (reasons t sheet values cells allowance number i) d (own t sheet values cells allowance number i) f

-- below a number is up to the one before it
below-most : (a v : ℕ) → 0 < a → ltb v a ≡ leb v (a - 1)
below-most a v p = go (ltb v a) refl
  where
    go : (b : Bool) → ltb v a ≡ b → b ≡ leb v (a - 1)
    go true e = sym (le-leb v (a - 1) (let h = ltb-true v a e in omega arith))
    go false e = sym (lt-leb v (a - 1) (let h = ltb-false v a e in omega arith))

pub most-fits : MostFits
most-fits n v b = go (eqb n 0) (ltb n 32) refl
  where
    go : (z s : Bool) → ltb n 32 ≡ s → cond z (leb v 1) (ltb v (2 ^ n)) ≡ leb v (cond z 1 (cond s (2 ^ n - 1) 4294967295))
    go true s e = refl
    go false true e = below-most (2 ^ n) v (pow_pos n)
    go false false e =
        let same : n ≡ 32 = let low = ltb-false n 32 e in omega arith in
        ap (λ (k : ℕ). ltb v (2 ^ k)) same ∙ below-most 4294967296 v (omega arith)
