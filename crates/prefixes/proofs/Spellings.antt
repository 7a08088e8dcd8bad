-- The words of a text one after the other, and the first that is refused.
-- Assumes nothing.
use Rattle.parser.specs.declared.states.Fault.{Fault}
use Rattle.parser.specs.Expressions.{fault_number}
use Rattle.parser.proofs.Faults.{some_number}
use mathlib.Core.Path.{◌≡◌, refl, sym, ap, ◌∙◌}
use mathlib.Core.Bool.{Bool, true, false, cond}
use mathlib.Core.List.{List, [], ◌∷◌}
use Prim.Native.Nat.{ℕ, zero, suc, ◌+◌, ◌-◌, ◌<◌, ◌≤◌}
use native.Mathlib.Omega.{arith}
use lib.Dec.{eqb}
use lib.ListN.{length}
use borrow.Author.Tests.{ne_eqb}
use Rattle.parser.specs.declared.words.Word.{Word}
use Rattle.parser.specs.declared.words.Word.TheVariants.{Open, Close, Keyword, Operator, Literal, Width, Name, Other, End}
use Rattle.parser.specs.Words.{token_at}
use Rattle.parser.proofs.Forward.{words_move}
use Rattle.parser.proofs.Accepts.{never}
use Rattle.prefixes.specs.Spelling.{Spelt, is_end, spelt_at, spelt_within, spelt_from}
use Rattle.prefixes.specs.Prefixes.{Spot, after, refusal, Refused, nothing, first_from}

-- the end is told from other words
pub is_end_lem : (w : Word) → is_end w ≡ true → w ≡ End
is_end_lem Open e = absurd (never e)
is_end_lem Close e = absurd (never e)
is_end_lem (Keyword k) e = absurd (never e)
is_end_lem (Operator op) e = absurd (never e)
is_end_lem (Literal n v) e = absurd (never e)
is_end_lem (Width n) e = absurd (never e)
is_end_lem (Name k) e = absurd (never e)
is_end_lem Other e = absurd (never e)
is_end_lem End e = refl

pub not_the_end : (w : Word) → (w ≡ End → ⊥) → is_end w ≡ false
not_the_end w n = go (is_end w) refl
  where
    go : (b : Bool) → is_end w ≡ b → b ≡ false
    go true e = absurd (n (is_end_lem w e))
    go false e = refl

-- a word other than the end moves on, and stays in the text
pub record Onto (text : List ℕ) (at : ℕ) : Type 0 where
  pub further : at < (token_at text at).next
  pub within : (token_at text at).next ≤ length text

pub onto : (text : List ℕ) (at : ℕ) → is_end (token_at text at).word ≡ false → Onto text at
onto text at e =
    let m = words_move text at (λ z. never (sym e ∙ ap is_end z)) in
    record { further = omega (arith, m.begins, m.moves); within = m.within }

rest_same : (b : Bool) {x y : List Spelt} → (b ≡ false → x ≡ y) → cond b [] x ≡ cond b [] y
rest_same true e = refl
rest_same false e = e refl

-- as many as there are bytes are enough
enough : (text : List ℕ) (m k at : ℕ) → length text ≤ m + at → length text ≤ k + at → spelt_within (suc m) text at ≡ spelt_within (suc k) text at
unfolding spelt_within
enough text zero zero at h i = refl
enough text zero (suc k) at h i =
    ap (λ (r : List Spelt). spelt_at text at ∷ r)
    (rest_same (is_end (token_at text at).word) (λ e. let o = onto text at e in absurd (omega (arith, o.further, o.within))))
enough text (suc m) zero at h i =
    ap (λ (r : List Spelt). spelt_at text at ∷ r)
    (rest_same (is_end (token_at text at).word) (λ e. let o = onto text at e in absurd (omega (arith, o.further, o.within))))
enough text (suc m) (suc k) at h i =
    ap (λ (r : List Spelt). spelt_at text at ∷ r)
    (rest_same (is_end (token_at text at).word)
    (λ e. let o = onto text at e in enough text m k (token_at text at).next (omega (arith, o.further)) (omega (arith, o.further))))

pub words_are : (text : List ℕ) (at : ℕ)
    → spelt_from text at ≡ spelt_at text at ∷ cond (is_end (token_at text at).word) [] (spelt_from text (token_at text at).next)
unfolding spelt_within
words_are text at =
    let next = (token_at text at).next in
    ap (λ (r : List Spelt). spelt_at text at ∷ r)
    (rest_same (is_end (token_at text at).word)
    (λ e. let o = onto text at e in
    let n : length text - at ≡ suc (length text - at - 1) = omega (arith, o.further, o.within) in
    ap (λ (k : ℕ). spelt_within k text next) n
    ∙ enough text (length text - at - 1) (length text - next) next (omega (arith, o.further, o.within)) (omega (arith, o.further, o.within))))

-- The first word that is refused, from a place of a text on

unfoldable pub first : List ℕ → Spot → ℕ → Refused
first text s at = first_from s (spelt_from text at)

module _ (text : List ℕ) (at : ℕ) where
  abbrev word-here : Spelt
  word-here = spelt_at text at

  first_is : (s : Spot) → first text s at
      ≡ cond (eqb (refusal s word-here) 0) (cond (is_end word-here.word) nothing (first text (after s word-here) (token_at text at).next)) (record { number = refusal s word-here; place = word-here.from })
  unfolding first first_from
  first_is s =
      ap (first_from s) (words_are text at)
      ∙ ap (λ (r : Refused). cond (eqb (refusal s word-here) 0) r (record { number = refusal s word-here; place = word-here.from }))
      (go (is_end word-here.word))
    where
      go : (b : Bool)
          → first_from (after s word-here) (cond b [] (spelt_from text (token_at text at).next)) ≡ cond b nothing (first_from (after s word-here) (spelt_from text (token_at text at).next))
      go true = refl
      go false = refl

  pub first-refused : (s : Spot) (f : Fault) → refusal s word-here ≡ fault_number f → first text s at ≡ record { number = fault_number f; place = word-here.from }
  first-refused s f e = first_is s ∙ rw (e, ne_eqb (fault_number f) 0 (some_number f))

  pub first-passed : (s : Spot) → refusal s word-here ≡ 0 → is_end word-here.word ≡ false
      → first text s at ≡ first text (after s word-here) (token_at text at).next
  first-passed s e f = first_is s ∙ rw (e, f)

  pub first_ended : (s : Spot) → refusal s word-here ≡ 0 → is_end word-here.word ≡ true → first text s at ≡ nothing
  first_ended s e f = first_is s ∙ rw (e, f)

  -- two spots that the word does not tell apart
  pub first_alike : (s r : Spot) → refusal s word-here ≡ refusal r word-here
      → first text (after s word-here) (token_at text at).next ≡ first text (after r word-here) (token_at text at).next
      → first text s at ≡ first text r at
  first_alike s r e f = first_is s ∙ rw (e, f) (sym (first_is r))
