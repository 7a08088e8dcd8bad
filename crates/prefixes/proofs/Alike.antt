-- Texts of the same words are refused at the same word.
-- Assumes nothing.
use mathlib.Core.Path.{◌≡◌, refl, sym, ap, ◌∙◌}
use mathlib.Core.Bool.{Bool, true, false}
use mathlib.Core.List.{List, [], ◌∷◌}
use Prim.Native.Nat.{ℕ, suc}
use native.Mathlib.Omega.{arith}
use lib.Dec.{eqb}
use lib.ListN.{length}
use borrow.Author.Tests.{eq-eqb, ne_eqb, eqb-true, eqb-false}
use Rattle.prefixes.specs.Spelling.{Spelt, Lexeme, lexeme, lexemes, spelling}
use Rattle.prefixes.specs.Prefixes.{Spot, start_spot, after, refusal, first_from}
use Rattle.prefixes.specs.Laws.{place_of, SameWordsRefused}
use Rattle.prefixes.proofs.Commanding.{first-refusal}
use Rattle.prefixes.proofs.Carrying.{front, back}

-- what is refused of two rows of words
record Both (s : Spot) (ws vs : List Spelt) : Type 0 where
  number : (first_from s ws).number ≡ (first_from s vs).number
  word : ℕ
  place : ((first_from s ws).number ≡ 0 → ⊥) → (first_from s ws).place ≡ place_of ws word
  other_place : ((first_from s ws).number ≡ 0 → ⊥) → (first_from s vs).place ≡ place_of vs word

first_goes : (s : Spot) (w : Spelt) (ws : List Spelt) → refusal s w ≡ 0 → first_from s (w ∷ ws) ≡ first_from (after s w) ws
unfolding first_from
first_goes s w ws e = rw (eq-eqb _ _ e)

first_stops : (s : Spot) (w : Spelt) (ws : List Spelt) → (refusal s w ≡ 0 → ⊥)
    → first_from s (w ∷ ws) ≡ record { number = refusal s w; place = w.from }
unfolding first_from
first_stops s w ws n = rw (ne_eqb _ _ n)

none_some : {x : Lexeme} {xs : List Lexeme} → [] ≡ x ∷ xs → ⊥
none_some e = omega (arith, ap length e)

module _ (s : Spot) (w v : Spelt) (ws vs : List Spelt) (e : lexeme w ≡ lexeme v) where
  same-refusal : refusal s w ≡ refusal s v
  same-refusal = ap (λ (l : Lexeme). refusal s (record { word = l.word; bytes = l.bytes; from = 0 })) e

  same_after : after s w ≡ after s v
  same_after = ap (λ (l : Lexeme). after s (record { word = l.word; bytes = l.bytes; from = 0 })) e

  both_go : refusal s w ≡ 0 → Both (after s w) ws vs → Both s (w ∷ ws) (v ∷ vs)
  unfolding place_of
  both_go z h =
      let f = first_goes s w ws z in
      let g : first_from s (v ∷ vs) ≡ first_from (after s w) vs = first_goes s v vs (sym same-refusal ∙ z)
      ∙ ap (λ (b : Spot). first_from b vs) (sym same_after) in
      record {
        number = rw (f, g) h.number;
        word = suc h.word;
        place = λ n. rw f (h.place (λ i. n (rw f i)));
        other_place = λ n. rw g (h.other_place (λ i. n (rw f i)));
      }

  both_stop : (refusal s w ≡ 0 → ⊥) → Both s (w ∷ ws) (v ∷ vs)
  unfolding place_of
  both_stop n =
      let f = first_stops s w ws n in
      let g = first_stops s v vs (λ z. n (same-refusal ∙ z)) in
      record { number = rw (f, g) same-refusal; word = 0; place = λ i. rw f refl; other_place = λ i. rw g refl }

both : (ws vs : List Spelt) (s : Spot) → lexemes ws ≡ lexemes vs → Both s ws vs
unfolding lexemes first_from
both [] [] s e = record { number = refl; word = 0; place = λ n. absurd (n refl); other_place = λ n. absurd (n refl) }
both [] (v ∷ vs) s e = absurd (none_some e)
both (w ∷ ws) [] s e = absurd (none_some (sym e))
both (w ∷ ws) (v ∷ vs) s e = go (eqb (refusal s w) 0) refl (both ws vs (after s w) (back e))
  where
    go : (b : Bool) → eqb (refusal s w) 0 ≡ b → Both (after s w) ws vs → Both s (w ∷ ws) (v ∷ vs)
    go true z h = both_go s w v ws vs (front e) (eqb-true _ _ z) h
    go false z h = both_stop s w v ws vs (front e) (eqb-false _ _ z)

pub same-words-refused : SameWordsRefused
same-words-refused a b small little same =
    let x = first-refusal a small in
    let y = first-refusal b little in
    let h = both (spelling a) (spelling b) start_spot same.same in
    let n = sym x.number ∙ h.number ∙ y.number in
    record {
      number = n;
      word = h.word;
      place = λ f. sym (x.place f) ∙ h.place (λ z. f (sym x.number ∙ z));
      other_place = λ f. sym (y.place (λ z. f (n ∙ z))) ∙ h.other_place (λ z. f (sym x.number ∙ z));
    }
