-- Words at a place, by the bytes that stand there.
-- Assumes nothing.
use mathlib.Core.Path.{◌≡◌, refl, sym, ap, ◌∙◌}
use mathlib.Core.Bool.{true, false, cond, not, ◌&&◌}
use mathlib.Core.List.{List, [], ◌∷◌, ◌++◌}
use Prim.Native.Nat.{ℕ, suc, ◌+◌, ◌-◌, ◌<◌}
use native.Mathlib.Omega.{arith}
use lib.Dec.{eqb, ltb}
use lib.ListN.{length, get_or, take, drop, length-drop}
use lib.Seq.{get_or-drop, drop-drop, take_at, drop_at}
use borrow.Author.Tests.{not-true, lt-ltb, le-ltb}
use Rattle.smtlib.specs.Bytes.{part}
use Rattle.smtlib.proofs.Cuts.{and_left, and_right}
use Rattle.table.specs.Folds.{every}
use Rattle.parser.specs.declared.words.Word.TheVariants.{Open, Close, End}
use Rattle.parser.specs.declared.words.Token.{Token}
use Rattle.parser.specs.Words.{white, inside, ahead, past, word_of, word_from, token_at}
use Rattle.parser.specs.Grammar.{Stands}

-- these bytes stand from a place on
pub record Rest (text : List ℕ) (at : ℕ) (l : List ℕ) : Type 0 where
  pub is : drop at text ≡ l

pub further : {text : List ℕ} {at : ℕ} (x : List ℕ) {l : List ℕ} → Rest text at (x ++ l) → Rest text (at + length x) l
further {text} {at} x {l} r = record { is = sym (drop-drop (length x) at text) ∙ ap (drop (length x)) r.is ∙ drop_at x l (length x) refl }

module _ {text : List ℕ} {at b : ℕ} {l : List ℕ} (r : Rest text at (b ∷ l)) where
  within : at < length text
  within = let e = ap length r.is in omega (arith, length-drop at text, e)

  byte : get_or text at 0 ≡ b
  byte = let e : at + 0 ≡ at = omega arith in ap (λ (k : ℕ). get_or text k 0) (sym e) ∙ sym (get_or-drop at text 0 0)
      ∙ ap (λ (m : List ℕ). get_or m 0 0) r.is

  -- what is no white space begins a word
  begins : white b ≡ false → token_at text at ≡ word_from text at
  unfolding token_at ahead
  begins w =
      let e : past white text at ≡ at = ap (λ (m : List ℕ). at + ahead white m) r.is ∙ rw w (omega arith) in
      rw (e, lt-ltb at (length text) within)

pub opened : {text : List ℕ} {at : ℕ} {l : List ℕ} → Rest text at (40 ∷ l) → Stands text at Open (at + 1)
unfolding word_from
opened {text} {at} r = let e = begins r refl in record { here = rw (e, byte r); after = rw (e, byte r) }

pub closed : {text : List ℕ} {at : ℕ} {l : List ℕ} → Rest text at (41 ∷ l) → Stands text at Close (at + 1)
unfolding word_from
closed {text} {at} r = let e = begins r refl in record { here = rw (e, byte r); after = rw (e, byte r) }

-- a space is passed over
same-past : (text : List ℕ) (a b : ℕ) → past white text a ≡ past white text b → token_at text a ≡ token_at text b
unfolding token_at
same-past text a b e = ap (λ (from : ℕ). cond (ltb from (length text)) (word_from text from) (record { word = End; from = from; next = from })) e

pub spaced : {text : List ℕ} {at : ℕ} {l : List ℕ} → Rest text at (32 ∷ l) → token_at text at ≡ token_at text (at + 1)
unfolding ahead
spaced {text} {at} {l} r =
    let e : past white text at ≡ at + suc (ahead white l) = ap (λ (m : List ℕ). at + ahead white m) r.is in
    let f : past white text (at + 1) ≡ (at + 1) + ahead white l = ap (λ (m : List ℕ). (at + 1) + ahead white m) (further (32 ∷ []) r).is in
    same-past text at (at + 1) (e ∙ omega arith ∙ sym f)

-- a run of bytes, up to one that ends it
ahead-run : (w : List ℕ) (c : ℕ) (l : List ℕ) → every inside w ≡ true → inside c ≡ false → ahead inside (w ++ (c ∷ l)) ≡ length w
unfolding ahead every
ahead-run [] c l e f = rw f
ahead-run (b ∷ bs) c l e f = rw (and_left (inside b) (every inside bs) e, ahead-run bs c l (and_right (inside b) (every inside bs) e) f)

pub record Run (text : List ℕ) (at : ℕ) (w : List ℕ) (to : ℕ) : Type 0 where
  pub stands : Stands text at (word_of w) to
  pub bytes_are : part text (token_at text at).from (token_at text at).next ≡ w

pub run : {text : List ℕ} {at : ℕ} (b : ℕ) (bs : List ℕ) (c : ℕ) (l : List ℕ) → Rest text at ((b ∷ bs) ++ (c ∷ l)) → every inside (b ∷ bs) ≡ true
    → inside c ≡ false → Run text at (b ∷ bs) (at + length (b ∷ bs))
unfolding word_from every
run {text} {at} b bs c l r e f =
    let w = b ∷ bs in
    let i = and_left (inside b) (every inside bs) e in
    let j = and_left (not (white b) && not (eqb b 40)) (not (eqb b 41)) i in
    let t = begins r (not-true (white b) (and_left (not (white b)) (not (eqb b 40)) j)) in
    let open-not = not-true (eqb b 40) (and_right (not (white b)) (not (eqb b 40)) j) in
    let close-not = not-true (eqb b 41) (and_right (not (white b) && not (eqb b 40)) (not (eqb b 41)) i) in
    let end : past inside text at ≡ at + length w = ap (λ (m : List ℕ). at + ahead inside m) r.is ∙ ap (λ (k : ℕ). at + k) (ahead-run w c l e f) in
    let count : (at + length w) - at ≡ length w = omega arith in
    let here : part text at (at + length w) ≡ w = ap (λ (k : ℕ). take k (drop at text)) count ∙ ap (take (length w)) r.is
    ∙ take_at w (c ∷ l) (length w) refl in
    let token : token_at text at ≡ record { word = word_of w; from = at; next = at + length w } = t
    ∙ rw (byte r, open-not, close-not, end) (ap (λ (m : List ℕ). record { word = word_of m; from = at; next = at + length w }) here) in
    record { stands = record { here = ap (λ (x : Token). x.word) token; after = ap (λ (x : Token). x.next) token }; bytes_are = rw token here }

-- a run after a space
pub spaced_run : {text : List ℕ} {at : ℕ} (b : ℕ) (bs : List ℕ) (c : ℕ) (l : List ℕ) → Rest text at (32 ∷ ((b ∷ bs) ++ (c ∷ l)))
    → every inside (b ∷ bs) ≡ true → inside c ≡ false → Run text at (b ∷ bs) ((at + 1) + length (b ∷ bs))
spaced_run {text} {at} b bs c l r e f =
    let g = run b bs c l (further (32 ∷ []) r) e f in
    let t = spaced r in
    record {
      stands = record { here = ap (λ (x : Token). x.word) t ∙ g.stands.here; after = ap (λ (x : Token). x.next) t ∙ g.stands.after };
      bytes_are = ap (λ (x : Token). part text x.from x.next) t ∙ g.bytes_are;
    }

-- the end
pub ends : {text : List ℕ} {at : ℕ} → Rest text at [] → (token_at text at).word ≡ End
unfolding token_at ahead
ends {text} {at} r =
    let e : past white text at ≡ at = ap (λ (m : List ℕ). at + ahead white m) r.is ∙ omega arith in
    rw (e, le-ltb at (length text) (omega (arith, length-drop at text, ap length r.is)))
