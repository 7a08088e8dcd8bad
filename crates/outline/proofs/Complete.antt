-- No word of a text is left out, and what is left after a word.
-- Assumes nothing.
use mathlib.Core.Path.{◌≡◌, refl, sym, ap, ◌∙◌}
use mathlib.Core.Bool.{Bool, true, false, cond}
use mathlib.Core.List.{List, [], ◌∷◌}
use Prim.Native.Nat.{ℕ, zero, suc, ◌+◌, ◌≤◌, ◌<◌}
use native.Mathlib.Omega.{arith}
use lib.Dec.{ltb}
use lib.ListN.{length}
use borrow.Author.Tests.{ltb-true, le-ltb, lt-ltb}
use Rattle.parser.specs.declared.words.Token.{Token}
use Rattle.parser.specs.Words.{white, past, token_at}
use Rattle.parser.proofs.Ahead.{not_before}
use Rattle.parser.proofs.Forward.{words_move, end_at_end}
use Rattle.parser.proofs.Unique.{kind}
use Rattle.parser.proofs.Tokens.{Shape, ending, opening, closing, running, shape}
use Rattle.outline.specs.Scanning.{words_from, words_left}
use Rattle.outline.specs.Laws.{NoWordLeft}

-- a word begins where it is sought or later, and takes a byte at least
record Word (text : List ℕ) (at : ℕ) (t : Token) : Type 0 where
  begins : at ≤ t.from
  moves : t.from < length text → at < t.next

word_by_lem : (text : List ℕ) (at : ℕ) (t : Token) → t ≡ token_at text at → Shape text (past white text at) t → Word text at t
word_by_lem text at t e (ending w f n) =
    record {
      begins = omega (arith, not_before white text at);
      moves = λ h. absurd (
          let g : t.from ≡ (token_at text at).from = ap (λ (x : Token). x.from) e in
          let z = end_at_end text at (omega (arith, not_before white text at)) (ap (λ (x : Token). x.word) (sym e) ∙ w) in
          omega (arith, z.0)
          );
    }
word_by_lem text at t e (opening h b w f n) = record { begins = omega (arith, not_before white text at); moves = λ _. omega (arith, not_before white text at) }
word_by_lem text at t e (closing h b w f n) = record { begins = omega (arith, not_before white text at); moves = λ _. omega (arith, not_before white text at) }
word_by_lem text at t e (running r f n) =
    let m = words_move text at (λ z. omega (arith, r.high, ap kind (ap (λ (x : Token). x.word) e ∙ z))) in
    let g : t.next ≡ (token_at text at).next = ap (λ (x : Token). x.next) e in
    record { begins = omega (arith, not_before white text at); moves = λ _. omega (arith, m.begins, m.moves) }

word_at : (text : List ℕ) (at : ℕ) → Word text at (token_at text at)
word_at text at = word_by_lem text at (token_at text at) refl (shape text at)

-- one word more than there can be
step-more : (n : ℕ) (text : List ℕ) (at : ℕ) → ((token_at text at).from < length text → words_from (suc n) text (length text) (token_at text at).next ≡ words_from n text (length text) (token_at text at).next)
    → words_from (suc (suc n)) text (length text) at ≡ words_from (suc n) text (length text) at
unfolding words_from
step-more n text at = go (ltb (token_at text at).from (length text)) refl
  where
    go : (b : Bool) → ltb (token_at text at).from (length text) ≡ b
        → ((token_at text at).from < length text → words_from (suc n) text (length text) (token_at text at).next ≡ words_from n text (length text) (token_at text at).next)
        → cond b (token_at text at ∷ words_from (suc n) text (length text) (token_at text at).next) [] ≡ cond b (token_at text at ∷ words_from n text (length text) (token_at text at).next) []
    go true e f = ap (λ (l : List Token). token_at text at ∷ l) (f (ltb-true (token_at text at).from (length text) e))
    go false e f = refl

one_more_lem : (n : ℕ) (text : List ℕ) (at : ℕ) → length text ≤ at + n → words_from (suc n) text (length text) at ≡ words_from n text (length text) at
unfolding words_from
one_more_lem zero text at h =
    ap (λ (b : Bool). cond b (token_at text at ∷ []) []) (le-ltb (token_at text at).from (length text) (omega (arith, (word_at text at).begins)))
one_more_lem (suc n) text at h = step-more n text at (λ b. one_more_lem n text (token_at text at).next (omega (arith, h, (word_at text at).moves b)))

pub no-word_left : NoWordLeft
no-word_left text zero = let z : 0 + length text ≡ length text = omega arith in ap (λ (n : ℕ). words_from n text (length text) 0) z
no-word_left text (suc more) =
    let z : suc more + length text ≡ suc (more + length text) = omega arith in
    ap (λ (n : ℕ). words_from n text (length text) 0) z ∙ one_more_lem (more + length text) text 0 (omega arith) ∙ no-word_left text more

-- what is left at a place begins with the word there, unless that is at the text's end
module _ (text : List ℕ) (at : ℕ) (t : Token) (is : t ≡ token_at text at) where
  none_of : (n : ℕ) → length text ≤ t.from → words_from n text (length text) at ≡ []
  unfolding words_from
  none_of zero b = refl
  none_of (suc n) b = rw (sym is, le-ltb t.from (length text) b)

  one_of : (n : ℕ) → n ≡ length text → t.from < length text → words_from n text (length text) at ≡ t ∷ words_from n text (length text) t.next
  unfolding words_from
  one_of zero e b = absurd (omega arith)
  one_of (suc n) e b =
      let w : Word text at t = rw is (word_at text at) in
      let m : length text ≤ t.next + n = omega (arith, w.moves b) in
      rw (sym is, lt-ltb t.from (length text) b) (ap (λ (l : List Token). t ∷ l) (sym (one_more_lem n text t.next m)))

  pub none_left : length text ≤ t.from → words_left text at ≡ []
  none_left b = none_of (length text) b

  pub one_left : t.from < length text → words_left text at ≡ t ∷ words_left text t.next
  one_left b = one_of (length text) refl b
