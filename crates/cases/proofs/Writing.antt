-- Writing the numbers of a text, token by token.
-- Assumes nothing.
use mathlib.Core.Path.{◌≡◌, refl, sym, ap, ◌∙◌}
use mathlib.Core.Bool.{Bool}
use mathlib.Core.List.{List, [], ◌∷◌, ◌++◌}
use Prim.Native.Nat.{ℕ, suc, ◌+◌, ◌≤◌, ◌<◌}
use native.Mathlib.Numerals.{add-one}
use native.Mathlib.Omega.{arith}
use lib.ListN.{length, drop, get_or, set, length-set}
use lib.Seq.{sets, sets-eq}
use borrow.Author.Tests.{lt-ltb}
use Rattle.std.specs.Prelude.{Option, Some, None}
use Rattle.cases.specs.declared.lexer.Lexer.{Lexer}
use Rattle.cases.specs.declared.lexer.Lexer.TheVariants.{Blank}
use Rattle.cases.specs.declared.lexer.Token.{Token}
use Rattle.cases.specs.declared.lexer.Token.TheVariants.{Number, Heading, Unknown, TooLarge}
use Rattle.cases.specs.Lexing.{lexed, token_at, token_at_end, lex}
use Rattle.cases.specs.Numbers.{numbers_in, put, next}
use Rattle.cases.proofs.Scans.{lex_turn, lex_end}

-- the room after the tokens, of which the first number goes to place n
unfoldable pub writes : List ℕ → ℕ → List (Option Token) → List ℕ
writes room n [] = room
writes room n (token ∷ tokens) = writes (put room n token) (next (length room) n token) tokens

pub length-put : (room : List ℕ) (n : ℕ) (token : Option Token) → length (put room n token) ≡ length room
length-put room n None = refl
length-put room n (Some (Number v)) = length-set room n v
length-put room n (Some (Heading part)) = refl
length-put room n (Some Unknown) = refl
length-put room n (Some TooLarge) = refl

-- where the room has them all, its front holds the numbers
writes_sets : (room : List ℕ) (n : ℕ) (tokens : List (Option Token)) → n + length (numbers_in tokens) ≤ length room → writes room n tokens ≡ sets room n (numbers_in tokens)
unfolding writes numbers_in
writes_sets room n [] b = refl
writes_sets room n (None ∷ tokens) b = writes_sets room n tokens b
writes_sets room n (Some (Number v) ∷ tokens) b =
    rw (lt-ltb n (length room) (omega arith), add-one) (writes_sets (set room n v) (suc n) tokens (omega (arith, length-set room n v)))
writes_sets room n (Some (Heading part) ∷ tokens) b = writes_sets room n tokens b
writes_sets room n (Some Unknown ∷ tokens) b = writes_sets room n tokens b
writes_sets room n (Some TooLarge ∷ tokens) b = writes_sets room n tokens b

pub written : (room : List ℕ) (tokens : List (Option Token)) → length (numbers_in tokens) ≤ length room → writes room 0 tokens ≡ numbers_in tokens ++ drop (length (numbers_in tokens)) room
written room tokens b =
    let n : 0 + length (numbers_in tokens) ≡ length (numbers_in tokens) = omega arith in
    writes_sets room 0 tokens (omega arith) ∙ sets-eq (numbers_in tokens) room 0 (omega arith) ∙ ap (λ (k : ℕ). numbers_in tokens ++ drop k room) n

-- the writing has come to byte i
pub record Written (whole : Bool) (text begin : List ℕ) (room : List ℕ) (l : Lexer) (n i : ℕ) : Type 0 where
  pub within : i ≤ length text
  pub long : length room ≡ length begin
  pub is : writes begin 0 (lex whole Blank text) ≡ writes room n (lex whole l (drop i text))

module _ (whole : Bool) (text begin : List ℕ) where
  pub written_none : Written whole text begin begin Blank 0 0
  written_none = record { within = omega arith; long = refl; is = refl }

  module _ (room : List ℕ) (l : Lexer) (n i : ℕ) (h : Written whole text begin room l n i) where
    pub written-more : i < length text → (token : Option Token) → token ≡ token_at l (get_or text i 0) → (row : List ℕ) → row ≡ put room n token
        → (m : ℕ) → m ≡ next (length room) n token → (k : Lexer) → k ≡ lexed l (get_or text i 0) → Written whole text begin row k m (i + 1)
    unfolding writes
    written-more w token t row e m f k g =
        let b : ℕ = get_or text i 0 in
        let rest : List (Option Token) = lex whole (lexed l b) (drop (i + 1) text) in
        record {
          within = omega arith;
          long = ap length e ∙ length-put room n token ∙ h.long;
          is =
              h.is
              ∙ ap (writes room n) (lex_turn whole text l i w)
              ∙ ap (λ (u : Option Token). writes (put room n u) (next (length room) n u) rest) (sym t)
              ∙ ap (λ (u : List ℕ). writes u (next (length room) n token) rest) (sym e)
              ∙ ap (λ (u : ℕ). writes row u rest) (sym f)
              ∙ ap (λ (u : Lexer). writes row m (lex whole u (drop (i + 1) text))) (sym g);
        }

    pub written_all : length text ≤ i → put room n (token_at_end l whole) ≡ writes begin 0 (lex whole Blank text)
    unfolding writes
    written_all end = sym (h.is ∙ ap (writes room n) (lex_end whole text l i end))
