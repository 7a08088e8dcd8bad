-- A scan of a text: what is left of the tokens after some bytes, and of parsing them.
-- Assumes nothing.
use mathlib.Core.Path.{◌≡◌, refl, sym, ap, ◌∙◌}
use mathlib.Core.Bool.{Bool}
use mathlib.Core.List.{List, [], ◌∷◌}
use Prim.Native.Nat.{ℕ, ◌+◌, ◌≤◌, ◌<◌}
use native.Mathlib.Numerals.{add-one}
use native.Mathlib.Omega.{arith}
use lib.ListN.{length, drop, get_or, drop_of_length-le}
use lib.Seq.{drop-cons}
use Rattle.std.specs.Prelude.{Option, Result, Ok, Err}
use Rattle.cases.specs.declared.lexer.Lexer.{Lexer}
use Rattle.cases.specs.declared.lexer.Lexer.TheVariants.{Blank}
use Rattle.cases.specs.declared.lexer.Token.{Token}
use Rattle.cases.specs.declared.parser.Fault.{Fault}
use Rattle.cases.specs.declared.parser.Parser.{Parser}
use Rattle.cases.specs.Lexing.{lexed, token_at, token_at_end, lex}
use Rattle.cases.specs.Parsing.{start, then_on, taken, parse}

-- from byte i on
module _ (whole : Bool) (text : List ℕ) (l : Lexer) (i : ℕ) where
  pub lex_turn : i < length text → lex whole l (drop i text) ≡ token_at l (get_or text i 0) ∷ lex whole (lexed l (get_or text i 0)) (drop (i + 1) text)
  unfolding lex
  lex_turn h = ap (lex whole l) (drop-cons text i 0 h) ∙ ap (λ (k : ℕ). token_at l (get_or text i 0) ∷ lex whole (lexed l (get_or text i 0)) (drop k text)) (sym (add-one i))

  pub lex_end : length text ≤ i → lex whole l (drop i text) ≡ token_at_end l whole ∷ []
  unfolding lex
  lex_end h = ap (lex whole l) (drop_of_length-le text h)

-- the parse has come to byte i
pub record Parsed (whole : Bool) (room : ℕ) (text : List ℕ) (l : Lexer) (p : Parser) (i : ℕ) : Type 0 where
  pub within : i ≤ length text
  pub is : parse room 0 start (lex whole Blank text) ≡ parse room i p (lex whole l (drop i text))

pub parsed_none : (whole : Bool) (room : ℕ) (text : List ℕ) → Parsed whole room text Blank start 0
parsed_none whole room text = record { within = omega arith; is = refl }

module _ (whole : Bool) (room : ℕ) (text : List ℕ) (l : Lexer) (p : Parser) where
  module _ (i : ℕ) (h : Parsed whole room text l p i) where
    -- byte i ends a token, or none
    module _ (b : i < length text) (token : Option Token) (t : token ≡ token_at l (get_or text i 0)) where
      turn : parse room 0 start (lex whole Blank text) ≡ then_on (taken room i p token) (λ q. parse room (i + 1) q (lex whole (lexed l (get_or text i 0)) (drop (i + 1) text)))
      unfolding parse
      turn =
          h.is
          ∙ ap (parse room i p) (lex_turn whole text l i b)
          ∙ ap (λ (n : ℕ). then_on (taken room i p (token_at l (get_or text i 0))) (λ q. parse room n q (lex whole (lexed l (get_or text i 0)) (drop (i + 1) text)))) (sym (add-one i))
          ∙ ap (λ (u : Option Token). then_on (taken room i p u) (λ q. parse room (i + 1) q (lex whole (lexed l (get_or text i 0)) (drop (i + 1) text)))) (sym t)

      pub parsed_more : (q : Parser) → Ok q ≡ taken room i p token → (k : Lexer) → k ≡ lexed l (get_or text i 0) → Parsed whole room text k q (i + 1)
      parsed_more q e k f =
          record {
            within = omega arith;
            is =
                turn
                ∙ ap (λ (r : Result Parser Fault). then_on r (λ q. parse room (i + 1) q (lex whole (lexed l (get_or text i 0)) (drop (i + 1) text)))) (sym e)
                ∙ ap (λ (r : Lexer). parse room (i + 1) q (lex whole r (drop (i + 1) text))) (sym f);
          }

      pub parsed_fault : (fault : Fault) → Err fault ≡ taken room i p token → Err fault ≡ parse room 0 start (lex whole Blank text)
      parsed_fault fault e =
          sym
          (turn
          ∙ ap (λ (r : Result Parser Fault). then_on r (λ q. parse room (i + 1) q (lex whole (lexed l (get_or text i 0)) (drop (i + 1) text)))) (sym e))

    pub parsed_all : length text ≤ i → taken room (length text) p (token_at_end l whole) ≡ parse room 0 start (lex whole Blank text)
    unfolding parse
    parsed_all end =
        let e : i ≡ length text = let b : i ≤ length text = h.within in omega arith in
        sym
        (h.is
        ∙ ap (parse room i p) (lex_end whole text l i end)
        ∙ last (taken room i p (token_at_end l whole))
        ∙ ap (λ (n : ℕ). taken room n p (token_at_end l whole)) e)
      where
        last : (r : Result Parser Fault) → then_on r Ok ≡ r
        last (Ok q) = refl
        last (Err fault) = refl
