-- The way back to a line's or a token's first byte, and the byte at which a fault is found.
-- Assumes nothing.
use Rattle.std.proofs.Common.{◌≡◌, ℕ, zero, suc, ◌+◌, ◌-◌, ◌≤◌, ◌<◌, Bool, true, false, cond, List, [], ◌∷◌, length, get_or, Option, Some, None, Result, Ok, Err, refl, sym, ap, ◌∙◌, arith}
use Rattle.cases.specs.declared.lexer.Lexer.{Lexer}
use Rattle.cases.specs.declared.lexer.Lexer.TheVariants.{Blank}
use Rattle.cases.specs.declared.lexer.Token.{Token}
use Rattle.cases.specs.declared.error.ErrorKind.{ErrorKind}
use Rattle.cases.specs.declared.error.ParseError.{ParseError}
use Rattle.cases.specs.declared.parser.Fault.{Fault}
use Rattle.cases.specs.declared.parser.Parser.{Parser}
use Rattle.cases.specs.declared.Case.{Case}
use Rattle.cases.specs.Places.{stops, back_to}
use Rattle.cases.specs.Lexing.{lexed, lex}
use Rattle.cases.specs.Parsing.{start, taken_by, found_at, taken, parse}
use Rattle.cases.specs.Reading.{error_at_token, Spanned, Inside}
use Rattle.cases.proofs.Results.{then_err}

module _ (lines : Bool) (text : List ℕ) where
  pub back_stop : (k b : ℕ) → 0 < k → b ≡ get_or text (k - 1) 0 → stops lines b ≡ true → k ≡ back_to lines text k
  unfolding back_to
  back_stop zero b h d e = absurd (omega arith)
  back_stop (suc k) b h d e =
      let same : suc k - 1 ≡ k = omega arith in
      rw (sym (ap (stops lines) (d ∙ ap (λ (n : ℕ). get_or text n 0) same)) ∙ e)

  pub back_on : (k b : ℕ) → 0 < k → b ≡ get_or text (k - 1) 0 → stops lines b ≡ false → back_to lines text k ≡ back_to lines text (k - 1)
  unfolding back_to
  back_on zero b h d e = absurd (omega arith)
  back_on (suc k) b h d e =
      let same : suc k - 1 ≡ k = omega arith in
      rw (sym (ap (stops lines) (d ∙ ap (λ (n : ℕ). get_or text n 0) same)) ∙ e) (ap (back_to lines text) (sym same))

  pub back_none : (k : ℕ) → k ≤ 0 → 0 ≡ back_to lines text k
  unfolding back_to
  back_none zero h = refl
  back_none (suc k) h = absurd (omega arith)

  pub back-most : (k : ℕ) → back_to lines text k ≤ k
  unfolding back_to
  back-most zero = omega arith
  back-most (suc k) = go (stops lines (get_or text k 0)) (back-most k)
    where
      go : (b : Bool) → back_to lines text k ≤ k → cond b (suc k) (back_to lines text k) ≤ suc k
      go true h = omega arith
      go false h = omega arith

-- A fault is found at a byte of the text, or at its end

module _ (n room : ℕ) where
  found-there : (at : ℕ) (r : Result Parser ErrorKind) (f : Fault) → found_at at r ≡ Err f → f.at ≡ at
  found-there at (Ok q) f e = absurd cc
  found-there at (Err kind) f e = cc

  taken-there : (at : ℕ) (p : Parser) (token : Option Token) (f : Fault) → taken room at p token ≡ Err f → f.at ≡ at
  taken-there at p None f e = absurd cc
  taken-there at p (Some token) f e = found-there at (taken_by room p token) f e

  parse_early : (at : ℕ) (p : Parser) (tokens : List (Option Token)) (f : Fault) → at + length tokens ≤ suc n → parse room at p tokens ≡ Err f → f.at ≤ n
  unfolding parse
  parse_early at p [] f b e = absurd cc
  parse_early at p (token ∷ tokens) f b e =
      then_err (taken room at p token) (λ q. parse room (suc at) q tokens) f e
      (λ i. let here = taken-there at p token f i in omega arith)
      (λ q i later. parse_early (suc at) q tokens f (omega arith) later)

lex-length : (whole : Bool) (l : Lexer) (text : List ℕ) → length (lex whole l text) ≡ suc (length text)
unfolding lex
lex-length whole l [] = refl
lex-length whole l (b ∷ bs) = ap suc (lex-length whole (lexed l b) bs)

pub early : (room : ℕ) (whole : Bool) (text : List ℕ) (f : Fault) → Err f ≡ parse room 0 start (lex whole Blank text) → f.at ≤ length text
early room whole text f is = parse_early (length text) room 0 start (lex whole Blank text) f (omega (arith, lex-length whole Blank text)) (sym is)

pub spanned : (text : List ℕ) (f : Fault) → f.at ≤ length text → Spanned (error_at_token text f) (length text)
spanned text f h = record { low = back-most false text f.at; high = h }

pub inside_longer : (r : Result Case ParseError) (room m n : ℕ) → m ≤ n → Inside r room m → Inside r room n
inside_longer (Ok c) room m n b h = h
inside_longer (Err e) room m n b h = record { low = h.low; high = omega (arith, h.high) }
