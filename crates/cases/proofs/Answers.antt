-- The answer, from the parse.
-- Assumes nothing.
use Rattle.std.proofs.Common.{◌≡◌, ℕ, ◌≤◌, Bool, List, length, Option, Result, Ok, Err, refl, ap, subst, arith}
use Rattle.cases.specs.declared.error.ErrorKind.{ErrorKind}
use Rattle.cases.specs.declared.error.ParseError.{ParseError}
use Rattle.cases.specs.declared.lexer.Lexer.TheVariants.{Blank}
use Rattle.cases.specs.declared.lexer.Token.{Token}
use Rattle.cases.specs.declared.parser.Fault.{Fault}
use Rattle.cases.specs.declared.parser.Parser.{Parser}
use Rattle.cases.specs.declared.Case.{Case}
use Rattle.cases.specs.Lexing.{lex}
use Rattle.cases.specs.Parsing.{start, parse, case_of}
use Rattle.cases.specs.Numbers.{numbers_in}
use Rattle.cases.specs.Reading.{capped, error_at_end, error_at_token, ended, answer, numbers_within, parsed_within, Placed, Spanned}
use Rattle.cases.proofs.Totals.{capped-most, sound, all, placed}
use Rattle.cases.proofs.Ways.{early, spanned}

pub ended_ok : (text : List ℕ) (r : Result Case ErrorKind) (c : Case) → ended text r ≡ Ok c → r ≡ Ok c
ended_ok text (Ok d) c e = cc
ended_ok text (Err kind) c e = absurd cc

pub ended_err : (text : List ℕ) (r : Result Case ErrorKind) (m : ParseError) → ended text r ≡ Err m → r ≡ Err m.kind
ended_err text (Ok d) m e = absurd cc
ended_err text (Err kind) m e = let same : error_at_end text kind ≡ m = cc in ap (λ (x : ParseError). Err x.kind) same

pub answer_ok : {P : Type 0} (text : List ℕ) (whole : Bool) (n : ℕ) (r : Result Parser Fault) (c : Case) → answer text whole n r ≡ Ok c → ((p : Parser) → r ≡ Ok p → case_of p whole n ≡ Ok c → P) → P
answer_ok text whole n (Ok p) c e k = k p refl (ended_ok text (case_of p whole n) c e)
answer_ok text whole n (Err f) c e k = absurd cc

-- a reading in a room for n numbers
module _ (text : List ℕ) (whole : Bool) (n : ℕ) where
  tokens : List (Option Token)
  tokens = lex whole Blank text

  pub read_inside : (c : Case) → parsed_within text whole (capped n) ≡ Ok c → (length (numbers_within text whole) ≤ n) × Placed c n
  unfolding tokens
  read_inside c e =
      answer_ok text whole (length (numbers_in tokens)) (parse (capped n) 0 start tokens) c e
      (λ p is of.
      let few = (sound (capped n) tokens p is).few in
      let total = all (capped n) tokens p is in
      (omega (arith, capped-most n), placed (capped n) tokens p is whole (length (numbers_in tokens)) n c (omega (arith, capped-most n)) of))

  ended_spanned : (r : Result Case ErrorKind) (e : ParseError) → ended text r ≡ Err e → Spanned e (length text)
  ended_spanned (Ok c) e is = absurd cc
  ended_spanned (Err kind) e is = let same : error_at_end text kind ≡ e = cc in subst (λ (m : ParseError). Spanned m (length text)) same (record { low = omega arith; high = omega arith })

  answer_spanned : (room : ℕ) (r : Result Parser Fault) (e : ParseError) → r ≡ parse room 0 start tokens → answer text whole (length (numbers_in tokens)) r ≡ Err e → Spanned e (length text)
  unfolding tokens
  answer_spanned room (Ok p) e is d = ended_spanned (case_of p whole (length (numbers_in tokens))) e d
  answer_spanned room (Err f) e is d =
      let same : error_at_token text f ≡ e = cc in
      subst (λ (m : ParseError). Spanned m (length text)) same (spanned text f (early room whole text f is))

  pub refused_inside : (e : ParseError) → parsed_within text whole (capped n) ≡ Err e → Spanned e (length text)
  unfolding tokens
  refused_inside e is = answer_spanned (capped n) (parse (capped n) 0 start tokens) e refl is
