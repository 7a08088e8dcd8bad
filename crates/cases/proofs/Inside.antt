-- The laws hold.
-- Assumes nothing.
use Rattle.std.proofs.Common.{◌≡◌, ℕ, ◌+◌, Bool, true, false, cond, ◌&&◌, eqb, List, length, Option, Result, Ok, Err, refl, ap, ◌∙◌, arith}
use Rattle.cases.specs.declared.error.ErrorKind.TheVariants.{RoomFull, ByteOrderMark}
use Rattle.cases.specs.declared.error.ParseError.{ParseError}
use Rattle.cases.specs.declared.lexer.Lexer.TheVariants.{Blank}
use Rattle.cases.specs.declared.lexer.Token.{Token}
use Rattle.cases.specs.declared.parser.Fault.{Fault}
use Rattle.cases.specs.declared.parser.Parser.{Parser}
use Rattle.cases.specs.Lexing.{lex}
use Rattle.cases.specs.Parsing.{table_limit, others_limit, size, start, parse, case_of}
use Rattle.cases.specs.Places.{token_start}
use Rattle.cases.specs.Numbers.{numbers_in}
use Rattle.cases.specs.Reading.{capped, marked, error_at_token, answer, seen, wholly}
use Rattle.cases.specs.Laws.{RunsInside, NeverShort, TableLines}
use Rattle.cases.proofs.Answers.{ended_err, answer_ok}
use Rattle.cases.proofs.Totals.{start-sound, parse-short, case_read, case_not, capped-most, capped-least, sound, all, placed}
use Rattle.cases.proofs.TableLines.{parse_lines}

-- what is told as 6 is 6: 15 stands for another kind
not-mark : (text : List ℕ) (f : Fault) (m : ParseError) → error_at_token text f ≡ m → m.kind ≡ RoomFull → f.kind ≡ RoomFull
not-mark text f m e z = go (eqb (token_start text f.at) 0 && marked text) (ap (λ (x : ParseError). x.kind) e ∙ z)
  where
    go : (b : Bool) → cond b ByteOrderMark f.kind ≡ RoomFull → f.kind ≡ RoomFull
    go true i = absurd cc
    go false i = i

pub runs_inside : RunsInside
runs_inside text room c e =
    let whole : Bool = wholly text in
    let tokens : List (Option Token) = lex whole Blank (seen text) in
    let n : ℕ = length (numbers_in tokens) in
    answer_ok (seen text) whole n (parse (capped room) 0 start tokens) c e
    (λ p is of.
    let kept = sound (capped room) tokens p is in
    let total = all (capped room) tokens p is in
    let read = case_read p whole n c of in
    let count = read.count in
    let table = ap size read.table in
    record {
      held = omega (arith, kept.few, capped-most room);
      count = read.count;
      placed = placed (capped room) tokens p is whole n n c (omega arith) of;
      table = omega (arith, kept.table);
      others = omega (arith, kept.others);
    })

pub never_short : NeverShort
never_short text room b m e z =
    let whole : Bool = wholly text in
    let tokens : List (Option Token) = lex whole Blank (seen text) in
    go (parse (capped room) 0 start tokens) refl e
  where
    go : (r : Result Parser Fault) → parse (capped room) 0 start (lex (wholly text) Blank (seen text)) ≡ r → answer (seen text) (wholly text) (length (numbers_in (lex (wholly text) Blank (seen text)))) r ≡ Err m → ⊥
    go (Ok p) is d = case_not p (wholly text) _ m.kind (ended_err (seen text) (case_of p (wholly text) _) m d) z
    go (Err f) is d =
        let same : error_at_token (seen text) f ≡ m = cc in
        parse-short (capped room) 0 start (lex (wholly text) Blank (seen text)) f (start-sound (capped room)) (capped-least (table_limit + others_limit) room b (omega arith)) is (not-mark (seen text) f m same z)

pub table_lines : TableLines
table_lines text room c e =
    let whole : Bool = wholly text in
    let tokens : List (Option Token) = lex whole Blank (seen text) in
    let n : ℕ = length (numbers_in tokens) in
    answer_ok (seen text) whole n (parse (capped room) 0 start tokens) c e
    (λ p is of.
    let all = parse_lines whole Blank (seen text) (capped room) 0 start 1 p (start-sound (capped room)) is in
    let read = case_read p whole n c of in
    let table = ap size read.table in
    omega arith)
