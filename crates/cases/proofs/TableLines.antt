-- The table of a parsed text has as many numbers as there are lines of them.
-- Assumes nothing.
use Rattle.std.proofs.Common.{◌≡◌, ℕ, suc, ◌+◌, Bool, true, false, cond, eqb, List, [], ◌∷◌, length, Option, Some, None, Ok, refl, sym, ap, subst, ◌∙◌, arith}
use Rattle.std.specs.Option.{option_map}
use Rattle.cases.specs.declared.part.Part.{Part}
use Rattle.cases.specs.declared.part.Part.TheVariants.{Table, Values, Cells, Allowance, Sheet}
use Rattle.cases.specs.declared.lexer.Lexer.{Lexer}
use Rattle.cases.specs.declared.lexer.Token.{Token}
use Rattle.cases.specs.declared.lexer.Token.TheVariants.{Number, Heading, Unknown, TooLarge}
use Rattle.cases.specs.declared.parser.Run.{Run}
use Rattle.cases.specs.declared.parser.Parser.{Parser}
use Rattle.cases.specs.Parts.{number_or_none}
use Rattle.cases.specs.Places.{feed}
use Rattle.cases.specs.Lexing.{lexed, token_at, token_at_end, lex}
use Rattle.cases.specs.Parsing.{run_of, size, size_of, begun, until, extended, headed_at, number_fault, counted_in, taken_by, taken, parse}
use Rattle.cases.specs.Lines.{part_after, belongs, lines_from}
use Rattle.cases.proofs.Results.{then_ok}
use Rattle.cases.proofs.Limits.{table_after, grown_size}
use Rattle.cases.proofs.Totals.{Sound, found_ok, taken-sound}

-- 1 where it is the table
abbrev tabled : Option Part → ℕ
tabled now = cond (eqb (number_or_none now) 1) 1 0

-- q is p with the token's number, if that is the table's
After : Parser → Option Token → Parser → Type 0
After p token q = (q.part ≡ part_after p.part token) × (size_of q Table ≡ size_of p Table + cond (belongs false 1 p.part token) 1 0)

module _ (room : ℕ) (p : Parser) (h : Sound room p) where
  more : (part : Part) → p.part ≡ Some part → size_of (extended p part) Table ≡ size_of p Table + tabled (Some part)
  more part now =
      table_after (λ r. size r ≡ size_of p Table + tabled (Some part)) p.runs part _ h.five
      (λ z.
      let one : tabled (Some part) ≡ 1 = ap (λ (k : Part). tabled (Some k)) z in
      let grown = ap (λ (k : Part). size (option_map (until (p.total + 1)) (run_of p k))) z ∙ grown_size (run_of p Table) p.total (h.runs Table) (h.reading (now ∙ ap Some z)) in
      omega arith)
      (λ ne. let none : tabled (Some part) ≡ 0 = other part ne in omega arith)
    where
      other : (part : Part) → (part ≡ Table → ⊥) → tabled (Some part) ≡ 0
      other Table ne = absurd (ne refl)
      other Values ne = refl
      other Cells ne = refl
      other Allowance ne = refl
      other Sheet ne = refl

  same : (part : Part) → run_of p part ≡ None → size_of (begun p part) Table ≡ size_of p Table
  same part none =
      table_after (λ r. size r ≡ size_of p Table) p.runs part _ h.five
      (λ z. let empty = ap size (ap (run_of p) (sym z) ∙ none) in omega arith)
      (λ _. refl)

  headed-after : (part : Part) (given : Option Run) → run_of p part ≡ given → (q : Parser) → headed_at p part given ≡ Ok q → After p (Some (Heading part)) q
  unfolding After
  headed-after part None none q e =
      let is : begun p part ≡ q = cc in
      subst (λ (r : Parser). (r.part ≡ Some part) × (size_of r Table ≡ size_of p Table + 0)) is (refl, let s = same part none in omega arith)
  headed-after part (Some run) given q e = absurd cc

  counted-after : (n : ℕ) (now : Option Part) → p.part ≡ now → (q : Parser) → counted_in p room now ≡ Ok q → After p (Some (Number n)) q
  unfolding After
  counted-after n None now q e = absurd cc
  counted-after n (Some part) now q e =
      then_ok (number_fault p part room) (λ _. Ok (extended p part)) q e
      (λ a i d.
      let is : extended p part ≡ q = cc in
      let hit : tabled p.part ≡ tabled (Some part) = ap (λ (k : Option Part). tabled k) now in
      subst (λ (r : Parser). (r.part ≡ p.part) × (size_of r Table ≡ size_of p Table + tabled p.part)) is
      (refl, more part now ∙ ap (λ (k : ℕ). size_of p Table + k) (sym hit)))

  taken_by-after : (token : Token) (q : Parser) → taken_by room p token ≡ Ok q → After p (Some token) q
  taken_by-after (Number n) q e = counted-after n p.part refl q e
  taken_by-after (Heading part) q e = headed-after part (run_of p part) refl q e
  taken_by-after Unknown q e = absurd cc
  taken_by-after TooLarge q e = absurd cc

  taken-after : (at : ℕ) (token : Option Token) (q : Parser) → taken room at p token ≡ Ok q → After p token q
  unfolding After
  taken-after at None q e =
      let is : p ≡ q = cc in
      subst (λ (r : Parser). (r.part ≡ p.part) × (size_of r Table ≡ size_of p Table + 0)) is (refl, omega arith)
  taken-after at (Some token) q e = taken_by-after token q (found_ok at (taken_by room p token) q e)

hits : (b : Bool) (line : ℕ) (lines : List ℕ) → length (cond b (line ∷ lines) lines) ≡ cond b 1 0 + length lines
hits true line lines = omega arith
hits false line lines = omega arith

pub parse_lines : (whole : Bool) (l : Lexer) (text : List ℕ) (room at : ℕ) (p : Parser) (line : ℕ) (q : Parser) → Sound room p → parse room at p (lex whole l text) ≡ Ok q
    → size_of q Table ≡ size_of p Table + length (lines_from false 1 p.part line text (lex whole l text))
unfolding parse lex lines_from After
parse_lines whole l [] room at p line q h e =
    let token = token_at_end l whole in
    then_ok (taken room at p token) Ok q e
    (λ r i later.
    let is : r ≡ q = cc in
    let after = taken-after room p h at token r i in
    let size_is = ap (λ (k : Parser). size_of k Table) is in
    omega (arith, after.1, hits (belongs false 1 p.part token) line []))
parse_lines whole l (b ∷ bs) room at p line q h e =
    let token = token_at l b in
    let tokens = lex whole (lexed l b) bs in
    then_ok (taken room at p token) (λ r. parse room (suc at) r tokens) q e
    (λ r i rest.
    let after = taken-after room p h at token r i in
    let later = parse_lines whole (lexed l b) bs room (suc at) r (line + feed b) q (taken-sound room at p token r h i) rest in
    let left = lines_from false 1 (part_after p.part token) (line + feed b) bs tokens in
    let same : length (lines_from false 1 r.part (line + feed b) bs tokens) ≡ length left = ap (λ (k : Option Part). length (lines_from false 1 k (line + feed b) bs tokens)) after.0 in
    omega (arith, later, after.1, same, hits (belongs false 1 p.part token) line left))
