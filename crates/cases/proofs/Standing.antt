-- The lines of a part's tokens, byte by byte, for any function of them.
-- Assumes nothing.
use Rattle.std.proofs.Common.{◌≡◌, ℕ, zero, suc, ◌+◌, ◌-◌, ◌≤◌, ◌<◌, Bool, true, false, cond, ◌&&◌, eqb, List, [], ◌∷◌, length, drop, get_or, slice_get, Option, Some, None, refl, sym, ap, ◌∙◌, add-one, drop-cons, arith}
use Rattle.std.proofs.Math.ListN.{drop_of_length-le}
use borrow.Author.Tests.{eqb-true}
use Rattle.cases.specs.declared.part.Part.{Part}
use Rattle.cases.specs.declared.lexer.Lexer.{Lexer}
use Rattle.cases.specs.declared.lexer.Lexer.TheVariants.{Blank}
use Rattle.cases.specs.declared.lexer.Token.{Token}
use Rattle.cases.specs.declared.lines.OddLine.{OddLine}
use Rattle.cases.specs.Places.{feed}
use Rattle.cases.specs.Lexing.{lexed, token_at, token_at_end, lex}
use Rattle.cases.specs.Lines.{part_after, belongs, lines_from, lines_within, odd, counted, few, odd_after}
use Rattle.cases.proofs.Booleans.{never}
use Rattle.cases.proofs.Feeds.{feed-most}

-- a line more, where there is a hit
abbrev pub hitting : Bool → ℕ → List ℕ → List ℕ
hitting hit line later = cond hit (line ∷ later) later

module _ (heading : Bool) (part : ℕ) (whole : Bool) (text : List ℕ) where
  -- the lines that are left from byte i on
  abbrev pub rest : Lexer → Option Part → ℕ → ℕ → List ℕ
  rest l now line i = lines_from heading part now line (drop i text) (lex whole l (drop i text))

  module _ {A B : Type 0} (F : A → List ℕ → B) (begin : A) where
    -- the lines are known up to byte i: what is left of them is the whole
    pub record Reached (l : Lexer) (now : Option Part) (line : ℕ) (a : A) (i : ℕ) : Type 0 where
      pub within : i ≤ length text
      pub small : line ≤ i + 1
      pub is : F begin (lines_within heading part text whole) ≡ F a (rest l now line i)

    pub reached-none : Reached Blank None 1 begin 0
    reached-none = record { within = omega arith; small = omega arith; is = refl }

    module _ (l : Lexer) (now : Option Part) (line : ℕ) (a : A) (i : ℕ) (h : Reached l now line a i) where
      -- at byte i a token ends that is looked for, or not
      module _ (inside : i < length text) (token : Option Token) (t : token ≡ token_at l (get_or text i 0)) (hit : Bool) (b : hit ≡ belongs heading part now token) where
        turn : rest l now line i ≡ hitting hit line (rest (lexed l (get_or text i 0)) (part_after now token) (line + feed (get_or text i 0)) (i + 1))
        unfolding lines_from lex
        turn =
            let c : ℕ = get_or text i 0 in
            ap (λ (bs : List ℕ). lines_from heading part now line bs (lex whole l bs)) (drop-cons text i 0 inside)
            ∙ ap (λ (k : ℕ). hitting (belongs heading part now (token_at l c)) line (lines_from heading part (part_after now (token_at l c)) (line + feed c) (drop k text) (lex whole (lexed l c) (drop k text)))) (sym (add-one i))
            ∙ ap (λ (u : Option Token). hitting (belongs heading part now u) line (rest (lexed l c) (part_after now u) (line + feed c) (i + 1))) (sym t)
            ∙ ap (λ (u : Bool). hitting u line (rest (lexed l c) (part_after now token) (line + feed c) (i + 1))) (sym b)

        pub reached-more : (n : ℕ) → n ≡ feed (get_or text i 0) → (later : Option Part) → later ≡ part_after now token → (k : Lexer) → k ≡ lexed l (get_or text i 0)
            → (x : A) → ((r : List ℕ) → F a (hitting hit line r) ≡ F x r) → Reached k later (line + n) x (i + 1)
        reached-more n e later f k g x same =
            record {
              within = omega arith;
              small = omega (arith, feed-most (get_or text i 0), h.small);
              is =
                  h.is
                  ∙ ap (F a) turn
                  ∙ same (rest (lexed l (get_or text i 0)) (part_after now token) (line + feed (get_or text i 0)) (i + 1))
                  ∙ ap (λ (u : ℕ). F x (rest (lexed l (get_or text i 0)) (part_after now token) (line + u) (i + 1))) (sym e)
                  ∙ ap (λ (u : Option Part). F x (rest (lexed l (get_or text i 0)) u (line + n) (i + 1))) (sym f)
                  ∙ ap (λ (u : Lexer). F x (rest u later (line + n) (i + 1))) (sym g);
            }

        pub reached-here : (x : B) → ((r : List ℕ) → x ≡ F a (hitting hit line r)) → x ≡ F begin (lines_within heading part text whole)
        reached-here x same = same (rest (lexed l (get_or text i 0)) (part_after now token) (line + feed (get_or text i 0)) (i + 1)) ∙ ap (F a) (sym turn) ∙ sym h.is

      -- the token that the end ends
      pub reached-all : length text ≤ i → (token : Option Token) → token ≡ token_at_end l whole → (hit : Bool) → hit ≡ belongs heading part now token
          → F a (hitting hit line []) ≡ F begin (lines_within heading part text whole)
      unfolding lines_from lex
      reached-all end token t hit b =
          sym
          (h.is
          ∙ ap (λ (bs : List ℕ). F a (lines_from heading part now line bs (lex whole l bs))) (drop_of_length-le text end)
          ∙ ap (λ (u : Option Token). F a (hitting (belongs heading part now u) line [])) (sym t)
          ∙ ap (λ (u : Bool). F a (hitting u line [])) (sym b))

-- number k of lines

abbrev pub nth : ℕ → List ℕ → Option ℕ
nth k lines = slice_get lines k

pub nth_here : (hit : Bool) (left line : ℕ) → (hit && eqb left 0) ≡ true → (r : List ℕ) → Some line ≡ nth left (hitting hit line r)
nth_here true zero line e r = refl
nth_here true (suc left) line e r = absurd (let z = eqb-true (suc left) 0 e in omega arith)
nth_here false left line e r = never e

pub nth_on : (hit : Bool) (left line : ℕ) → (hit && eqb left 0) ≡ false → (r : List ℕ) → nth left (hitting hit line r) ≡ nth (left - cond hit 1 0) r
nth_on true zero line e r = never (sym e)
nth_on true (suc left) line e r = let same : left ≡ suc left - 1 = omega arith in ap (λ (k : ℕ). nth k r) same
nth_on false left line e r = let same : left ≡ left - 0 = omega arith in ap (λ (k : ℕ). nth k r) same

-- the first odd one

pub odd-here : (hit : Bool) (last : Option OddLine) (line : ℕ) → (hit && odd last line) ≡ true → (r : List ℕ) → last ≡ odd_after last (hitting hit line r)
unfolding odd_after
odd-here true last line e r = rw e
odd-here false last line e r = never e

pub odd_on : (hit : Bool) (last : Option OddLine) (line : ℕ) → (hit && odd last line) ≡ false → (r : List ℕ) → odd_after last (hitting hit line r) ≡ odd_after (cond hit (counted last line) last) r
unfolding odd_after
odd_on true last line e r = rw e
odd_on false last line e r = refl

-- one more at most
pub fewer-still : (last : Option OddLine) (m n : ℕ) → m ≤ n → few last m → few last n
fewer-still None m n b f = tt
fewer-still (Some last) m n b f = omega arith

pub counted-few : (hit : Bool) (last : Option OddLine) (line i : ℕ) → few last i → few (cond hit (counted last line) last) (i + 1)
counted-few true None line i b = omega arith
counted-few true (Some last) line i b = go (eqb line last.line)
  where
    go : (same : Bool) → cond same (last.count + 1) 1 ≤ i + 1
    go true = omega arith
    go false = omega arith
counted-few false last line i b = fewer-still last i (i + 1) (omega arith) b
