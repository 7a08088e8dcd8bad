-- A text of given words: their bytes, each followed by a space.
-- Assumes nothing.
use Rattle.std.specs.Prelude.{None}
use mathlib.Core.Path.{◌≡◌, refl, ap, ◌∙◌}
use mathlib.Core.List.{List, [], ◌∷◌, ◌++◌}
use Prim.Native.Nat.{ℕ, zero, suc, ◌<◌}
use native.Mathlib.Omega.{arith}
use lib.ListN.{length}
use Rattle.smtlib.specs.Bytes.{bytes, same_bytes, place_in}
use Rattle.smtlib.specs.Numerals.{value_of}
use Rattle.table.specs.Folds.{every}
use Rattle.parser.specs.declared.words.Word.{Word}
use Rattle.parser.specs.declared.words.Word.TheVariants.{Operator, Literal, Width, Name, End}
use Rattle.parser.specs.Words.{among, symbol, private, plain_of, word_of}
use Rattle.parser.proofs.Wanted.{word_by}
use Rattle.prefixes.specs.Spelling.{Spelt, Lexeme, lexemes, spelling}
use Rattle.prefixes.specs.Laws.{words_of}
use Rattle.prefixes.proofs.Chunks.{joined, chunks, Piece, chunk_word, spoken, speaks}

-- bytes that are a word
pub record Written (w : Word) : Type 0 where
  pub text : List ℕ
  pub piece : Piece text
  pub is : chunk_word text ≡ w

pub coded_text : (code : ℕ) → suc code < 10 → Written (word_by (suc code))
unfolding chunks joined chunk_word same_bytes place_in value_of every among symbol private plain_of word_of
coded_text zero h = record { text = bytes "("; piece = record { spaced = λ l. refl }; is = refl }
coded_text (suc zero) h = record { text = bytes ")"; piece = record { spaced = λ l. refl }; is = refl }
coded_text (suc (suc zero)) h = record { text = bytes "declare-const"; piece = record { spaced = λ l. refl }; is = refl }
coded_text (suc (suc (suc zero))) h = record { text = bytes "assert"; piece = record { spaced = λ l. refl }; is = refl }
coded_text (suc (suc (suc (suc zero)))) h = record { text = bytes "check-sat"; piece = record { spaced = λ l. refl }; is = refl }
coded_text (suc (suc (suc (suc (suc zero))))) h = record { text = bytes "_"; piece = record { spaced = λ l. refl }; is = refl }
coded_text (suc (suc (suc (suc (suc (suc zero)))))) h = record { text = bytes "Bool"; piece = record { spaced = λ l. refl }; is = refl }
coded_text (suc (suc (suc (suc (suc (suc (suc zero))))))) h = record { text = bytes "BitVec"; piece = record { spaced = λ l. refl }; is = refl }
coded_text (suc (suc (suc (suc (suc (suc (suc (suc zero)))))))) h = record { text = bytes "Array"; piece = record { spaced = λ l. refl }; is = refl }
coded_text (suc (suc (suc (suc (suc (suc (suc (suc (suc n))))))))) h = absurd (omega arith)

pub a_width : Written (Width 1)
unfolding chunks joined chunk_word same_bytes place_in value_of every among symbol private plain_of word_of
a_width = record { text = bytes "1"; piece = record { spaced = λ l. refl }; is = refl }

pub a_constant : Written (Literal 0 1)
unfolding chunks joined chunk_word same_bytes place_in value_of every among symbol private plain_of word_of
a_constant = record { text = bytes "true"; piece = record { spaced = λ l. refl }; is = refl }

pub a_name : Written (Name None)
unfolding chunks joined chunk_word same_bytes place_in value_of every among symbol private plain_of word_of
a_name = record { text = bytes "a"; piece = record { spaced = λ l. refl }; is = refl }

pub an_operator : Written (Operator 2)
unfolding chunks joined chunk_word same_bytes place_in value_of every among symbol private plain_of word_of
an_operator = record { text = bytes "not"; piece = record { spaced = λ l. refl }; is = refl }

-- words that can be written, and the end
pub data Spells : List Word → Type 0 where
  only_end : Spells (End ∷ [])
  and_written : {w : Word} {ws : List Word} → Written w → Spells ws → Spells (w ∷ ws)

pieces : {ws : List Word} → Spells ws → List (List ℕ)
pieces only_end = []
pieces (and_written w s) = w.text ∷ pieces s

spaced : List (List ℕ) → List ℕ
spaced [] = []
spaced (w ∷ ws) = w ++ (32 ∷ spaced ws)

spaced_chunks : {ws : List Word} (s : Spells ws) → chunks (spaced (pieces s)) ≡ pieces s
unfolding pieces spaced chunks
spaced_chunks only_end = refl
spaced_chunks (and_written w s) = w.piece.spaced (spaced (pieces s)) ∙ ap (λ (l : List (List ℕ)). w.text ∷ l) (spaced_chunks s)

words_in : List Lexeme → List Word
words_in [] = []
words_in (l ∷ ls) = l.word ∷ words_in ls

words_in_lem : (ws : List Spelt) → words_of ws ≡ words_in (lexemes ws)
unfolding words_of words_in lexemes
words_in_lem [] = refl
words_in_lem (w ∷ ws) = ap (λ (l : List Word). w.word ∷ l) (words_in_lem ws)

spoken_words : {ws : List Word} (s : Spells ws) → words_in (spoken (pieces s)) ≡ ws
unfolding words_in spoken pieces
spoken_words only_end = refl
spoken_words (and_written {w = v} w s) =
    ap (λ (x : Word). x ∷ words_in (spoken (pieces s))) w.is ∙ ap (λ (l : List Word). v ∷ l) (spoken_words s)

-- a text of these words
pub record Text (ws : List Word) : Type 0 where
  pub text : List ℕ
  pub words_are : words_of (spelling text) ≡ ws

pub text_of : {ws : List Word} → Spells ws → Text ws
text_of s =
    let t = spaced (pieces s) in
    record {
      text = t;
      words_are = words_in_lem (spelling t) ∙ ap words_in (speaks t (length t) 0 (omega arith) (omega arith) ∙ ap spoken (spaced_chunks s))
          ∙ spoken_words s;
    }
