-- The words of a text in order, each with its bytes and its place: Req 02.
-- Assumes nothing.
use Rattle.std.specs.Prelude.{◌≡◌, Bool, true, false, cond, List, [], ◌∷◌, ℕ, zero, suc, ◌-◌, length}
use Rattle.smtlib.specs.Bytes.{part}
use Rattle.parser.specs.declared.words.Word.{Word}
use Rattle.parser.specs.declared.words.Word.TheVariants.{Open, Close, Keyword, Operator, Literal, Width, Name, Other, End}
use Rattle.parser.specs.Words.{token_at}

-- a word, its bytes and the place of its first byte
pub record Spelt : Type 0 where
  pub word : Word
  pub bytes : List ℕ
  pub from : ℕ

abbrev pub is_end : Word → Bool
is_end Open = false
is_end Close = false
is_end (Keyword k) = false
is_end (Operator op) = false
is_end (Literal n v) = false
is_end (Width w) = false
is_end (Name k) = false
is_end Other = false
is_end End = true

-- the word at a place of a text
abbrev pub spelt_at : List ℕ → ℕ → Spelt
spelt_at text at =
    let t = token_at text at in
    record { word = t.word; bytes = part text t.from t.next; from = t.from }

-- the words from a place on, the end among them; no more than so many
unfoldable pub spelt_within : ℕ → List ℕ → ℕ → List Spelt
spelt_within zero text at = []
spelt_within (suc left) text at =
    let rest = spelt_within left text (token_at text at).next in
    spelt_at text at ∷ cond (is_end (token_at text at).word) [] rest

-- every word but the end takes a byte at least
abbrev pub spelt_from : List ℕ → ℕ → List Spelt
spelt_from text at = spelt_within (suc (length text - at)) text at

abbrev pub spelling : List ℕ → List Spelt
spelling text = spelt_from text 0

-- Words without their places

pub record Lexeme : Type 0 where
  pub word : Word
  pub bytes : List ℕ

abbrev pub lexeme : Spelt → Lexeme
lexeme w = record { word = w.word; bytes = w.bytes }

unfoldable pub lexemes : List Spelt → List Lexeme
lexemes [] = []
lexemes (w ∷ ws) = lexeme w ∷ lexemes ws

-- two texts of the same words, wherever they stand
pub record SameWords (a b : List ℕ) : Type 0 where
  pub same : lexemes (spelling a) ≡ lexemes (spelling b)
