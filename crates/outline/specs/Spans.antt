-- The bytes of a term as they were typed.
-- Assumes nothing.
use Rattle.std.specs.Prelude.{Bool, cond, ◌&&◌, List, [], ◌∷◌, ℕ, zero, suc, ◌+◌, ◌-◌, eqb, length, get_or}
use Rattle.parser.specs.declared.words.Token.{Token}
use Rattle.outline.specs.declared.scan.Scan.{Scan}
use Rattle.outline.specs.declared.scan.Span.{Span}
use Rattle.outline.specs.Scanning.{all_words, kind_of, lists, joins, doubles, adds, spanned, start, step}

-- parentheses closed and not yet opened, going back over a byte
abbrev pub back : ℕ → ℕ → ℕ
back b depth = cond (eqb b 41) (depth + 1) (cond (eqb b 40) (depth - 1) depth)

-- the innermost parenthesis that is open before a place, after so many closed ones behind it; the text's length where there is none
unfoldable pub open_before : List ℕ → ℕ → ℕ → ℕ
open_before text zero depth = length text
open_before text (suc k) depth =
    let rest = open_before text k (back (get_or text k 0) depth) in
    cond (eqb (get_or text k 0) 40 && eqb depth 0) k rest

abbrev pub enclosing : List ℕ → ℕ → ℕ
enclosing text place = open_before text place 0

-- the bytes of the term that a word adds: the list that it closes; the assert that is joined; the sole assert; else the word
abbrev pub span_at : List ℕ → Scan → Token → Span
span_at text s t =
    cond (lists s (kind_of t.word)) (spanned (enclosing text t.from) t.next)
    (cond (joins s (kind_of t.word)) (spanned s.begun t.next)
    (cond (doubles s (kind_of t.word)) s.last
    (spanned t.from t.next)))

-- the word adds the term of a number
abbrev pub is_term : Scan → Token → ℕ → Bool
is_term s t term = adds s (kind_of t.word) && eqb s.terms term

-- where a list of words adds a term
unfoldable pub span_in : List ℕ → ℕ → Scan → List Token → Span
span_in text term s [] = spanned (length text) (length text)
span_in text term s (t ∷ ts) =
    let rest = span_in text term (step s t) ts in
    cond (is_term s t term) (span_at text s t) rest

abbrev pub span_of : List ℕ → ℕ → Span
span_of text term = span_in text term start (all_words text)
