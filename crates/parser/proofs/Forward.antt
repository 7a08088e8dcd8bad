-- Reading a word moves on, and stays in the text.
-- Assumes nothing.
use mathlib.Core.Path.{◌≡◌, refl, sym, ap, ◌∙◌}
use mathlib.Core.Bool.{Bool, true, false, cond}
use mathlib.Core.List.{List, [], ◌∷◌}
use Prim.Native.Nat.{ℕ, suc, ◌+◌, ◌-◌, ◌<◌, ◌≤◌}
use native.Mathlib.Omega.{arith}
use lib.Dec.{eqb, ltb}
use lib.ListN.{length, drop, get_or, length-drop}
use lib.Seq.{drop-cons, get_or-drop}
use borrow.Author.Tests.{ltb-true, ltb-false}
use Rattle.smtlib.specs.Bytes.{bytes, part, same_bytes, place_in, is_in}
use Rattle.smtlib.specs.Numerals.{value_of}
use Rattle.smtlib.specs.Symbols.{operator_of}
use Rattle.parser.specs.declared.words.Word.{Word}
use Rattle.parser.specs.declared.words.Word.TheVariants.{Open, Close, Keyword, Operator, Literal, Width, Name, Other, End}
use Rattle.parser.specs.declared.words.Token.{Token}
use Rattle.parser.specs.Words.{white, inside, keywords, keyword_at, binary, width, is_name, sort_named, plain_of, word_of, ahead, past, word_from, token_at, Moves, WordsMove, EndAtEnd}
use Rattle.parser.proofs.Ahead.{not-past_end}

-- What stops a search, and what does not

stops : (test : ℕ → Bool) (l : List ℕ) → ahead test l < length l → test (get_or l (ahead test l) 0) ≡ false
unfolding ahead
stops test [] h = absurd (omega arith)
stops test (b ∷ bs) h = go (test b) refl (stops test bs) h
  where
    go : (t : Bool) → test b ≡ t → (ahead test bs < length bs → test (get_or bs (ahead test bs) 0) ≡ false) → cond t (suc (ahead test bs)) 0 < suc (length bs) → test (get_or (b ∷ bs) (cond t (suc (ahead test bs)) 0) 0) ≡ false
    go true e f k = f (omega arith)
    go false e f k = e

pub stopped : (test : ℕ → Bool) (text : List ℕ) (at : ℕ) → at ≤ length text → past test text at < length text → test (get_or text (past test text at) 0) ≡ false
stopped test text at low h =
    let e = length-drop at text in
    ap test (sym (get_or-drop at text (ahead test (drop at text)) 0)) ∙ stops test (drop at text) (omega arith)

pub one_ahead : (test : ℕ → Bool) (text : List ℕ) (at : ℕ) → at < length text → test (get_or text at 0) ≡ true → at < past test text at
unfolding ahead
one_ahead test text at h e =
    let f : ahead test (drop at text) ≡ suc (ahead test (drop (suc at) text)) = ap (ahead test) (drop-cons text at 0 h) ∙ rw e in
    omega arith

-- No run of bytes is the end

is_end : Word → Bool
is_end Open = false
is_end Close = false
is_end (Keyword n) = false
is_end (Operator n) = false
is_end (Literal n v) = false
is_end (Width n) = false
is_end (Name n) = false
is_end Other = false
is_end End = true

record NoEnd (w : Word) : Type 0 where
  is : is_end w ≡ false

either : (t : Bool) {x y : Word} → NoEnd x → NoEnd y → NoEnd (cond t x y)
either true e f = e
either false e f = f

word_is_no_end : (w : List ℕ) → NoEnd (word_of w)
unfolding word_of plain_of is_end
word_is_no_end w =
    either (is_in keywords w) {x = Keyword (keyword_at (place_in keywords w))} (record { is = refl })
    (either (ltb 0 (operator_of w)) {x = Operator (operator_of w)} (record { is = refl })
    (either (same_bytes w (bytes "true")) {x = Literal 0 1} (record { is = refl })
    (either (same_bytes w (bytes "false")) {x = Literal 0 0} (record { is = refl })
    (either (binary w) {x = Literal (length w - 2) (value_of 2 0 (drop 2 w))} (record { is = refl })
    (either (width w) {x = Width (value_of 10 0 w)} (record { is = refl })
    (either (is_name w) {x = Name (sort_named w)} {y = Other} (record { is = refl }) (record { is = refl })))))))

-- A word that begins at a place of the text

record Read (text : List ℕ) (from : ℕ) (t : Token) : Type 0 where
  begins : t.from ≡ from
  moves : from < t.next
  inside_text : t.next ≤ length text
  word : NoEnd t.word

read_from : (text : List ℕ) (from : ℕ) → from < length text → white (get_or text from 0) ≡ false → Read text from (word_from text from)
unfolding word_from is_end
read_from text from h w = go (eqb (get_or text from 0) 40) (eqb (get_or text from 0) 41) refl refl
  where
    go : (t u : Bool) → eqb (get_or text from 0) 40 ≡ t → eqb (get_or text from 0) 41 ≡ u
        → Read text from (cond t (record { word = Open; from = from; next = from + 1 })
        (cond u (record { word = Close; from = from; next = from + 1 })
        (record { word = word_of (part text from (past inside text from)); from = from; next = past inside text from })))
    go true u e f = record { begins = refl; moves = omega arith; inside_text = omega arith; word = record { is = refl } }
    go false true e f = record { begins = refl; moves = omega arith; inside_text = omega arith; word = record { is = refl } }
    go false false e f =
        record { begins = refl; moves = one_ahead inside text from h (rw (w, e, f)); inside_text = not-past_end inside text from (omega arith); word = word_is_no_end (part text from (past inside text from)) }

-- The word at a place, or the end

module _ (text : List ℕ) (at : ℕ) where
  word-there : ltb (past white text at) (length text) ≡ true → token_at text at ≡ word_from text (past white text at)
  unfolding token_at
  word-there e = rw e

  end_there : ltb (past white text at) (length text) ≡ false → token_at text at ≡ record { word = End; from = past white text at; next = past white text at }
  unfolding token_at
  end_there e = rw e

  read_at : past white text at < length text → Read text (past white text at) (word_from text (past white text at))
  read_at h = read_from text (past white text at) h (stopped white text at (omega arith) h)

pub words_move : WordsMove
words_move text at h = go (ltb (past white text at) (length text)) refl
  where
    go : (t : Bool) → ltb (past white text at) (length text) ≡ t → Moves text at
    go true e =
        let r = read_at text at (ltb-true (past white text at) (length text) e) in
        let f : (token_at text at).from ≡ past white text at = ap (λ (t : Token). t.from) (word-there text at e) ∙ r.begins in
        let n : (token_at text at).next ≡ (word_from text (past white text at)).next = ap (λ (t : Token). t.next) (word-there text at e) in
        record { begins = omega arith; moves = omega (arith, r.moves); within = omega (arith, r.inside_text) }
    go false e = absurd (h (ap (λ (t : Token). t.word) (end_there text at e)))

pub end_at_end : EndAtEnd
unfolding is_end
end_at_end text at low' h = go (ltb (past white text at) (length text)) refl
  where
    go : (t : Bool) → ltb (past white text at) (length text) ≡ t → ((token_at text at).from ≡ length text) × ((token_at text at).next ≡ length text)
    go true e =
        let r = read_at text at (ltb-true (past white text at) (length text) e) in
        let f : true ≡ false = sym (ap is_end (sym (ap (λ (t : Token). t.word) (word-there text at e)) ∙ h)) ∙ r.word.is in
        absurd (let z : ◌≡◌ {A = ℕ} 0 1 = cc in omega arith)
    go false e =
        let low : length text ≤ past white text at = ltb-false (past white text at) (length text) e in
        let high : past white text at ≤ length text = not-past_end white text at low' in
        let is : past white text at ≡ length text = omega arith in
        (ap (λ (t : Token). t.from) (end_there text at e) ∙ is, ap (λ (t : Token). t.next) (end_there text at e) ∙ is)
