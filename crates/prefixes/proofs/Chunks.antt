-- The words of a text as runs of its bytes, and white space between them.
-- Assumes nothing.
use mathlib.Core.Path.{◌≡◌, refl, sym, ap, ◌∙◌}
use mathlib.Core.Bool.{Bool, true, false, cond, ◌&&◌}
use mathlib.Core.List.{List, [], ◌∷◌, ◌++◌}
use Prim.Native.Nat.{ℕ, zero, suc, ◌+◌, ◌-◌, ◌<◌, ◌≤◌}
use native.Mathlib.Numerals.{add-one}
use native.Mathlib.Omega.{arith}
use lib.Dec.{eqb, ltb}
use lib.ListN.{length, take, drop, get_or, drop_of_length-le}
use lib.Seq.{drop-cons, drop-drop}
use borrow.Author.Tests.{eqb-true, ltb-true, ltb-false}
use Rattle.smtlib.specs.Bytes.{part}
use Rattle.smtlib.proofs.Cuts.{and_left, and_right}
use Rattle.table.specs.Folds.{every}
use Rattle.parser.specs.declared.words.Word.{Word}
use Rattle.parser.specs.declared.words.Word.TheVariants.{Open, Close, End}
use Rattle.parser.specs.declared.words.Token.{Token}
use Rattle.parser.specs.Words.{white, inside, word_of, ahead, past, word_from, token_at}
use Rattle.parser.proofs.Accepts.{both}
use Rattle.parser.proofs.Forward.{stopped, end_at_end}
use Rattle.prefixes.specs.Spelling.{is_end, spelt_at, spelt_from, Lexeme, lexeme, lexemes}
use Rattle.prefixes.specs.Laws.{begins_inside, ends_inside, WhiteSpace}
use Rattle.prefixes.proofs.Spellings.{not_the_end, onto, words_are}

-- a byte in front of the first run
unfoldable pub joined : ℕ → List (List ℕ) → List (List ℕ)
joined b [] = (b ∷ []) ∷ []
joined b (w ∷ ws) = (b ∷ w) ∷ ws

-- the bytes of each word
unfoldable pub chunks : List ℕ → List (List ℕ)
chunks [] = []
chunks (b ∷ bs) =
    let rest = chunks bs in
    cond (white b) rest (cond (inside b && begins_inside bs) (joined b rest) ((b ∷ []) ∷ rest))

-- White space changes none of them

white_outside : (b : ℕ) → white b ≡ true → inside b ≡ false
white_outside b e = rw e

and_false : (a : Bool) → a && false ≡ false
and_false true = refl
and_false false = refl

put : (c : ℕ) → white c ≡ true → (u v : List ℕ) → ends_inside u && begins_inside v ≡ false → chunks (u ++ v) ≡ chunks (u ++ (c ∷ v))
unfolding chunks ends_inside
put c e [] v h = rw e
put c e (b ∷ []) v h = rw (e, h, and_false (inside b))
put c e (b ∷ d ∷ us) v h = rw (put c e (d ∷ us) v h)

-- White space in front, a parenthesis, a run

skipped : (l : List ℕ) → chunks l ≡ chunks (drop (ahead white l) l)
unfolding chunks ahead
skipped [] = refl
skipped (b ∷ bs) = go (white b) refl (skipped bs)
  where
    go : (t : Bool) → white b ≡ t → chunks bs ≡ chunks (drop (ahead white bs) bs)
        → chunks (b ∷ bs) ≡ chunks (drop (cond t (suc (ahead white bs)) 0) (b ∷ bs))
    go true e h = rw e h
    go false e h = refl

none_ahead : (l : List ℕ) → begins_inside l ≡ false → ahead inside l ≡ 0
unfolding ahead
none_ahead [] e = refl
none_ahead (b ∷ bs) e = rw e

inside-not-white : (b : ℕ) → inside b ≡ true → white b ≡ false
inside-not-white b e = go (white b) refl
  where
    go : (t : Bool) → white b ≡ t → t ≡ false
    go true f = sym e ∙ white_outside b f
    go false f = refl

chunk_on : (b : ℕ) (bs : List ℕ) → inside b ≡ true → begins_inside bs ≡ true → chunks (b ∷ bs) ≡ joined b (chunks bs)
unfolding chunks
chunk_on b bs e f = rw (e, f, inside-not-white b e)

chunk_alone : (b : ℕ) (bs : List ℕ) → white b ≡ false → inside b && begins_inside bs ≡ false → chunks (b ∷ bs) ≡ (b ∷ []) ∷ chunks bs
unfolding chunks
chunk_alone b bs w e = rw (e, w)

run : (b : ℕ) (bs : List ℕ) → inside b ≡ true → chunks (b ∷ bs) ≡ (b ∷ take (ahead inside bs) bs) ∷ chunks (drop (ahead inside bs) bs)
unfolding joined ahead
run b [] e = chunk_alone b [] (inside-not-white b e) (and_false (inside b))
run b (d ∷ ds) e = go (inside d) refl (run d ds)
  where
    go : (t : Bool) → inside d ≡ t → (inside d ≡ true → chunks (d ∷ ds) ≡ (d ∷ take (ahead inside ds) ds) ∷ chunks (drop (ahead inside ds) ds))
        → chunks (b ∷ d ∷ ds) ≡ (b ∷ take (cond t (suc (ahead inside ds)) 0) (d ∷ ds)) ∷ chunks (drop (cond t (suc (ahead inside ds)) 0) (d ∷ ds))
    go true f h = chunk_on b (d ∷ ds) e f ∙ ap (joined b) (h f)
    go false f h = chunk_alone b (d ∷ ds) (inside-not-white b e) (ap (λ (t : Bool). inside b && t) f ∙ and_false (inside b))

-- The word at a place

unfoldable pub chunk_word : List ℕ → Word
chunk_word w = cond (eqb (get_or w 0 0) 40) Open (cond (eqb (get_or w 0 0) 41) Close (word_of w))

-- bytes that are a word, where a space follows
pub record Piece (w : List ℕ) : Type 0 where
  pub spaced : (l : List ℕ) → chunks (w ++ (32 ∷ l)) ≡ w ∷ chunks l

space : (l : List ℕ) → chunks (32 ∷ l) ≡ chunks l
unfolding chunks
space l = refl

piece_alone : (b : ℕ) → white b ≡ false → inside b ≡ false → Piece (b ∷ [])
piece_alone b w e =
    record { spaced = λ l. chunk_alone b (32 ∷ l) w (ap (λ (t : Bool). t && false) e) ∙ ap (λ (ws : List (List ℕ)). (b ∷ []) ∷ ws) (space l) }

piece_run : (b : ℕ) (bs l : List ℕ) → inside b ≡ true → every inside bs ≡ true → chunks ((b ∷ bs) ++ (32 ∷ l)) ≡ (b ∷ bs) ∷ chunks l
unfolding joined every
piece_run b [] l e h = chunk_alone b (32 ∷ l) (inside-not-white b e) (and_false (inside b)) ∙ ap (λ (ws : List (List ℕ)). (b ∷ []) ∷ ws) (space l)
piece_run b (d ∷ ds) l e h =
    let f = and_left (inside d) (every inside ds) h in
    chunk_on b ((d ∷ ds) ++ (32 ∷ l)) e f ∙ ap (joined b) (piece_run d ds l f (and_right (inside d) (every inside ds) h))

all-inside : (l : List ℕ) → every inside (take (ahead inside l) l) ≡ true
unfolding every ahead
all-inside [] = refl
all-inside (b ∷ bs) = go (inside b) refl (all-inside bs)
  where
    go : (t : Bool) → inside b ≡ t → every inside (take (ahead inside bs) bs) ≡ true
        → every inside (take (cond t (suc (ahead inside bs)) 0) (b ∷ bs)) ≡ true
    go true e h = both e h
    go false e h = refl

pub record Splits (text : List ℕ) (from : ℕ) (t : Token) : Type 0 where
  pub bytes : chunks (drop from text) ≡ part text t.from t.next ∷ chunks (drop t.next text)
  pub word : t.word ≡ chunk_word (part text t.from t.next)
  pub piece : Piece (part text t.from t.next)

module _ (text : List ℕ) (from : ℕ) (h : from < length text) (ink : white (get_or text from 0) ≡ false) where
  abbrev b : ℕ
  b = get_or text from 0

  abbrev rest : List ℕ
  rest = drop (suc from) text

  one : take (from + 1 - from) (drop from text) ≡ b ∷ []
  one = let e : from + 1 - from ≡ 1 = omega arith in rw (e, drop-cons text from 0 h)

  -- a parenthesis
  bracket : inside b ≡ false → (w : Word) → w ≡ chunk_word (b ∷ []) → Splits text from (record { word = w; from = from; next = from + 1 })
  bracket e w f =
      record {
        bytes = ap chunks (drop-cons text from 0 h) ∙ chunk_alone b rest ink (ap (λ (t : Bool). t && begins_inside rest) e) ∙ rw (one, add-one from);
        word = rw one f;
        piece = rw one (piece_alone b ink e);
      }

  running : inside b ≡ true → eqb b 40 ≡ false → eqb b 41 ≡ false
      → Splits text from (record { word = word_of (part text from (past inside text from)); from = from; next = past inside text from })
  unfolding ahead chunk_word
  running e f g =
      let k = ahead inside (drop from text) in
      let d = drop-cons text from 0 h in
      let n : past inside text from - from ≡ k = omega arith in
      let m : k ≡ suc (ahead inside rest) = ap (ahead inside) d ∙ rw e in
      let w : part text from (past inside text from) ≡ b ∷ take (ahead inside rest) rest = rw (n, m, d) in
      let past_drop : drop (past inside text from) text ≡ drop (ahead inside rest) rest = sym (drop-drop k from text) ∙ rw (m, d) in
      record {
        bytes = ap chunks d ∙ run b rest e ∙ rw (w, past_drop);
        word = rw (w, f, g);
        piece = rw w (record { spaced = λ l. piece_run b (take (ahead inside rest) rest) l e (all-inside rest) });
      }

  word_splits : Splits text from (word_from text from)
  unfolding word_from chunk_word
  word_splits = go (eqb b 40) (eqb b 41) refl refl
    where
      go : (t u : Bool) → eqb b 40 ≡ t → eqb b 41 ≡ u → Splits text from (cond t (record { word = Open; from = from; next = from + 1 })
          (cond u (record { word = Close; from = from; next = from + 1 })
          (record { word = word_of (part text from (past inside text from)); from = from; next = past inside text from })))
      go true u e f = bracket (ap inside (eqb-true b 40 e)) Open (rw e)
      go false true e f = bracket (ap inside (eqb-true b 41 f)) Close (rw (e, f))
      go false false e f = running (rw (ink, e, f)) e f

-- the end
pub record Last (text : List ℕ) (at : ℕ) (t : Token) : Type 0 where
  pub none : chunks (drop at text) ≡ []
  pub word : t.word ≡ End
  pub bytes : part text t.from t.next ≡ []

pub data Reaches (text : List ℕ) (at : ℕ) (t : Token) : Type 0 where
  splits : Splits text at t → is_end t.word ≡ false → Reaches text at t
  last : Last text at t → Reaches text at t

module _ (text : List ℕ) (at : ℕ) (low : at ≤ length text) where
  abbrev start : ℕ
  start = past white text at

  skip : chunks (drop at text) ≡ chunks (drop start text)
  skip = skipped (drop at text) ∙ ap chunks (drop-drop (ahead white (drop at text)) at text)

  not_last : (t : Token) → token_at text at ≡ t → t.from < length text → is_end t.word ≡ false
  not_last t e h =
      not_the_end t.word (λ z. let y = end_at_end text at low (ap (λ (x : Token). x.word) e ∙ z) in omega (arith, y.0, ap (λ (x : Token). x.from) e))

  from_is : (from : ℕ) → (word_from text from).from ≡ from
  unfolding word_from
  from_is from = go (eqb (get_or text from 0) 40) (eqb (get_or text from 0) 41)
    where
      go : (t u : Bool) → (cond {A = Token} t (record { word = Open; from = from; next = from + 1 })
          (cond u (record { word = Close; from = from; next = from + 1 })
          (record { word = word_of (part text from (past inside text from)); from = from; next = past inside text from }))).from ≡ from
      go true u = refl
      go false true = refl
      go false false = refl

  pub reaches : Reaches text at (token_at text at)
  unfolding token_at chunks
  reaches = go (ltb start (length text)) refl refl
    where
      go : (t : Bool) → ltb start (length text) ≡ t
          → token_at text at ≡ cond t (word_from text start) (record { word = End; from = start; next = start })
          → Reaches text at (cond t (word_from text start) (record { word = End; from = start; next = start }))
      go true e f =
          let h = ltb-true start (length text) e in
          let w = word_splits text start h (stopped white text at low h) in
          splits (record {
            bytes = skip ∙ w.bytes;
            word = w.word;
            piece = w.piece;
          }) (not_last (word_from text start) f (omega (arith, from_is start)))
      go false e f =
          let n : start - start ≡ 0 = omega arith in
          last (record { none = skip ∙ ap chunks (drop_of_length-le text (ltb-false start (length text) e)); word = refl; bytes = rw n })

-- The words are those of the runs, and the end

unfoldable pub spoken : List (List ℕ) → List Lexeme
spoken [] = record { word = End; bytes = [] } ∷ []
spoken (w ∷ ws) = record { word = chunk_word w; bytes = w } ∷ spoken ws

module _ (text : List ℕ) where
  speaks_by : (at : ℕ) → Reaches text at (token_at text at)
      → (is_end (token_at text at).word ≡ false → lexemes (spelt_from text (token_at text at).next) ≡ spoken (chunks (drop (token_at text at).next text)))
      → lexemes (spelt_from text at) ≡ spoken (chunks (drop at text))
  unfolding lexemes spoken
  speaks_by at (splits s e) rest =
      let w = part text (token_at text at).from (token_at text at).next in
      ap lexemes (words_are text at) ∙ ap (λ (b : Bool). lexeme (spelt_at text at) ∷ lexemes (cond b [] (spelt_from text (token_at text at).next))) e
      ∙ ap (λ (l : List Lexeme). lexeme (spelt_at text at) ∷ l) (rest e)
      ∙ ap (λ (x : Word). record { word = x; bytes = w } ∷ spoken (chunks (drop (token_at text at).next text))) s.word ∙ ap spoken (sym s.bytes)
  speaks_by at (last l) rest =
      ap lexemes (words_are text at)
      ∙ ap (λ (b : Bool). lexeme (spelt_at text at) ∷ lexemes (cond b [] (spelt_from text (token_at text at).next))) (ap is_end l.word)
      ∙ rw (l.word, l.bytes, l.none)

  pub speaks : (n at : ℕ) → at ≤ length text → length text ≤ n + at → lexemes (spelt_from text at) ≡ spoken (chunks (drop at text))
  speaks zero at low fuel =
      speaks_by at (reaches text at low) (λ e. let o = onto text at e in absurd (omega (arith, o.further, o.within)))
  speaks (suc n) at low fuel =
      speaks_by at (reaches text at low) (λ e. let o = onto text at e in speaks n (token_at text at).next o.within (omega (arith, o.further)))

pub white_space : WhiteSpace
white_space u v c e h =
    record {
      same = speaks (u ++ v) (length (u ++ v)) 0 (omega arith) (omega arith) ∙ ap spoken (put c e u v h)
          ∙ sym (speaks (u ++ (c ∷ v)) (length (u ++ (c ∷ v))) 0 (omega arith) (omega arith));
    }
