-- Where a word stands: its first byte after white space, and the place after it.
-- Assumes nothing.
use mathlib.Core.Path.{◌≡◌, refl, sym, ap, ◌∙◌}
use mathlib.Core.Bool.{Bool, true, false, cond, not, ◌&&◌}
use mathlib.Core.List.{List, [], ◌∷◌}
use Prim.Native.Nat.{ℕ, ◌+◌, ◌-◌, ◌<◌, ◌≤◌}
use native.Mathlib.Omega.{arith}
use lib.Dec.{eqb, ltb, leb}
use lib.ListN.{length, get_or}
use borrow.Author.Tests.{ltb-true, leb-true, eqb-true, eqb-false, not-true}
use Rattle.smtlib.specs.Bytes.{bytes, part, same_bytes, is_in}
use Rattle.smtlib.specs.Numerals.{value_of}
use Rattle.smtlib.specs.Symbols.{operator_of}
use Rattle.smtlib.proofs.Cuts.{and_left, and_right}
use Rattle.table.specs.Folds.{every}
use Rattle.parser.specs.declared.words.Word.{Word}
use Rattle.parser.specs.declared.words.Word.TheVariants.{Open, Close, Keyword, Operator, Literal, Width, Name, Other, End}
use Rattle.parser.specs.declared.words.Token.{Token}
use Rattle.parser.specs.Words.{white, inside, between, digit, past, keywords, is_name, binary, width, plain_of, word_of, word_from, token_at}
use Rattle.parser.specs.Grammar.{Stands}
use Rattle.parser.proofs.Ahead.{not_before}
use Rattle.parser.proofs.Values.{not_larger}
use Rattle.parser.proofs.Unique.{kind}

-- a run of bytes is no parenthesis, and not the end
pub record Run (w : Word) : Type 0 where
  pub low : 2 ≤ kind w
  pub high : kind w ≤ 7

either : (b : Bool) {x y : Word} → Run x → Run y → Run (cond b x y)
either true p q = p
either false p q = q

plain-run : (w : List ℕ) → Run (plain_of w)
unfolding plain_of
plain-run w =
    either (binary w) (record { low = omega arith; high = omega arith })
    (either (width w) (record { low = omega arith; high = omega arith })
    (either (is_name w) (record { low = omega arith; high = omega arith })
    (record { low = omega arith; high = omega arith })))

word-run : (w : List ℕ) → Run (word_of w)
unfolding word_of
word-run w =
    either (is_in keywords w) (record { low = omega arith; high = omega arith })
    (either (ltb 0 (operator_of w)) (record { low = omega arith; high = omega arith })
    (either (same_bytes w (bytes "true")) (record { low = omega arith; high = omega arith })
    (either (same_bytes w (bytes "false")) (record { low = omega arith; high = omega arith })
    (plain-run w))))

-- what a word lacks to be a width of 1 or more
abbrev lacking : Word → ℕ
lacking Open = 0
lacking Close = 0
lacking (Keyword k) = 0
lacking (Operator op) = 0
lacking (Literal n v) = 0
lacking (Width w) = 1 - w
lacking (Name k) = 0
lacking Other = 0
lacking End = 0

pub record Limited (w : Word) : Type 0 where
  pub wide : lacking w ≡ 0

limited_if : (b : Bool) {x y : Word} → (b ≡ true → Limited x) → Limited y → Limited (cond b x y)
limited_if true p q = p refl
limited_if false p q = q

wide_enough : (w : List ℕ) → width w ≡ true → 1 ≤ value_of 10 0 w
unfolding every
wide_enough w e =
    let n = length w in
    let x = not (eqb (get_or w 0 0) 48) in
    let f = and_left (every digit w && between 1 2 n && x) (leb (value_of 10 0 w) 32) e in
    let first = eqb-false (get_or w 0 0) 48 (not-true (eqb (get_or w 0 0) 48) (and_right (every digit w && between 1 2 n) x f)) in
    let g = and_left (every digit w && between 1 2 n) x f in
    let long : 1 ≤ n = leb-true 1 n (and_left (leb 1 n) (leb n 2) (and_right (every digit w) (between 1 2 n) g)) in
    let low : 48 ≤ get_or w 0 0 = first-digit w long (and_left (every digit w) (between 1 2 n) g) in
    let whole = not_larger 10 w 0 0 0 refl long (omega arith) in
    omega arith
  where
    first-digit : (v : List ℕ) → 1 ≤ length v → every digit v ≡ true → 48 ≤ get_or v 0 0
    first-digit [] h d = absurd (omega arith)
    first-digit (b ∷ bs) h d = leb-true 48 b (and_left (leb 48 b) (leb b 57) (and_left (digit b) (every digit bs) d))

plain_limited : (w : List ℕ) → Limited (plain_of w)
unfolding plain_of
plain_limited w =
    limited_if (binary w) (λ e. record { wide = refl })
    (limited_if (width w) (λ e. record { wide = omega (arith, wide_enough w e) })
    (limited_if (is_name w) (λ e. record { wide = refl })
    (record { wide = refl })))

word_limited : (w : List ℕ) → Limited (word_of w)
unfolding word_of
word_limited w =
    limited_if (is_in keywords w) (λ e. record { wide = refl })
    (limited_if (ltb 0 (operator_of w)) (λ e. record { wide = refl })
    (limited_if (same_bytes w (bytes "true")) (λ e. record { wide = refl })
    (limited_if (same_bytes w (bytes "false")) (λ e. record { wide = refl })
    (plain_limited w))))

limited_from : (text : List ℕ) (from : ℕ) → Limited (word_from text from).word
unfolding word_from
limited_from text from = go (eqb (get_or text from 0) 40) (eqb (get_or text from 0) 41)
  where
    go : (b c : Bool) → Limited (cond {A = Token} b (record { word = Open; from = from; next = from + 1 }) (cond c (record { word = Close; from = from; next = from + 1 }) (record { word = word_of (part text from (past inside text from)); from = from; next = past inside text from }))).word
    go true c = record { wide = refl }
    go false true = record { wide = refl }
    go false false = word_limited (part text from (past inside text from))

pub limited : (text : List ℕ) (at : ℕ) → Limited (token_at text at).word
unfolding token_at
limited text at = go (ltb (past white text at) (length text))
  where
    go : (b : Bool) → Limited (cond b (word_from text (past white text at)) (record { word = End; from = past white text at; next = past white text at })).word
    go true = limited_from text (past white text at)
    go false = record { wide = refl }

pub no_zero : {text : List ℕ} {from n to : ℕ} → Stands text from (Width n) to → 1 ≤ n
no_zero {text} {from} {n} s = let e : lacking (Width n) ≡ 0 = ap lacking (sym s.here) ∙ (limited text from).wide in omega arith

-- the four words that a place can have
pub data Shape (text : List ℕ) (from : ℕ) : Token → Type 0 where
  ending : {t : Token} → t.word ≡ End → t.from ≡ from → t.next ≡ from → Shape text from t
  opening : {t : Token} → from < length text → get_or text from 0 ≡ 40 → t.word ≡ Open → t.from ≡ from → t.next ≡ from + 1 → Shape text from t
  closing : {t : Token} → from < length text → get_or text from 0 ≡ 41 → t.word ≡ Close → t.from ≡ from → t.next ≡ from + 1 → Shape text from t
  running : {t : Token} → Run t.word → t.from ≡ from → t.next ≡ past inside text from → Shape text from t

shape_from : (text : List ℕ) (from : ℕ) (b c : Bool) → from < length text → eqb (get_or text from 0) 40 ≡ b → eqb (get_or text from 0) 41 ≡ c
    → Shape text from (cond b (record { word = Open; from = from; next = from + 1 }) (cond c (record { word = Close; from = from; next = from + 1 }) (record { word = word_of (part text from (past inside text from)); from = from; next = past inside text from })))
shape_from text from true c h e f = opening h (eqb-true _ _ e) refl refl refl
shape_from text from false true h e f = closing h (eqb-true _ _ f) refl refl refl
shape_from text from false false h e f = running (word-run (part text from (past inside text from))) refl refl

shape_by : (text : List ℕ) (from : ℕ) (b : Bool) → ltb from (length text) ≡ b → Shape text from (cond b (word_from text from) (record { word = End; from = from; next = from }))
unfolding word_from
shape_by text from true e = shape_from text from (eqb (get_or text from 0) 40) (eqb (get_or text from 0) 41) (ltb-true _ _ e) refl refl
shape_by text from false e = ending refl refl refl

pub shape : (text : List ℕ) (at : ℕ) → Shape text (past white text at) (token_at text at)
unfolding token_at
shape text at = shape_by text (past white text at) (ltb (past white text at) (length text)) refl

-- a parenthesis: its byte, and the place after it
pub record Bracket (text : List ℕ) (at b : ℕ) : Type 0 where
  pub within : past white text at < length text
  pub byte : get_or text (past white text at) 0 ≡ b
  pub next : (token_at text at).next ≡ past white text at + 1

opened_by : (text : List ℕ) (at : ℕ) (t : Token) → t ≡ token_at text at → Shape text (past white text at) t → t.word ≡ Open → Bracket text at 40
opened_by text at t e (ending w f n) o = absurd (omega (arith, ap kind (sym w ∙ o)))
opened_by text at t e (opening h b w f n) o = record { within = h; byte = b; next = ap (λ (x : Token). x.next) (sym e) ∙ n }
opened_by text at t e (closing h b w f n) o = absurd (omega (arith, ap kind (sym w ∙ o)))
opened_by text at t e (running r f n) o = absurd (omega (arith, r.low, ap kind o))

pub opened : (text : List ℕ) (at : ℕ) → (token_at text at).word ≡ Open → Bracket text at 40
opened text at o = opened_by text at (token_at text at) refl (shape text at) o

closed_by_lem : (text : List ℕ) (at : ℕ) (t : Token) → t ≡ token_at text at → Shape text (past white text at) t → t.word ≡ Close → Bracket text at 41
closed_by_lem text at t e (ending w f n) o = absurd (omega (arith, ap kind (sym w ∙ o)))
closed_by_lem text at t e (opening h b w f n) o = absurd (omega (arith, ap kind (sym w ∙ o)))
closed_by_lem text at t e (closing h b w f n) o = record { within = h; byte = b; next = ap (λ (x : Token). x.next) (sym e) ∙ n }
closed_by_lem text at t e (running r f n) o = absurd (omega (arith, r.low, ap kind o))

pub closed : (text : List ℕ) (at : ℕ) → (token_at text at).word ≡ Close → Bracket text at 41
closed text at o = closed_by_lem text at (token_at text at) refl (shape text at) o

-- any other word is a run
pub record Runs (text : List ℕ) (at : ℕ) : Type 0 where
  pub first : (token_at text at).from ≡ past white text at
  pub next : (token_at text at).next ≡ past inside text (past white text at)

runs_by : (text : List ℕ) (at : ℕ) (t : Token) → t ≡ token_at text at → Shape text (past white text at) t → Run t.word → Runs text at
runs_by text at t e (ending w f n) r = absurd (omega (arith, r.high, ap kind w))
runs_by text at t e (opening h b w f n) r = absurd (omega (arith, r.low, ap kind w))
runs_by text at t e (closing h b w f n) r = absurd (omega (arith, r.low, ap kind w))
runs_by text at t e (running q f n) r = record { first = ap (λ (x : Token). x.from) (sym e) ∙ f; next = ap (λ (x : Token). x.next) (sym e) ∙ n }

pub runs : (text : List ℕ) (at : ℕ) → Run (token_at text at).word → Runs text at
runs text at r = runs_by text at (token_at text at) refl (shape text at) r

-- the next word is sought no earlier
forward_by : (text : List ℕ) (from : ℕ) (t : Token) → Shape text from t → from ≤ t.next
forward_by text from t (ending w f n) = omega arith
forward_by text from t (opening h b w f n) = omega arith
forward_by text from t (closing h b w f n) = omega arith
forward_by text from t (running r f n) = omega (arith, not_before inside text from)

pub forward : (text : List ℕ) (at : ℕ) → at ≤ (token_at text at).next
forward text at = omega (arith, not_before white text at, forward_by text (past white text at) (token_at text at) (shape text at))
