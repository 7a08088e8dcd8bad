-- A derivation of a text is one of every text of the same words.
-- Assumes nothing.
use mathlib.Core.Path.{◌≡◌, refl, sym, ap, ◌∙◌, subst}
use mathlib.Core.Bool.{false, cond}
use mathlib.Core.List.{List, [], ◌∷◌}
use Prim.Native.Nat.{ℕ}
use lib.ListN.{drop, get_or}
use Rattle.smtlib.specs.Bytes.{part}
use Rattle.table.specs.declared.words.Sort.{Sort}
use Rattle.parser.specs.declared.words.Word.{Word}
use Rattle.parser.specs.Words.{token_at}
use Rattle.parser.specs.Grammar.{Tree, Trees, Declared, Stands, Named, Vector, Sorting, Expression, Operands, Declarations, Asserts}
use Rattle.parser.specs.Grammar.Vector.{vector as vectored}
use Rattle.parser.specs.Grammar.Sorting.{bool, vector, array}
use Rattle.parser.specs.Grammar.Expression.{constant, name, list}
use Rattle.parser.specs.Grammar.Operands.{none, more}
use Rattle.parser.specs.Grammar.Declarations.{none as undeclared, more as declared}
use Rattle.parser.specs.Grammar.Asserts.{none as unasserted, more as asserted}
use Rattle.prefixes.specs.Spelling.{is_end, spelt_at, spelt_from, Lexeme, lexeme, lexemes}
use Rattle.prefixes.specs.Laws.{SameWordsRead}
use Rattle.prefixes.proofs.Spellings.{words_are}

-- equal lists begin alike, and go on alike
pub front : {A : Type 0} {x y : A} {xs ys : List A} → x ∷ xs ≡ y ∷ ys → x ≡ y
front {A} {x = x} e = ap (λ (l : List A). get_or l 0 x) e

pub back : {A : Type 0} {x y : A} {xs ys : List A} → x ∷ xs ≡ y ∷ ys → xs ≡ ys
back {A} e = ap (λ (l : List A). drop 1 l) e

module _ (a b : List ℕ) where
  -- from these places on the words are the same
  pub record Abreast (i j : ℕ) : Type 0 where
    pub same : lexemes (spelt_from a i) ≡ lexemes (spelt_from b j)

  -- what is derived from a place of the other text, up to one that is abreast
  record Carried (P : ℕ → Type 0) (to : ℕ) : Type 0 where
    end : ℕ
    derived : P end
    abreast : Abreast to end

  split : {i j : ℕ} → Abreast i j
      → lexeme (spelt_at a i) ∷ lexemes (cond (is_end (token_at a i).word) [] (spelt_from a (token_at a i).next)) ≡ lexeme (spelt_at b j) ∷ lexemes (cond (is_end (token_at b j).word) [] (spelt_from b (token_at b j).next))
  unfolding lexemes
  split {i} {j} s = sym (ap lexemes (words_are a i)) ∙ s.same ∙ ap lexemes (words_are b j)

  word_same : {i j : ℕ} → Abreast i j → (token_at a i).word ≡ (token_at b j).word
  word_same s = ap (λ (l : Lexeme). l.word) (front (split s))

  bytes_same : {i j : ℕ} → Abreast i j → part a (token_at a i).from (token_at a i).next ≡ part b (token_at b j).from (token_at b j).next
  bytes_same s = ap (λ (l : Lexeme). l.bytes) (front (split s))

  onward : {i j : ℕ} → Abreast i j → is_end (token_at a i).word ≡ false → Abreast (token_at a i).next (token_at b j).next
  onward {i} {j} s e =
      let f : is_end (token_at b j).word ≡ false = ap is_end (sym (word_same s)) ∙ e in
      record { same = rw (e, f) at (back (split s)) }

  stands : {i j to : ℕ} {w : Word} → Abreast i j → Stands a i w to → is_end w ≡ false → Carried (Stands b j w) to
  stands {i} {j} {to} s d e =
      record {
        end = (token_at b j).next;
        derived = record { here = sym (word_same s) ∙ d.here; after = refl };
        abreast = subst (λ (k : ℕ). Abreast k (token_at b j).next) d.after (onward s (ap is_end d.here ∙ e));
      }

  names : {i j to : ℕ} {w : List ℕ} → Abreast i j → Named a i w to → Carried (Named b j w) to
  names s d =
      let r = stands s d.stands refl in
      record {
        end = r.end;
        derived = record { sort = d.sort; stands = r.derived; bytes_are = sym (bytes_same s) ∙ d.bytes_are };
        abreast = r.abreast;
      }

  vectors : {i j n to : ℕ} → Abreast i j → Vector a i n to → Carried (Vector b j n) to
  vectors s (vectored o k v w c) =
      let o' = stands s o refl in
      let k' = stands o'.abreast k refl in
      let v' = stands k'.abreast v refl in
      let w' = stands v'.abreast w refl in
      let c' = stands w'.abreast c refl in
      record { end = c'.end; derived = vectored o'.derived k'.derived v'.derived w'.derived c'.derived; abreast = c'.abreast }

  sorts : {i j to : ℕ} {q : Sort} → Abreast i j → Sorting a i q to → Carried (Sorting b j q) to
  sorts s (bool w) = let w' = stands s w refl in record { end = w'.end; derived = bool w'.derived; abreast = w'.abreast }
  sorts s (vector v) = let v' = vectors s v in record { end = v'.end; derived = vector v'.derived; abreast = v'.abreast }
  sorts s (array o k m n c) =
      let o' = stands s o refl in
      let k' = stands o'.abreast k refl in
      let m' = vectors k'.abreast m in
      let n' = vectors m'.abreast n in
      let c' = stands n'.abreast c refl in
      record { end = c'.end; derived = array o'.derived k'.derived m'.derived n'.derived c'.derived; abreast = c'.abreast }

  mutual
    expressions : {i j to : ℕ} {t : Tree} → Abreast i j → Expression a i t to → Carried (Expression b j t) to
    expressions s (constant w) = let w' = stands s w refl in record { end = w'.end; derived = constant w'.derived; abreast = w'.abreast }
    expressions s (name w) = let w' = names s w in record { end = w'.end; derived = name w'.derived; abreast = w'.abreast }
    expressions s (list o p os c) =
        let o' = stands s o refl in
        let p' = stands o'.abreast p refl in
        let l' = operands p'.abreast os in
        let c' = stands l'.abreast c refl in
        record { end = c'.end; derived = list o'.derived p'.derived l'.derived c'.derived; abreast = c'.abreast }

    operands : {i j to : ℕ} {ts : Trees} → Abreast i j → Operands a i ts to → Carried (Operands b j ts) to
    operands {i} {j} s none = record { end = j; derived = none; abreast = s }
    operands s (more t ts) =
        let t' = expressions s t in
        let l' = operands t'.abreast ts in
        record { end = l'.end; derived = more t'.derived l'.derived; abreast = l'.abreast }

  declarations : {i j to : ℕ} {ds : List Declared} → Abreast i j → Declarations a i ds to → Carried (Declarations b j ds) to
  declarations {i} {j} s undeclared = record { end = j; derived = undeclared; abreast = s }
  declarations s (declared o k n q c ds) =
      let o' = stands s o refl in
      let k' = stands o'.abreast k refl in
      let n' = names k'.abreast n in
      let q' = sorts n'.abreast q in
      let c' = stands q'.abreast c refl in
      let r' = declarations c'.abreast ds in
      record {
        end = r'.end;
        derived = declared o'.derived k'.derived n'.derived q'.derived c'.derived r'.derived;
        abreast = r'.abreast;
      }

  asserts : {i j to : ℕ} {ts : List Tree} → Abreast i j → Asserts a i ts to → Carried (Asserts b j ts) to
  asserts {i} {j} s unasserted = record { end = j; derived = unasserted; abreast = s }
  asserts s (asserted o k t c ts) =
      let o' = stands s o refl in
      let k' = stands o'.abreast k refl in
      let t' = expressions k'.abreast t in
      let c' = stands t'.abreast c refl in
      let r' = asserts c'.abreast ts in
      record { end = r'.end; derived = asserted o'.derived k'.derived t'.derived c'.derived r'.derived; abreast = r'.abreast }

pub same-reading : SameWordsRead
same-reading a b s r d =
    let start : Abreast a b 0 0 = record { same = s.same } in
    let ds = declarations a b start d.declarations in
    let ts = asserts a b ds.abreast d.asserts in
    let o = stands a b ts.abreast d.opened refl in
    let k = stands a b o.abreast d.checked refl in
    let c = stands a b k.abreast d.closed refl in
    record {
      declared_to = ds.end;
      asserted_to = ts.end;
      opened_to = o.end;
      checked_to = k.end;
      closed_to = c.end;
      declarations = ds.derived;
      asserts = ts.derived;
      opened = o.derived;
      checked = k.derived;
      closed = c.derived;
      ended = sym (word_same a b c.abreast) ∙ d.ended;
    }
