-- A text has a reading just where its words are a sentence.
-- Assumes nothing.
use Rattle.std.specs.Prelude.{Option, Some}
use mathlib.Core.Path.{◌≡◌, refl, sym, ap, ◌∙◌, subst}
use mathlib.Core.Bool.{Bool, false, cond}
use mathlib.Core.List.{List, [], ◌∷◌}
use Prim.Native.Nat.{ℕ, suc, ◌-◌}
use native.Mathlib.Omega.{arith}
use Rattle.smtlib.specs.Bytes.{part}
use Rattle.table.specs.declared.words.Sort.{Sort}
use Rattle.parser.specs.declared.words.Word.{Word}
use Rattle.parser.specs.declared.words.Word.TheVariants.{Open, Close, Keyword, Operator, Literal, Width, Name, End}
use Rattle.parser.specs.declared.words.Keyword.TheVariants.{DeclareConst, Assert, CheckSat, Underscore}
use Rattle.parser.specs.declared.words.SortName.{SortName}
use Rattle.parser.specs.declared.words.SortName.TheVariants as sort_name
use Rattle.parser.specs.Words.{token_at}
use Rattle.parser.specs.Grammar.{Tree, Trees, Declared, Rule, Stands, Named, Reads}
use Rattle.parser.specs.Grammar.Tree.{literal, symbol, apply}
use Rattle.parser.specs.Grammar.Trees.{nil, cons}
use Rattle.parser.specs.Grammar as text-grammar
use Rattle.parser.specs.Grammar.Vector.{vector as text-vectored}
use Rattle.parser.specs.Grammar.Sorting.{bool as text-bool, vector as text-vector, array as text-array}
use Rattle.parser.specs.Grammar.Expression.{constant as text-constant, name as text-name, list as text-list}
use Rattle.parser.specs.Grammar.Operands.{none as text-none, more as text-more}
use Rattle.parser.specs.Grammar.Declarations.{none as text-undeclared, more as text-declared}
use Rattle.parser.specs.Grammar.Asserts.{none as text-unasserted, more as text-asserted}
use Rattle.parser.proofs.Tokens.{no_zero}
use Rattle.prefixes.specs.Spelling.{is_end, spelt_from}
use Rattle.prefixes.specs.Sentences.{Vector, Sorting, Expression, Operands, Declarations, Asserts, Sentence}
use Rattle.prefixes.specs.Sentences.Vector.{vector as vectored}
use Rattle.prefixes.specs.Sentences.Sorting.{bool, vector, array}
use Rattle.prefixes.specs.Sentences.Expression.{constant, name, list}
use Rattle.prefixes.specs.Sentences.Operands.{none, more}
use Rattle.prefixes.specs.Sentences.Declarations.{none as undeclared, more as declared}
use Rattle.prefixes.specs.Sentences.Asserts.{none as unasserted, more as asserted}
use Rattle.prefixes.specs.Laws.{words_of, Read, SentencesRead}
use Rattle.prefixes.proofs.Spellings.{words_are}
use Rattle.prefixes.proofs.Carrying.{front, back}

module _ (text : List ℕ) where
  -- the words from a place on
  abbrev from_on : ℕ → List Word
  from_on at = words_of (spelt_from text at)

  from_is : (at : ℕ) → from_on at ≡ (token_at text at).word ∷ words_of (cond (is_end (token_at text at).word) [] (spelt_from text (token_at text at).next))
  unfolding words_of
  from_is at = ap words_of (words_are text at)

  -- From a reading

  stands : {from to : ℕ} {w : Word} → Stands text from w to → is_end w ≡ false → from_on from ≡ w ∷ from_on to
  stands {from} {to} {w} s e =
      from_is from ∙ ap (λ (b : Bool). (token_at text from).word ∷ words_of (cond b [] (spelt_from text (token_at text from).next)))
      (ap is_end s.here ∙ e)
      ∙ ap (λ (v : Word). v ∷ from_on (token_at text from).next) s.here ∙ ap (λ (i : ℕ). w ∷ from_on i) s.after

  front_of : {w : Word} {ws us : List Word} → ws ≡ w ∷ us → {vs : List Word} → us ≡ vs → ws ≡ w ∷ vs
  front_of {w} e f = e ∙ ap (λ (l : List Word). w ∷ l) f

  vectors : {from n to : ℕ} → text-grammar.Vector text from n to → Vector (from_on from) (from_on to)
  vectors {n = n} {to = to} (text-vectored {d = d} o k v w c) =
      let m : n ≡ suc (n - 1) = omega (arith, no_zero w) in
      let is = front_of (stands o refl)
      (front_of (stands k refl) (front_of (stands v refl) (front_of (stands w refl ∙ ap (λ (i : ℕ). Width i ∷ from_on d) m) (stands c refl)))) in
      subst (λ (ws : List Word). Vector ws (from_on to)) (sym is) vectored

  sorts : {from to : ℕ} {q : Sort} → text-grammar.Sorting text from q to → Sorting (from_on from) (from_on to)
  sorts {to = to} (text-bool w) = subst (λ (ws : List Word). Sorting ws (from_on to)) (sym (stands w refl)) bool
  sorts (text-vector v) = vector (vectors v)
  sorts {to = to} (text-array {c = c} o a m n z) =
      subst (λ (ws : List Word). Sorting ws (from_on to)) (sym (front_of (stands o refl) (stands a refl)))
      (array (vectors m) (subst (Vector (from_on c)) (stands z refl) (vectors n)))

  mutual
    expressions : {from to : ℕ} {t : Tree} → text-grammar.Expression text from t to → Expression (from_on from) (from_on to)
    expressions {to = to} (text-constant w) = subst (λ (ws : List Word). Expression ws (from_on to)) (sym (stands w refl)) constant
    expressions {to = to} (text-name w) = subst (λ (ws : List Word). Expression ws (from_on to)) (sym (stands w.stands refl)) name
    expressions {to = to} (text-list {b = b} o p os c) =
        subst (λ (ws : List Word). Expression ws (from_on to)) (sym (front_of (stands o refl) (stands p refl)))
        (list (subst (Operands (from_on b)) (stands c refl) (operands os)))

    operands : {from to : ℕ} {ts : Trees} → text-grammar.Operands text from ts to → Operands (from_on from) (from_on to)
    operands text-none = none
    operands (text-more t ts) = more (expressions t) (operands ts)

  declarations : {from to : ℕ} {ds : List Declared} → text-grammar.Declarations text from ds to → Declarations (from_on from) (from_on to)
  declarations text-undeclared = undeclared
  declarations {to = to} (text-declared {c = c} o k n q z ds) =
      subst (λ (ws : List Word). Declarations ws (from_on to)) (sym (front_of (stands o refl) (front_of (stands k refl) (stands n.stands refl))))
      (declared (subst (Sorting (from_on c)) (stands z refl) (sorts q)) (declarations ds))

  asserts : {from to : ℕ} {ts : List Tree} → text-grammar.Asserts text from ts to → Asserts (from_on from) (from_on to)
  asserts text-unasserted = unasserted
  asserts {to = to} (text-asserted {b = b} o k t z ts) =
      subst (λ (ws : List Word). Asserts ws (from_on to)) (sym (front_of (stands o refl) (stands k refl)))
      (asserted (subst (Expression (from_on b)) (stands z refl) (expressions t)) (asserts ts))

  the_end : (at : ℕ) → (token_at text at).word ≡ End → from_on at ≡ End ∷ []
  unfolding words_of
  the_end at e = from_is at ∙ ap (λ (w : Word). w ∷ words_of (cond (is_end w) [] (spelt_from text (token_at text at).next))) e

  sentence : (r : Rule) → Reads text r → Sentence (from_on 0)
  sentence r d =
      record {
        declared = from_on d.declared_to;
        declarations = declarations d.declarations;
        asserts = subst (Asserts (from_on d.declared_to))
            (front_of (stands d.opened refl)
            (front_of (stands d.checked refl) (front_of (stands d.closed refl) (the_end d.closed_to d.ended))))
            (asserts d.asserts);
      }

  -- And back

  -- from a place up to another, where the words go on
  record Up (P : ℕ → Type 0) (us : List Word) : Type 0 where
    to : ℕ
    derived : P to
    on : us ≡ from_on to

  stood : (w : Word) (us : List Word) (from : ℕ) → w ∷ us ≡ from_on from → is_end w ≡ false → Up (Stands text from w) us
  stood w us from e f =
      let is = e ∙ from_is from in
      let here : w ≡ (token_at text from).word = front is in
      let n : is_end (token_at text from).word ≡ false = ap is_end (sym here) ∙ f in
      record {
        to = (token_at text from).next;
        derived = record { here = sym here; after = refl };
        on = back is ∙ ap (λ (b : Bool). words_of (cond b [] (spelt_from text (token_at text from).next))) n;
      }

  -- what is spelt: a width, a sort, an expression
  record Wide (from to : ℕ) : Type 0 where
    wide : ℕ
    reads : text-grammar.Vector text from wide to

  record Sorted (from to : ℕ) : Type 0 where
    sort : Sort
    reads : text-grammar.Sorting text from sort to

  record Spelled (from to : ℕ) : Type 0 where
    tree : Tree
    reads : text-grammar.Expression text from tree to

  record AllSpelled (from to : ℕ) : Type 0 where
    trees : Trees
    reads : text-grammar.Operands text from trees to

  vector-back : {ws us : List Word} → Vector ws us → (from : ℕ) → ws ≡ from_on from → Up (Wide from) us
  vector-back (vectored {n = n} {us = us}) from e =
      let o = stood Open _ from e refl in
      let k = stood (Keyword Underscore) _ o.to o.on refl in
      let v = stood (Name (Some sort_name.BitVec)) _ k.to k.on refl in
      let w = stood (Width (suc n)) _ v.to v.on refl in
      let c = stood Close us w.to w.on refl in
      record {
        to = c.to;
        derived = record { wide = suc n; reads = text-vectored o.derived k.derived v.derived w.derived c.derived };
        on = c.on;
      }

  sort_back : {ws us : List Word} → Sorting ws us → (from : ℕ) → ws ≡ from_on from → Up (Sorted from) us
  sort_back (bool {us = us}) from e =
      let w = stood (Name (Some sort_name.Bool)) us from e refl in
      record { to = w.to; derived = record { sort = record { m = 0; n = 0 }; reads = text-bool w.derived }; on = w.on }
  sort_back (vector v) from e =
      let x = vector-back v from e in
      record { to = x.to; derived = record { sort = record { m = 0; n = x.derived.wide }; reads = text-vector x.derived.reads }; on = x.on }
  sort_back (array {us = us} v w) from e =
      let o = stood Open _ from e refl in
      let k = stood (Name (Some sort_name.Array)) _ o.to o.on refl in
      let m = vector-back v k.to k.on in
      let n = vector-back w m.to m.on in
      let c = stood Close us n.to n.on refl in
      record {
        to = c.to;
        derived = record {
          sort = record { m = m.derived.wide; n = n.derived.wide };
          reads = text-array o.derived k.derived m.derived.reads n.derived.reads c.derived;
        };
        on = c.on;
      }

  named : {from to : ℕ} {k : Option SortName} → Stands text from (Name k) to → Named text from (part text (token_at text from).from (token_at text from).next) to
  named {k = k} s = record { sort = k; stands = s; bytes_are = refl }

  mutual
    expression_back : {ws us : List Word} → Expression ws us → (from : ℕ) → ws ≡ from_on from → Up (Spelled from) us
    expression_back (constant {n = n} {v = v} {us = us}) from e =
        let w = stood (Literal n v) us from e refl in
        record { to = w.to; derived = record { tree = literal n v; reads = text-constant w.derived }; on = w.on }
    expression_back (name {k = k} {us = us}) from e =
        let w = stood (Name k) us from e refl in
        record {
          to = w.to;
          derived =
              record {
                tree = symbol (part text (token_at text from).from (token_at text from).next);
                reads = text-name (named w.derived);
              };
          on = w.on;
        }
    expression_back (list {op = op} {us = us} os) from e =
        let o = stood Open _ from e refl in
        let p = stood (Operator op) _ o.to o.on refl in
        let x = operands-back os p.to p.on in
        let c = stood Close us x.to x.on refl in
        record {
          to = c.to;
          derived =
              record {
                tree = apply op x.derived.trees;
                reads = text-list o.derived p.derived x.derived.reads c.derived;
              };
          on = c.on;
        }

    operands-back : {ws us : List Word} → Operands ws us → (from : ℕ) → ws ≡ from_on from → Up (AllSpelled from) us
    operands-back none from e = record { to = from; derived = record { trees = nil; reads = text-none }; on = e }
    operands-back (more t ts) from e =
        let x = expression_back t from e in
        let y = operands-back ts x.to x.on in
        record {
          to = y.to;
          derived =
              record {
                trees = cons x.derived.tree y.derived.trees;
                reads = text-more x.derived.reads y.derived.reads;
              };
          on = y.on;
        }

  record AllDeclared (from to : ℕ) : Type 0 where
    list : List Declared
    reads : text-grammar.Declarations text from list to

  record AllAsserted (from to : ℕ) : Type 0 where
    list : List Tree
    reads : text-grammar.Asserts text from list to

  declarations_back : {ws us : List Word} → Declarations ws us → (from : ℕ) → ws ≡ from_on from → Up (AllDeclared from) us
  declarations_back undeclared from e = record { to = from; derived = record { list = []; reads = text-undeclared }; on = e }
  declarations_back (declared {k = k} {vs = vs} q ds) from e =
      let o = stood Open _ from e refl in
      let d = stood (Keyword DeclareConst) _ o.to o.on refl in
      let n = stood (Name k) _ d.to d.on refl in
      let s = sort_back q n.to n.on in
      let c = stood Close vs s.to s.on refl in
      let r = declarations_back ds c.to c.on in
      record {
        to = r.to;
        derived = record {
          list = record { name = part text (token_at text d.to).from (token_at text d.to).next; sort = s.derived.sort } ∷ r.derived.list;
          reads = text-declared o.derived d.derived (named n.derived) s.derived.reads c.derived r.derived.reads;
        };
        on = r.on;
      }

  asserts_back : {ws us : List Word} → Asserts ws us → (from : ℕ) → ws ≡ from_on from → Up (AllAsserted from) us
  asserts_back unasserted from e = record { to = from; derived = record { list = []; reads = text-unasserted }; on = e }
  asserts_back (asserted {vs = vs} t ts) from e =
      let o = stood Open _ from e refl in
      let k = stood (Keyword Assert) _ o.to o.on refl in
      let x = expression_back t k.to k.on in
      let c = stood Close vs x.to x.on refl in
      let r = asserts_back ts c.to c.on in
      record {
        to = r.to;
        derived =
            record {
              list = x.derived.tree ∷ r.derived.list;
              reads = text-asserted o.derived k.derived x.derived.reads c.derived r.derived.reads;
            };
        on = r.on;
      }

  reading : Sentence (from_on 0) → Read text
  reading s =
      let ds = declarations_back s.declarations 0 refl in
      let ts = asserts_back s.asserts ds.to ds.on in
      let o = stood Open (Keyword CheckSat ∷ Close ∷ End ∷ []) ts.to ts.on refl in
      let k = stood (Keyword CheckSat) (Close ∷ End ∷ []) o.to o.on refl in
      let c = stood Close (End ∷ []) k.to k.on refl in
      record {
        rule = record { declarations = ds.derived.list; asserts = ts.derived.list };
        reads = record {
          declared_to = ds.to;
          asserted_to = ts.to;
          opened_to = o.to;
          checked_to = k.to;
          closed_to = c.to;
          declarations = ds.derived.reads;
          asserts = ts.derived.reads;
          opened = o.derived;
          checked = k.derived;
          closed = c.derived;
          ended = sym (front (c.on ∙ from_is c.to));
        };
      }

pub sentences-read : SentencesRead
sentences-read text = ((λ d. sentence text d.rule d.reads), (λ s. reading text s))
