-- An operator that a word names is no constant and no variable: so are those of every derived tree.
-- Assumes nothing.
use mathlib.Core.Path.{◌≡◌, refl, sym, ap, ◌∙◌}
use mathlib.Core.Bool.{Bool, true, false, cond, ◌&&◌}
use mathlib.Core.List.{List, [], ◌∷◌}
use Prim.Native.Nat.{ℕ, suc, ◌-◌, ◌+◌, ◌≤◌}
use native.Mathlib.Omega.{arith}
use lib.Dec.{eqb, ltb, leb}
use lib.ListN.{length, drop, get_or}
use borrow.Author.Tests.{ne_eqb, le-leb, leb-true, ltb-true}
use Rattle.ops.specs.Numbers.{op_of}
use Rattle.smtlib.specs.Bytes.{bytes, part, same_bytes, place_in, is_in}
use Rattle.smtlib.specs.Numerals.{value_of}
use Rattle.smtlib.specs.Symbols.{operators, operator_of}
use Rattle.table.specs.Ranks.{immediate, slotted}
use Rattle.table.proofs.OpNumbers.{number_of}
use Rattle.parser.specs.declared.words.Word.{Word}
use Rattle.parser.specs.declared.words.Word.TheVariants.{Open, Close, Keyword, Operator, Literal, Width, Name, Other, End}
use Rattle.parser.specs.declared.words.Token.{Token}
use Rattle.parser.specs.Words.{inside, white, past, keywords, binary, width, is_name, keyword_at, sort_named, plain_of, word_of, word_from, token_at}
use Rattle.parser.specs.Grammar.{Tree, Trees, Stands, Expression, Operands, Asserts}
use Rattle.parser.specs.Grammar.Tree.{literal, symbol, apply}
use Rattle.parser.specs.Grammar.Trees.{nil, cons}
use Rattle.parser.specs.Grammar.Expression.{constant, name, list}
use Rattle.parser.specs.Grammar.Operands.{none, more}
use Rattle.parser.specs.Grammar.Asserts.{none as unasserted, more as asserted}
use Rattle.parser.specs.Trees.{every_tree}
use Rattle.parser.proofs.Accepts.{both}

-- Words

abbrev proper : Word → Bool
proper Open = true
proper Close = true
proper (Keyword k) = true
proper (Operator op) = leb 2 op
proper (Literal n v) = true
proper (Width n) = true
proper (Name k) = true
proper Other = true
proper End = true

record Proper (w : Word) : Type 0 where
  is : proper w ≡ true

either : (b : Bool) {x y : Word} → (b ≡ true → Proper x) → Proper y → Proper (cond b x y)
either true e f = e refl
either false e f = f

sure : {x : Word} → proper x ≡ true → {A : Type 0} → A → Proper x
sure e a = record { is = e }

operator_proper : (w : List ℕ) → ltb 0 (operator_of w) ≡ true → leb 2 (operator_of w) ≡ true
unfolding place_in same_bytes
operator_proper [] e = e
operator_proper (b ∷ y) e = go (is_in operators (b ∷ y)) _ e
  where
    go : (t : Bool) (m : ℕ) → ltb 0 (cond t (suc (suc m)) 0) ≡ true → leb 2 (cond t (suc (suc m)) 0) ≡ true
    go true m e = le-leb 2 (suc (suc m)) (omega arith)
    go false m e = absurd (omega (arith, ltb-true 0 0 e))

word_proper : (w : List ℕ) → Proper (word_of w)
unfolding word_of plain_of
word_proper w =
    either (is_in keywords w) {x = Keyword (keyword_at (place_in keywords w))} (sure refl)
    (either (ltb 0 (operator_of w)) {x = Operator (operator_of w)} (λ e. record { is = operator_proper w e })
    (either (same_bytes w (bytes "true")) {x = Literal 0 1} (sure refl)
    (either (same_bytes w (bytes "false")) {x = Literal 0 0} (sure refl)
    (either (binary w) {x = Literal (length w - 2) (value_of 2 0 (drop 2 w))} (sure refl)
    (either (width w) {x = Width (value_of 10 0 w)} (sure refl)
    (either (is_name w) {x = Name (sort_named w)} {y = Other} (sure refl) (record { is = refl })))))))

record ProperAt (t : Token) : Type 0 where
  is : proper t.word ≡ true

token_either : (b : Bool) {x y : Token} → ProperAt x → ProperAt y → ProperAt (cond b x y)
token_either true e f = e
token_either false e f = f

token_proper : (text : List ℕ) (at : ℕ) → ProperAt (token_at text at)
unfolding token_at word_from
token_proper text at =
    let from = past white text at in
    let end = past inside text from in
    let run : Token = record { word = word_of (part text from end); from = from; next = end } in
    token_either (ltb from (length text)) {y = record { word = End; from = from; next = from }}
    (token_either (eqb (get_or text from 0) 40) {x = record { word = Open; from = from; next = from + 1 }} (record { is = refl })
    (token_either (eqb (get_or text from 0) 41) {x = record { word = Close; from = from; next = from + 1 }} {y = run} (record { is = refl })
    (record { is = (word_proper (part text from end)).is })))
    (record { is = refl })

stands_proper : {text : List ℕ} {from op to : ℕ} → Stands text from (Operator op) to → leb 2 op ≡ true
stands_proper {text} {from} s = sym (ap proper s.here) ∙ (token_proper text from).is

-- Trees

unfoldable mutual
  pub named : Tree → Bool
  named (literal n v) = true
  named (symbol w) = true
  named (apply op ts) = leb 2 op && all_named ts

  pub all_named : Trees → Bool
  all_named nil = true
  all_named (cons t ts) = named t && all_named ts

mutual
  unfolding named

  expression_named : {text : List ℕ} {from to : ℕ} {t : Tree} → Expression text from t to → named t ≡ true
  expression_named (constant w) = refl
  expression_named (name n) = refl
  expression_named (list o p os c) = both (stands_proper p) (operands-named os)

  operands-named : {text : List ℕ} {from to : ℕ} {ts : Trees} → Operands text from ts to → all_named ts ≡ true
  operands-named none = refl
  operands-named (more x xs) = both (expression_named x) (operands-named xs)

pub asserts_named : {text : List ℕ} {from to : ℕ} {ts : List Tree} → Asserts text from ts to → every_tree named ts ≡ true
unfolding every_tree
asserts_named unasserted = refl
asserts_named (asserted o k x z rest) = both (expression_named x) (asserts_named rest)

-- what its number says
pub record Called (op : ℕ) : Type 0 where
  pub immediate_not : immediate (op_of op) ≡ false
  pub slotted_not : slotted (op_of op) ≡ false

pub called : (op : ℕ) → leb 2 op ≡ true → Called op
called op e =
    let more-than : 2 ≤ op = leb-true 2 op e in
    record {
      immediate_not = sym (number_of immediate 0 refl refl op) ∙ ne_eqb op 0 (λ z. omega arith);
      slotted_not = sym (number_of slotted 1 refl refl op) ∙ ne_eqb op 1 (λ z. omega arith);
    }
