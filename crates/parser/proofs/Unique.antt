-- A text has one reading: two derivations from one place agree.
-- Assumes nothing.
use mathlib.Core.Path.{◌≡◌, refl, sym, ap, ◌∙◌}
use mathlib.Core.List.{List, ◌∷◌}
use Prim.Native.Nat.{ℕ, suc}
use native.Mathlib.Omega.{arith}
use Rattle.smtlib.specs.Bytes.{part}
use Rattle.table.specs.declared.words.Sort.{Sort}
use Rattle.parser.specs.declared.words.Keyword.{Keyword as OwnWord}
use Rattle.parser.specs.declared.words.Word.{Word}
use Rattle.parser.specs.declared.words.Word.TheVariants.{Open, Close, Keyword, Operator, Literal, Width, Name, Other, End}
use Rattle.parser.specs.Words.{keyword_number, name_number, token_at}
use Rattle.parser.specs.Grammar.{Tree, Trees, Declared, Rule, Stands, Named, Vector, Sorting, Expression, Operands, Declarations, Asserts, OneReading}
use Rattle.parser.specs.Grammar.Tree.{literal, symbol, apply}
use Rattle.parser.specs.Grammar.Trees.{cons}
use Rattle.parser.specs.Grammar.Vector.{vector as vectored}
use Rattle.parser.specs.Grammar.Sorting.{bool, vector, array}
use Rattle.parser.specs.Grammar.Expression.{constant, name, list}
use Rattle.parser.specs.Grammar.Operands.{none, more}
use Rattle.parser.specs.Grammar.Declarations.{none as undeclared, more as declared}
use Rattle.parser.specs.Grammar.Asserts.{none as unasserted, more as asserted}

-- Words apart: a number for each kind, and the numbers that a word carries

abbrev pub kind : Word → ℕ
kind Open = 0
kind Close = 1
kind (Keyword k) = 2
kind (Operator op) = 3
kind (Literal n v) = 4
kind (Width w) = 5
kind (Name k) = 6
kind Other = 7
kind End = 8

abbrev pub carried : Word → ℕ
carried Open = 0
carried Close = 0
carried (Keyword k) = keyword_number k
carried (Operator op) = op
carried (Literal n v) = n
carried (Width w) = w
carried (Name k) = name_number k
carried Other = 0
carried End = 0

abbrev valued : Word → ℕ
valued Open = 0
valued Close = 0
valued (Keyword k) = 0
valued (Operator op) = 0
valued (Literal n v) = v
valued (Width w) = 0
valued (Name k) = 0
valued Other = 0
valued End = 0

-- one word stands at a place
pub same_word : {text : List ℕ} {from from' to to' : ℕ} {w w' : Word} → from ≡ from' → Stands text from w to → Stands text from' w' to' → (w ≡ w') × (to ≡ to')
same_word {text} e s s' = (sym s.here ∙ ap (λ (k : ℕ). (token_at text k).word) e ∙ s'.here, sym s.after ∙ ap (λ (k : ℕ). (token_at text k).next) e ∙ s'.after)

same_kind : {text : List ℕ} {from from' to to' : ℕ} {w w' : Word} → from ≡ from' → Stands text from w to → Stands text from' w' to' → kind w ≡ kind w'
same_kind e s s' = ap kind (same_word e s s').0

same_carried : {text : List ℕ} {from from' to to' : ℕ} {w w' : Word} → from ≡ from' → Stands text from w to → Stands text from' w' to' → carried w ≡ carried w'
same_carried e s s' = ap carried (same_word e s s').0

same_place : {text : List ℕ} {from from' to to' : ℕ} {w w' : Word} → from ≡ from' → Stands text from w to → Stands text from' w' to' → to ≡ to'
same_place e s s' = (same_word e s s').1

same_name : {text : List ℕ} {from from' to to' : ℕ} {w w' : List ℕ} → from ≡ from' → Named text from w to → Named text from' w' to' → (w ≡ w') × (to ≡ to')
same_name {text} e s s' =
    (sym s.bytes_are ∙ ap (λ (k : ℕ). part text (token_at text k).from (token_at text k).next) e ∙ s'.bytes_are, same_place e s.stands s'.stands)

-- Sorts

same-vector : {text : List ℕ} {from from' n n' to to' : ℕ} → from ≡ from' → Vector text from n to → Vector text from' n' to' → (n ≡ n') × (to ≡ to')
same-vector e (vectored o k b w c) (vectored o' k' b' w' c') =
    let at = same_place (same_place (same_place e o o') k k') b b' in
    (same_carried at w w', same_place (same_place at w w') c c')

abbrev sorted : ℕ → ℕ → Sort
sorted m n = record { m = m; n = n }

sorted-same : {m m' n n' : ℕ} → m ≡ m' → n ≡ n' → sorted m n ≡ sorted m' n'
sorted-same {m} {m'} {n} {n'} e f = ap (λ (x : ℕ). sorted x n) e ∙ ap (sorted m') f

same_sort_lem : {text : List ℕ} {from from' to to' : ℕ} {s s' : Sort} → from ≡ from' → Sorting text from s to → Sorting text from' s' to' → (s ≡ s') × (to ≡ to')
same_sort_lem e (bool w) (bool w') = (refl, same_place e w w')
same_sort_lem e (bool w) (vector (vectored o k b n c)) = absurd (omega (arith, same_kind e w o))
same_sort_lem e (bool w) (array o a m n c) = absurd (omega (arith, same_kind e w o))
same_sort_lem e (vector (vectored o k b n c)) (bool w) = absurd (omega (arith, same_kind e o w))
same_sort_lem e (vector x) (vector x') = let h = same-vector e x x' in (sorted-same refl h.0, h.1)
same_sort_lem e (vector (vectored o k b w c)) (array o' a m n c') = absurd (omega (arith, same_kind (same_place e o o') k a))
same_sort_lem e (array o a m n c) (bool w) = absurd (omega (arith, same_kind e o w))
same_sort_lem e (array o' a m n c') (vector (vectored o k b w c)) = absurd (omega (arith, same_kind (same_place e o' o) a k))
same_sort_lem e (array o a m n c) (array o' a' m' n' c') =
    let h = same-vector (same_place (same_place e o o') a a') m m' in
    let r = same-vector h.1 n n' in
    (sorted-same h.0 r.0, same_place r.1 c c')

-- Expressions

-- no expression begins with a closing parenthesis
begins_apart : {text : List ℕ} {from from' to to' : ℕ} {t : Tree} → from ≡ from' → Stands text from Close to → Expression text from' t to' → ⊥
begins_apart e c (constant w) = omega (arith, same_kind e c w)
begins_apart e c (name w) = omega (arith, same_kind e c w.stands)
begins_apart e c (list o p os d) = omega (arith, same_kind e c o)

literal-same : {m m' n n' : ℕ} → m ≡ m' → n ≡ n' → literal m n ≡ literal m' n'
literal-same {m} {m'} {n} {n'} e f = ap (λ (x : ℕ). literal x n) e ∙ ap (literal m') f

apply-same : {m n : ℕ} {ts us : Trees} → m ≡ n → ts ≡ us → apply m ts ≡ apply n us
apply-same {m} {n} {ts} {us} e f = ap (λ (x : ℕ). apply x ts) e ∙ ap (apply n) f

cons_same : {t u : Tree} {ts us : Trees} → t ≡ u → ts ≡ us → cons t ts ≡ cons u us
cons_same {t} {u} {ts} {us} e f = ap (λ (x : Tree). cons x ts) e ∙ ap (cons u) f

mutual
  pub one : {text : List ℕ} {from from' to to' : ℕ} {t t' : Tree} → from ≡ from' → Expression text from t to → Expression text from' t' to' → (t ≡ t') × (to ≡ to')
  one e (constant w) (constant w') = (literal-same (same_carried e w w') (ap valued (same_word e w w').0), same_place e w w')
  one e (constant w) (name w') = absurd (omega (arith, same_kind e w w'.stands))
  one e (constant w) (list o p os c) = absurd (omega (arith, same_kind e w o))
  one e (name w) (constant w') = absurd (omega (arith, same_kind e w.stands w'))
  one e (name w) (name w') = (ap symbol (same_name e w w').0, (same_name e w w').1)
  one e (name w) (list o p os c) = absurd (omega (arith, same_kind e w.stands o))
  one e (list o p os c) (constant w) = absurd (omega (arith, same_kind e o w))
  one e (list o p os c) (name w) = absurd (omega (arith, same_kind e o w.stands))
  one e (list o p os c) (list o' p' os' c') =
      let at = same_place e o o' in
      let r = all (same_place at p p') os c os' c' in
      (apply-same (same_carried at p p') r.0, same_place r.1 c c')

  all : {text : List ℕ} {from from' c c' to to' : ℕ} {ts ts' : Trees} → from ≡ from' → Operands text from ts c → Stands text c Close to → Operands text from' ts' c' → Stands text c' Close to' → (ts ≡ ts') × (c ≡ c')
  all e none c none c' = (refl, e)
  all e none c (more t ts) c' = absurd (begins_apart e c t)
  all e (more t ts) c none c' = absurd (begins_apart (sym e) c' t)
  all e (more t ts) c (more t' ts') c' =
      let h = one e t t' in
      let r = all h.1 ts c ts' c' in
      (cons_same h.0 r.0, r.1)

-- Declarations and asserts: the word after the parenthesis that follows tells where they end

pub record Second (text : List ℕ) (from k : ℕ) : Type 0 where
  pub is : carried (token_at text (token_at text from).next).word ≡ k

pub second_is : {text : List ℕ} {from a to : ℕ} {w : Word} {k : OwnWord} → Stands text from w a → Stands text a (Keyword k) to → Second text from (keyword_number k)
second_is {text} s r = record { is = ap (λ (x : ℕ). carried (token_at text x).word) s.after ∙ ap carried r.here }

second_apart : {text : List ℕ} {from from' j k : ℕ} → from ≡ from' → Second text from j → Second text from' k → j ≡ k
second_apart {text} e s s' = sym s.is ∙ ap (λ (x : ℕ). carried (token_at text (token_at text x).next).word) e ∙ s'.is

head_cons : {A : Type 0} {x y : A} {xs ys : List A} → x ≡ y → xs ≡ ys → x ∷ xs ≡ y ∷ ys
head_cons {A} {x} {y} {xs} {ys} e f = ap (λ (z : A). z ∷ xs) e ∙ ap (λ (zs : List A). y ∷ zs) f

declared_same : {w w' : List ℕ} {s s' : Sort} → w ≡ w' → s ≡ s' → ◌≡◌ {A = Declared} (record { name = w; sort = s }) (record { name = w'; sort = s' })
declared_same {w} {w'} {s} {s'} e f = ap (λ (x : List ℕ). record { name = x; sort = s }) e ∙ ap (λ (x : Sort). record { name = w'; sort = x }) f

same_declarations : {text : List ℕ} {from from' to to' k k' : ℕ} {ds ds' : List Declared} → from ≡ from'
    → Declarations text from ds to → Second text to (suc k) → Declarations text from' ds' to' → Second text to' (suc k') → (ds ≡ ds') × (to ≡ to')
same_declarations e undeclared f undeclared f' = (refl, e)
same_declarations e undeclared f (declared o k n s c ds) f' = absurd (omega (arith, second_apart e f (second_is o k)))
same_declarations e (declared o k n s c ds) f undeclared f' = absurd (omega (arith, second_apart e (second_is o k) f'))
same_declarations e (declared o k n s c ds) f (declared o' k' n' s' c' ds') f' =
    let h = same_name (same_place (same_place e o o') k k') n n' in
    let r = same_sort_lem h.1 s s' in
    let q = same_declarations (same_place r.1 c c') ds f ds' f' in
    (head_cons (declared_same h.0 r.0) q.0, q.1)

same_asserts : {text : List ℕ} {from from' to to' : ℕ} {ts ts' : List Tree} → from ≡ from'
    → Asserts text from ts to → Second text to 2 → Asserts text from' ts' to' → Second text to' 2 → (ts ≡ ts') × (to ≡ to')
same_asserts e unasserted f unasserted f' = (refl, e)
same_asserts e unasserted f (asserted o k t c ts) f' = absurd (omega (arith, second_apart e f (second_is o k)))
same_asserts e (asserted o k t c ts) f unasserted f' = absurd (omega (arith, second_apart e (second_is o k) f'))
same_asserts e (asserted o k t c ts) f (asserted o' k' t' c' ts') f' =
    let h = one (same_place (same_place e o o') k k') t t' in
    let q = same_asserts (same_place h.1 c c') ts f ts' f' in
    (head_cons h.0 q.0, q.1)

-- what follows declarations: an assert, or check-sat
record After (text : List ℕ) (at : ℕ) : Type 0 where
  keyword : ℕ
  follows : Second text at (suc keyword)

after_declarations : {text : List ℕ} {from to : ℕ} {ts : List Tree} → Asserts text from ts to → Second text to 2 → After text from
after_declarations unasserted f = record { keyword = 1; follows = f }
after_declarations (asserted o k t c ts) f = record { keyword = 0; follows = second_is o k }

rule_same : {ds ds' : List Declared} {ts ts' : List Tree} → ds ≡ ds' → ts ≡ ts' → ◌≡◌ {A = Rule} (record { declarations = ds; asserts = ts }) (record { declarations = ds'; asserts = ts' })
rule_same {ds} {ds'} {ts} {ts'} e f = ap (λ (x : List Declared). record { declarations = x; asserts = ts }) e ∙ ap (λ (x : List Tree). record { declarations = ds'; asserts = x }) f

pub one_reading : OneReading
one_reading text r r' d d' =
    let f = second_is d.opened d.checked in
    let f' = second_is d'.opened d'.checked in
    let a = after_declarations d.asserts f in
    let a' = after_declarations d'.asserts f' in
    let h = same_declarations refl d.declarations a.follows d'.declarations a'.follows in
    rule_same h.0 (same_asserts h.1 d.asserts f d'.asserts f').0
