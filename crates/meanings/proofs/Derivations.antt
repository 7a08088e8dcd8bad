-- The grammar is unambiguous. What a derivation at a place has is written as a chain of parts, each with the place where it ends;
-- each part is one at most (the word at a place is given by the text), so the chain is, and so is the derivation that is made of it.
-- Assumes nothing.
use Rattle.std.specs.Prelude.{Option, Some, None}
use mathlib.Core.Path.{◌≡◌, refl, sym, ap, ◌∙◌, subst, subst_refl, fst_path, snd_path, from_path_p}
use mathlib.Core.HLevel.{Σ_prop, Σ_prop_path, Σ_set, Unit-prop, collapsible→set, is_prop→PathP}
use mathlib.Core.List.{List, [], ◌∷◌, is_set}
use Prim.Native.Nat.{ℕ}
use native.Mathlib.Nat.{ℕ_set}
use lib.ListN.{get_or}
use native.Mathlib.Omega.{arith}
use Rattle.smtlib.specs.Bytes.{part}
use Rattle.table.specs.declared.words.Sort.{Sort}
use Rattle.parser.specs.declared.words.Word.{Word}
use Rattle.parser.specs.declared.words.Word.TheVariants.{Open, Close, Keyword, Operator, Literal, Width, Name, Other, End}
use Rattle.parser.specs.declared.words.Keyword.TheVariants.{DeclareConst, Assert, CheckSat, Underscore}
use Rattle.parser.specs.declared.words.SortName.{SortName}
use Rattle.parser.specs.declared.words.SortName.TheVariants as sort_name
use Rattle.parser.specs.Words.{keyword_at, name_number, name_at, token_at}
use Rattle.parser.specs.Grammar.{Tree, Trees, Declared, Rule, Stands, Named, Vector, Sorting, Expression, Operands, Declarations, Asserts, Reads}
use Rattle.parser.specs.Grammar.Tree.{literal, symbol, apply}
use Rattle.parser.specs.Grammar.Trees.{nil, cons}
use Rattle.parser.specs.Grammar.Vector.{vector as vectored}
use Rattle.parser.specs.Grammar.Sorting.{bool, vector, array}
use Rattle.parser.specs.Grammar.Expression.{constant, name, list}
use Rattle.parser.specs.Grammar.Operands.{none, more}
use Rattle.parser.specs.Grammar.Declarations.{none as undeclared, more as declared}
use Rattle.parser.specs.Grammar.Asserts.{none as unasserted, more as asserted}
use Rattle.parser.proofs.Unique.{kind, carried, same_word, one_reading}
use Rattle.meanings.specs.Derivations.{OneDerivation, Unambiguous}

-- What is made of parts, and given back by them, is one where the parts are, and a set where they are

retract_prop : {A B : Type 0} (f : A → B) (g : B → A) → ((a : A) → g (f a) ≡ a) → IsProp B → IsProp A
retract_prop f g h one x y = sym (h x) ∙ ap g (one (f x) (f y)) ∙ h y

retract_set : {A B : Type 0} (f : A → B) (g : B → A) → ((a : A) → g (f a) ≡ a) → IsSet B → IsSet A
retract_set {A} {B} f g h one =
    collapsible→set (λ x y p. sym (h x) ∙ ap g (ap f p) ∙ h y)
    (λ x y p q. ap (λ (r : f x ≡ f y). sym (h x) ∙ ap g r ∙ h y) (one (f x) (f y) (ap f p) (ap f q)))

-- of pairs that are one, over a set, the second parts at one place are one
fibre_prop : {A : Type 0} {B : A → Type 0} → IsSet A → IsProp ((a : A) × B a) → (a : A) → IsProp (B a)
fibre_prop {A} {B} flat one a u v =
    let p : ◌≡◌ {A = (a : A) × B a} (a, u) (a, v) = one (a, u) (a, v) in
    sym (subst_refl B u) ∙ ap (λ (q : a ≡ a). subst B q u) (flat a a refl (fst_path p)) ∙ from_path_p (λ i. B (fst_path p i)) (snd_path p)

-- Words are a set: a word is given by its kind and the two numbers that it carries

abbrev valued : Word → ℕ
valued Open = 0
valued Close = 0
valued (Keyword k) = 0
valued (Operator op) = 0
valued (Literal n v) = v
valued (Width w) = 0
valued (Name k) = 0
valued Other = 0
valued End = 0

abbrev Numbers : Type 0
Numbers = (k : ℕ) × ((n : ℕ) × ℕ)

abbrev word_by : ℕ → ℕ → ℕ → Word
word_by k n v = get_or (Open ∷ Close ∷ Keyword (keyword_at n) ∷ Operator n ∷ Literal n v ∷ Width n ∷ Name (name_at n) ∷ Other ∷ []) k End

word_back : (w : Word) → word_by (kind w) (carried w) (valued w) ≡ w
word_back Open = refl
word_back Close = refl
word_back (Keyword DeclareConst) = refl
word_back (Keyword Assert) = refl
word_back (Keyword CheckSat) = refl
word_back (Keyword Underscore) = refl
word_back (Operator op) = refl
word_back (Literal n v) = refl
word_back (Width w) = refl
word_back (Name None) = refl
word_back (Name (Some sort_name.Bool)) = refl
word_back (Name (Some sort_name.BitVec)) = refl
word_back (Name (Some sort_name.Array)) = refl
word_back Other = refl
word_back End = refl

word_set : IsSet Word
word_set =
    retract_set {B = Numbers} (λ w. (kind w, (carried w, valued w))) (λ x. word_by x.0 x.1.0 x.1.1) word_back
    (Σ_set ℕ_set (λ _. Σ_set ℕ_set (λ _. ℕ_set)))

sort_set : IsSet Sort
sort_set =
    retract_set {B = (m : ℕ) × ℕ} (λ s. (s.m, s.n)) (λ x. record { m = x.0; n = x.1 }) (λ s. refl) (Σ_set ℕ_set (λ _. ℕ_set))

-- Chains of parts

-- a part, with the place where it ends
abbrev To : (ℕ → Type 0) → Type 0
To A = (to : ℕ) × A to

-- a part, and what begins where it ends
abbrev Then : (ℕ → Type 0) → (ℕ → Type 0) → Type 0
Then A B = (x : To A) × B x.0

then : {A B : ℕ → Type 0} → IsProp (To A) → ((a : ℕ) → IsProp (B a)) → IsProp (Then A B)
then one rest = Σ_prop one (λ x. rest x.0)

-- Words

stands_prop : {text : List ℕ} {from to : ℕ} {w : Word} → IsProp (Stands text from w to)
stands_prop {text} {from} {to} {w} s s' = λ i.
    record { here = word_set (token_at text from).word w s.here s'.here i; after = ℕ_set (token_at text from).next to s.after s'.after i }

one_word : {text : List ℕ} {from : ℕ} {w : Word} → IsProp (To (Stands text from w))
one_word {text} {from} {w} x y = Σ_prop_path (λ to. stands_prop) (sym x.1.after ∙ y.1.after)

-- a word that carries a value, as a number: the value is one too
one_carried : {A : Type 0} {text : List ℕ} {from : ℕ} (w : A → Word) (value : ℕ → A) → ((a : A) → value (carried (w a)) ≡ a) → IsProp ((a : A) × To (Stands text from (w a)))
one_carried w value known x y =
    Σ_prop_path (λ n. one_word) (sym (known x.0) ∙ ap (λ (u : Word). value (carried u)) (same_word refl x.1.1 y.1.1).0 ∙ known y.0)

one_number : {text : List ℕ} {from : ℕ} (w : ℕ → Word) → ((n : ℕ) → carried (w n) ≡ n) → IsProp ((n : ℕ) × To (Stands text from (w n)))
one_number w known = one_carried w (λ n. n) known

name_back : (k : Option SortName) → name_at (name_number k) ≡ k
name_back None = refl
name_back (Some sort_name.Bool) = refl
name_back (Some sort_name.BitVec) = refl
name_back (Some sort_name.Array) = refl

one_name : {text : List ℕ} {from : ℕ} {w : List ℕ} → IsProp (To (Named text from w))
one_name {text} {from} {w} =
    retract_prop {B = (x : (n : Option SortName) × To (Stands text from (Name n))) × (part text (token_at text from).from (token_at text from).next ≡ w)}
    (λ x. ((x.1.sort, (x.0, x.1.stands)), x.1.bytes_are))
    (λ x. (x.0.1.0, record { sort = x.0.0; stands = x.0.1.1; bytes_are = x.1 }))
    (λ x. refl)
    (Σ_prop (one_carried Name name_at name_back) (λ _. is_set ℕ_set (part text (token_at text from).from (token_at text from).next) w))

-- Sorts

abbrev VectorParts : List ℕ → ℕ → Type 0
VectorParts text from =
    Then (Stands text from Open) (λ a. Then (Stands text a (Keyword Underscore)) (λ b. Then (Stands text b (Name (Some sort_name.BitVec))) (λ c.
    (x : (n : ℕ) × To (Stands text c (Width n))) × To (Stands text x.1.0 Close))))

abbrev Vectors : List ℕ → ℕ → Type 0
Vectors text from = (n : ℕ) × To (Vector text from n)

abbrev vector_parts : {text : List ℕ} {from n to : ℕ} → Vector text from n to → VectorParts text from
vector_parts (vectored {a = a} {b = b} {c = c} {d = d} {n = n} {to = to} o k u w e) = ((a, o), ((b, k), ((c, u), ((n, (d, w)), (to, e)))))

abbrev vector_of : {text : List ℕ} {from : ℕ} → VectorParts text from → Vectors text from
vector_of (o, (k, (u, (w, e)))) = (w.0, (e.0, vectored o.1 k.1 u.1 w.1.1 e.1))

vector-back : {text : List ℕ} {from n to : ℕ} (d : Vector text from n to) → ◌≡◌ {A = Vectors text from} (vector_of (vector_parts d)) (n, (to, d))
vector-back (vectored o k u w e) = refl

one_vector : {text : List ℕ} {from : ℕ} → IsProp (Vectors text from)
one_vector =
    retract_prop (λ x. vector_parts x.1.1) vector_of (λ x. vector-back x.1.1)
    (then one_word (λ a. then one_word (λ b. then one_word (λ c. Σ_prop (one_number Width (λ n. refl)) (λ x. one_word)))))

abbrev ArrayParts : List ℕ → ℕ → Type 0
ArrayParts text from =
    Then (Stands text from Open) (λ a. Then (Stands text a (Name (Some sort_name.Array))) (λ b.
    (x : Vectors text b) × ((y : Vectors text x.1.0) × To (Stands text y.1.0 Close))))

one_array : {text : List ℕ} {from : ℕ} → IsProp (ArrayParts text from)
one_array = then one_word (λ a. then one_word (λ b. Σ_prop one_vector (λ x. Σ_prop one_vector (λ y. one_word))))

-- a sort, with its derivation
abbrev Sorts : List ℕ → ℕ → Type 0
Sorts text from = (s : Sort) × To (Sorting text from s)

abbrev bool_of : {text : List ℕ} {from : ℕ} → To (Stands text from (Name (Some sort_name.Bool))) → Sorts text from
bool_of x = (record { m = 0; n = 0 }, (x.0, bool x.1))

abbrev vector_sort : {text : List ℕ} {from : ℕ} → Vectors text from → Sorts text from
vector_sort x = (record { m = 0; n = x.0 }, (x.1.0, vector x.1.1))

abbrev array_of : {text : List ℕ} {from : ℕ} → ArrayParts text from → Sorts text from
array_of (o, (k, (x, (y, e)))) = (record { m = x.0; n = y.0 }, (e.0, array o.1 k.1 x.1.1 y.1.1 e.1))

-- words of two kinds do not stand at one place
apart : {text : List ℕ} {from from' to to' : ℕ} {w w' : Word} → from ≡ from' → Stands text from w to → Stands text from' w' to' → kind w ≡ kind w'
apart e s s' = ap kind (same_word e s s').0

same_sorting : {text : List ℕ} {from to to' : ℕ} {s s' : Sort} (d : Sorting text from s to) (d' : Sorting text from s' to')
    → ◌≡◌ {A = Sorts text from} (s, (to, d)) (s', (to', d'))
same_sorting (bool w) (bool w') = ap bool_of (one_word (_, w) (_, w'))
same_sorting (bool w) (vector (vectored o k u n c)) = absurd (omega (arith, apart refl w o))
same_sorting (bool w) (array o a m n c) = absurd (omega (arith, apart refl w o))
same_sorting (vector (vectored o k u n c)) (bool w) = absurd (omega (arith, apart refl o w))
same_sorting (vector x) (vector x') = ap vector_sort (one_vector (_, (_, x)) (_, (_, x')))
same_sorting (vector (vectored o k u w c)) (array o' a m n c') = absurd (omega (arith, apart (same_word refl o o').1 k a))
same_sorting (array o a m n c) (bool w) = absurd (omega (arith, apart refl o w))
same_sorting (array o' a m n c') (vector (vectored o k u w c)) = absurd (omega (arith, apart (same_word refl o' o).1 a k))
same_sorting (array o a m n c) (array o' a' m' n' c') =
    ap array_of (one_array ((_, o), ((_, a), ((_, (_, m)), ((_, (_, n)), (_, c))))) ((_, o'), ((_, a'), ((_, (_, m')), ((_, (_, n')), (_, c'))))))

one_sort : {text : List ℕ} {from : ℕ} (s : Sort) → IsProp (To (Sorting text from s))
one_sort {text} {from} = fibre_prop {B = λ s. To (Sorting text from s)} sort_set (λ x y. same_sorting x.1.1 y.1.1)

-- Expressions: the tree tells which parts there are

abbrev ExpressionParts : List ℕ → ℕ → Tree → Type 0
ExpressionParts text from (literal n v) = To (Stands text from (Literal n v))
ExpressionParts text from (symbol w) = To (Named text from w)
ExpressionParts text from (apply op ts) =
    Then (Stands text from Open) (λ a. Then (Stands text a (Operator op)) (λ b. Then (Operands text b ts) (λ c. To (Stands text c Close))))

abbrev OperandsParts : List ℕ → ℕ → Trees → Type 0
OperandsParts text from nil = Unit
OperandsParts text from (cons t ts) = Then (λ to. Expression text from t to) (λ a. To (Operands text a ts))

abbrev expression_parts : {text : List ℕ} {from to : ℕ} {t : Tree} → Expression text from t to → ExpressionParts text from t
expression_parts (constant {to = to} w) = (to, w)
expression_parts (name {to = to} w) = (to, w)
expression_parts (list {a = a} {b = b} {c = c} {to = to} o p os e) = ((a, o), ((b, p), ((c, os), (to, e))))

abbrev expression_of : {text : List ℕ} {from : ℕ} (t : Tree) → ExpressionParts text from t → To (Expression text from t)
expression_of (literal n v) (to, w) = (to, constant w)
expression_of (symbol w) (to, x) = (to, name x)
expression_of (apply op ts) (o, (p, (os, e))) = (e.0, list o.1 p.1 os.1 e.1)

expression_back : {text : List ℕ} {from to : ℕ} {t : Tree} (d : Expression text from t to)
    → ◌≡◌ {A = To (Expression text from t)} (expression_of t (expression_parts d)) (to, d)
expression_back (constant w) = refl
expression_back (name w) = refl
expression_back (list o p os e) = refl

abbrev operands_parts : {text : List ℕ} {from to : ℕ} {ts : Trees} → Operands text from ts to → OperandsParts text from ts
operands_parts none = tt
operands_parts (more {mid = mid} {to = to} d ds) = ((mid, d), (to, ds))

abbrev operands_of : {text : List ℕ} {from : ℕ} (ts : Trees) → OperandsParts text from ts → To (Operands text from ts)
operands_of {from = from} nil x = (from, none)
operands_of (cons t ts) (d, ds) = (ds.0, more d.1 ds.1)

operands-back : {text : List ℕ} {from to : ℕ} {ts : Trees} (d : Operands text from ts to)
    → ◌≡◌ {A = To (Operands text from ts)} (operands_of ts (operands_parts d)) (to, d)
operands-back none = refl
operands-back (more d ds) = refl

expression_by : {text : List ℕ} {from : ℕ} (t : Tree) → IsProp (ExpressionParts text from t) → IsProp (To (Expression text from t))
expression_by t = retract_prop (λ x. expression_parts x.1) (expression_of t) (λ x. expression_back x.1)

operands_by_lem : {text : List ℕ} {from : ℕ} (ts : Trees) → IsProp (OperandsParts text from ts) → IsProp (To (Operands text from ts))
operands_by_lem ts = retract_prop (λ x. operands_parts x.1) (operands_of ts) (λ x. operands-back x.1)

mutual
  one_expression : (t : Tree) {text : List ℕ} {from : ℕ} → IsProp (To (Expression text from t))
  one_expression (literal n v) = expression_by (literal n v) one_word
  one_expression (symbol w) = expression_by (symbol w) one_name
  one_expression (apply op ts) = expression_by (apply op ts) (then one_word (λ a. then one_word (λ b. then (one_operands ts) (λ c. one_word))))

  one_operands : (ts : Trees) {text : List ℕ} {from : ℕ} → IsProp (To (Operands text from ts))
  one_operands nil = operands_by_lem nil Unit-prop
  one_operands (cons t ts) = operands_by_lem (cons t ts) (then (one_expression t) (λ a. one_operands ts))

-- Declarations and asserts: the list tells which parts there are

abbrev DeclarationsParts : List ℕ → ℕ → List Declared → Type 0
DeclarationsParts text from [] = Unit
DeclarationsParts text from (d ∷ ds) =
    Then (Stands text from Open) (λ a. Then (Stands text a (Keyword DeclareConst)) (λ b. Then (Named text b d.name) (λ c.
    Then (Sorting text c d.sort) (λ e. Then (Stands text e Close) (λ f. To (Declarations text f ds))))))

abbrev declarations_parts : {text : List ℕ} {from to : ℕ} {ds : List Declared} → Declarations text from ds to → DeclarationsParts text from ds
declarations_parts undeclared = tt
declarations_parts (declared {a = a} {b = b} {c = c} {d = d} {e = e} {to = to} o k n s f ds) = ((a, o), ((b, k), ((c, n), ((d, s), ((e, f), (to, ds))))))

abbrev declarations_of : {text : List ℕ} {from : ℕ} (ds : List Declared) → DeclarationsParts text from ds → To (Declarations text from ds)
declarations_of {from = from} [] x = (from, undeclared)
declarations_of (d ∷ ds) (o, (k, (n, (s, (f, r))))) = (r.0, declared o.1 k.1 n.1 s.1 f.1 r.1)

declarations_back : {text : List ℕ} {from to : ℕ} {ds : List Declared} (d : Declarations text from ds to)
    → ◌≡◌ {A = To (Declarations text from ds)} (declarations_of ds (declarations_parts d)) (to, d)
declarations_back undeclared = refl
declarations_back (declared o k n s f ds) = refl

declarations_by : {text : List ℕ} {from : ℕ} (ds : List Declared) → IsProp (DeclarationsParts text from ds) → IsProp (To (Declarations text from ds))
declarations_by ds = retract_prop (λ x. declarations_parts x.1) (declarations_of ds) (λ x. declarations_back x.1)

one_declarations : (ds : List Declared) {text : List ℕ} {from : ℕ} → IsProp (To (Declarations text from ds))
one_declarations [] = declarations_by [] Unit-prop
one_declarations (d ∷ ds) =
    declarations_by (d ∷ ds)
    (then one_word (λ a. then one_word (λ b. then one_name (λ c. then (one_sort d.sort) (λ e. then one_word (λ f. one_declarations ds))))))

abbrev AssertsParts : List ℕ → ℕ → List Tree → Type 0
AssertsParts text from [] = Unit
AssertsParts text from (t ∷ ts) =
    Then (Stands text from Open) (λ a. Then (Stands text a (Keyword Assert)) (λ b. Then (Expression text b t) (λ c.
    Then (Stands text c Close) (λ d. To (Asserts text d ts)))))

abbrev asserts_parts : {text : List ℕ} {from to : ℕ} {ts : List Tree} → Asserts text from ts to → AssertsParts text from ts
asserts_parts unasserted = tt
asserts_parts (asserted {a = a} {b = b} {c = c} {d = d} {to = to} o k x f xs) = ((a, o), ((b, k), ((c, x), ((d, f), (to, xs)))))

abbrev asserts_of : {text : List ℕ} {from : ℕ} (ts : List Tree) → AssertsParts text from ts → To (Asserts text from ts)
asserts_of {from = from} [] x = (from, unasserted)
asserts_of (t ∷ ts) (o, (k, (x, (f, r)))) = (r.0, asserted o.1 k.1 x.1 f.1 r.1)

asserts_back : {text : List ℕ} {from to : ℕ} {ts : List Tree} (d : Asserts text from ts to)
    → ◌≡◌ {A = To (Asserts text from ts)} (asserts_of ts (asserts_parts d)) (to, d)
asserts_back unasserted = refl
asserts_back (asserted o k x f xs) = refl

asserts_by : {text : List ℕ} {from : ℕ} (ts : List Tree) → IsProp (AssertsParts text from ts) → IsProp (To (Asserts text from ts))
asserts_by ts = retract_prop (λ x. asserts_parts x.1) (asserts_of ts) (λ x. asserts_back x.1)

one_asserts : (ts : List Tree) {text : List ℕ} {from : ℕ} → IsProp (To (Asserts text from ts))
one_asserts [] = asserts_by [] Unit-prop
one_asserts (t ∷ ts) =
    asserts_by (t ∷ ts) (then one_word (λ a. then one_word (λ b. then (one_expression t) (λ c. then one_word (λ d. one_asserts ts)))))

-- Whole texts

abbrev ReadsParts : List ℕ → Rule → Type 0
ReadsParts text r =
    Then (Declarations text 0 r.declarations) (λ a. Then (Asserts text a r.asserts) (λ b. Then (Stands text b Open) (λ c.
    Then (Stands text c (Keyword CheckSat)) (λ d. Then (Stands text d Close) (λ e. (token_at text e).word ≡ End)))))

abbrev reads_parts : {text : List ℕ} {r : Rule} → Reads text r → ReadsParts text r
reads_parts x =
    ((x.declared_to, x.declarations), ((x.asserted_to, x.asserts), ((x.opened_to, x.opened), ((x.checked_to, x.checked), ((x.closed_to, x.closed), x.ended)))))

abbrev reads_of : {text : List ℕ} {r : Rule} → ReadsParts text r → Reads text r
reads_of (ds, (ts, (o, (k, (c, end))))) = record {
  declared_to = ds.0;
  asserted_to = ts.0;
  opened_to = o.0;
  checked_to = k.0;
  closed_to = c.0;
  declarations = ds.1;
  asserts = ts.1;
  opened = o.1;
  checked = k.1;
  closed = c.1;
  ended = end;
}

pub one_derivation : OneDerivation
one_derivation text r =
    retract_prop reads_parts reads_of (λ x. refl)
    (then (one_declarations r.declarations) (λ a. then (one_asserts r.asserts) (λ b. then one_word (λ c. then one_word (λ d.
    then one_word (λ e. word_set (token_at text e).word End))))))

pub unambiguous : Unambiguous
unambiguous text a b =
    let p : a.rule ≡ b.rule = one_reading text a.rule b.rule a.reads b.reads in
    λ i. record { rule = p i; reads = is_prop→PathP (λ j. Reads text (p j)) (λ j. one_derivation text (p j)) a.reads b.reads i }
