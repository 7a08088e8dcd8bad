-- Texts of many declarations and many asserts, and their readings.
-- Assumes nothing.
use Rattle.std.specs.Prelude.{Some, None}
use mathlib.Core.Path.{◌≡◌, refl, sym, ◌∙◌}
use mathlib.Core.Bool.{Bool, true, false}
use mathlib.Core.List.{List, [], ◌∷◌, ◌++◌}
use Prim.Native.Nat.{ℕ, zero, suc, ◌+◌, ◌*◌, ◌≤◌, ◌<◌}
use native.Mathlib.Omega.{arith}
use lib.ListN.{length, replicate, length-replicate, length-append}
use borrow.Author.Tests.{lt-ltb, le-ltb}
use Rattle.smtlib.specs.Bytes.{◌⧺◌, bytes, same_bytes, place_in, is_in}
use Rattle.smtlib.proofs.Searches.{unlike_lengths}
use Rattle.table.specs.Folds.{every}
use Rattle.table.specs.declared.words.Sort.{Sort}
use Rattle.parser.specs.declared.words.Word.{Word}
use Rattle.parser.specs.declared.words.Word.TheVariants.{Keyword, Literal, Name}
use Rattle.parser.specs.declared.words.Keyword.TheVariants.{DeclareConst, Assert, CheckSat}
use Rattle.parser.specs.declared.words.SortName.TheVariants as sort_name
use Rattle.parser.specs.Words.{inside, among, symbolic, symbol, private, plain_of, word_of}
use Rattle.parser.specs.Grammar.{Tree, Declared, Rule, Stands, Declarations, Asserts, Reads}
use Rattle.parser.specs.Grammar.Tree.{literal}
use Rattle.parser.specs.Grammar.Sorting.{bool}
use Rattle.parser.specs.Grammar.Expression.{constant}
use Rattle.parser.specs.Grammar.Declarations.{none as undeclared, more as declared}
use Rattle.parser.specs.Grammar.Asserts.{none as unasserted, more as asserted}
use Rattle.parser.specs.Trees.{names_of, distinct, every_tree, knows, within, counted, meets}
use Rattle.meanings.specs.Numbers.{times, letters, declaring}
use Rattle.meanings.proofs.NumbersTexts.{Rest, further, opened, closed, Run, run, spaced_run, ends}

-- Names of letters

letters-all : (test : ℕ → Bool) → test 122 ≡ true → (n : ℕ) → every test (letters n) ≡ true
unfolding every
letters-all test e zero = refl
letters-all test e (suc n) = rw (e, letters-all test e n)

letters-name : (n : ℕ) → word_of (letters (suc n)) ≡ Name None
unfolding word_of plain_of place_in same_bytes symbol private every among
letters-name n = rw (letters-all symbolic refl n)

declare_word : word_of (bytes "declare-const") ≡ Keyword DeclareConst
unfolding word_of plain_of place_in same_bytes
declare_word = refl

assert-word : word_of (bytes "assert") ≡ Keyword Assert
unfolding word_of plain_of place_in same_bytes
assert-word = refl

check-word : word_of (bytes "check-sat") ≡ Keyword CheckSat
unfolding word_of plain_of place_in same_bytes
check-word = refl

bool_word : word_of (bytes "Bool") ≡ Name (Some sort_name.Bool)
unfolding word_of plain_of place_in same_bytes every among symbol private
bool_word = refl

true_word : word_of (bytes "true") ≡ Literal 0 1
unfolding word_of plain_of place_in same_bytes
true_word = refl

-- Lines

-- what was read ends where the rest stands
record Then (text : List ℕ) (rest : List ℕ) (P : ℕ → Type 0) : Type 0 where
  to : ℕ
  left : Rest text to rest
  reads : P to

spelt : {text : List ℕ} {at to : ℕ} {w : List ℕ} {x : Word} → Run text at w to → word_of w ≡ x → Stands text at x to
spelt r e = record { here = r.stands.here ∙ e; after = r.stands.after }

all-inside : (w : List ℕ) → Type 0
all-inside w = every inside w ≡ true

abbrev boolean : Sort
boolean = record { m = 0; n = 0 }

module _ (text : List ℕ) where
  one_declared : (at k : ℕ) (rest : List ℕ) → Rest text at (bytes "(declare-const " ⧺ letters (suc k) ⧺ bytes " Bool)" ⧺ rest)
      → Then text rest (λ mid. (es : List Declared) (to : ℕ) → Declarations text mid es to
      → Declarations text at (record { name = letters (suc k); sort = boolean } ∷ es) to)
  unfolding every
  one_declared at k rest r =
      let after-name = bytes " Bool)" ⧺ rest in
      let after-word = bytes " " ⧺ letters (suc k) ⧺ after-name in
      let r₁ : Rest text (at + 1) (bytes "declare-const" ⧺ after-word) = further (40 ∷ []) r in
      let r₂ : Rest text (at + 1 + 13) after-word = further (bytes "declare-const") r₁ in
      let r₃ : Rest text (at + 1 + 13 + 1) (letters (suc k) ⧺ after-name) = further (32 ∷ []) r₂ in
      let r₄ : Rest text (at + 1 + 13 + 1 + length (letters (suc k))) after-name = further (letters (suc k)) r₃ in
      let r₅ : Rest text (at + 1 + 13 + 1 + length (letters (suc k)) + 1) (bytes "Bool)" ⧺ rest) = further (32 ∷ []) r₄ in
      let r₆ : Rest text (at + 1 + 13 + 1 + length (letters (suc k)) + 1 + 4) (41 ∷ rest) = further (bytes "Bool") r₅ in
      let k₁ = run 100 (bytes "eclare-const") 32 (letters (suc k) ⧺ after-name) r₁ refl refl in
      let n = spaced_run 122 (letters k) 32 (bytes "Bool)" ⧺ rest) r₂ (letters-all inside refl (suc k)) refl in
      let s = spaced_run 66 (bytes "ool") 41 rest r₄ refl refl in
      record {
        to = at + 1 + 13 + 1 + length (letters (suc k)) + 1 + 4 + 1;
        left = further (41 ∷ []) r₆;
        reads = λ es to ds. declared (opened r) (spelt k₁ declare_word)
            (record { sort = None; stands = spelt n (letters-name k); bytes_are = n.bytes_are }) (bool (spelt s bool_word)) (closed r₆) ds;
      }

  one_asserted : (at : ℕ) (rest : List ℕ) → Rest text at (bytes "(assert true)" ⧺ rest)
      → Then text rest (λ mid. (ts : List Tree) (to : ℕ) → Asserts text mid ts to → Asserts text at (literal 0 1 ∷ ts) to)
  unfolding every
  one_asserted at rest r =
      let r₁ : Rest text (at + 1) (bytes "assert true)" ⧺ rest) = further (40 ∷ []) r in
      let r₂ : Rest text (at + 1 + 6) (bytes " true)" ⧺ rest) = further (bytes "assert") r₁ in
      let r₃ : Rest text (at + 1 + 6 + 1) (bytes "true)" ⧺ rest) = further (32 ∷ []) r₂ in
      let r₄ : Rest text (at + 1 + 6 + 1 + 4) (41 ∷ rest) = further (bytes "true") r₃ in
      let k = run 97 (bytes "ssert") 32 (bytes "true)" ⧺ rest) r₁ refl refl in
      let x = spaced_run 116 (bytes "rue") 41 rest r₂ refl refl in
      record {
        to = at + 1 + 6 + 1 + 4 + 1;
        left = further (41 ∷ []) r₄;
        reads = λ ts to as'. asserted (opened r) (spelt k assert-word) (constant (spelt x true_word)) (closed r₄) as';
      }

-- The rule: n Booleans, of names of k + 1 letters and more; m times true

abbrev pub booleans : ℕ → ℕ → List Declared
booleans zero k = []
booleans (suc n) k = record { name = letters (suc k); sort = record { m = 0; n = 0 } } ∷ booleans n (suc k)

abbrev pub trues : ℕ → List Tree
trues m = replicate m (literal 0 1)

abbrev pub many_rule : ℕ → ℕ → Rule
many_rule n m = record { declarations = booleans n 0; asserts = trues m }

abbrev pub many_text : ℕ → ℕ → List ℕ
many_text n m = declaring n 1 (times m (bytes "(assert true)") (bytes "(check-sat)"))

module _ (text : List ℕ) where
  all-declared : (n at k : ℕ) (rest : List ℕ) → Rest text at (declaring n (suc k) rest) → Then text rest (Declarations text at (booleans n k))
  unfolding declaring
  all-declared zero at k rest r = record { to = at; left = r; reads = undeclared }
  all-declared (suc n) at k rest r =
      let l = one_declared text at k (declaring n (suc (suc k)) rest) r in
      let m = all-declared n l.to (suc k) rest l.left in
      record { to = m.to; left = m.left; reads = l.reads (booleans n (suc k)) m.to m.reads }

  all-asserted : (m at : ℕ) (rest : List ℕ) → Rest text at (times m (bytes "(assert true)") rest) → Then text rest (Asserts text at (trues m))
  unfolding times
  all-asserted zero at rest r = record { to = at; left = r; reads = unasserted }
  all-asserted (suc m) at rest r =
      let l = one_asserted text at (times m (bytes "(assert true)") rest) r in
      let q = all-asserted m l.to rest l.left in
      record { to = q.to; left = q.left; reads = l.reads (trues m) q.to q.reads }

pub many-reads : (n m : ℕ) → Reads (many_text n m) (many_rule n m)
unfolding every
many-reads n m =
    let text = many_text n m in
    let d = all-declared text n 0 0 (times m (bytes "(assert true)") (bytes "(check-sat)")) (record { is = refl }) in
    let a = all-asserted text m d.to (bytes "(check-sat)") d.left in
    let r₁ : Rest text (a.to + 1) (bytes "check-sat)") = further (40 ∷ []) a.left in
    let r₂ : Rest text (a.to + 1 + 9) (41 ∷ []) = further (bytes "check-sat") r₁ in
    let r₃ : Rest text (a.to + 1 + 9 + 1) [] = further (41 ∷ []) r₂ in
    record {
      declared_to = d.to;
      asserted_to = a.to;
      opened_to = a.to + 1;
      checked_to = a.to + 1 + 9;
      closed_to = a.to + 1 + 9 + 1;
      declarations = d.reads;
      asserts = a.reads;
      opened = opened a.left;
      checked = spelt (run 99 (bytes "heck-sat") 41 [] r₁ refl refl) check-word;
      closed = closed r₂;
      ended = ends r₃;
    }

-- Names of unlike lengths are unlike

longer : (n k j : ℕ) → j < k → is_in (names_of (booleans n k)) (letters (suc j)) ≡ false
unfolding place_in
longer n k j h = le-ltb (place_in (names_of (booleans n k)) (letters (suc j))) (length (names_of (booleans n k))) (go n k h)
  where
    go : (n k : ℕ) → j < k → length (names_of (booleans n k)) ≤ place_in (names_of (booleans n k)) (letters (suc j))
    go zero k h = omega arith
    go (suc n) k h =
        let e = unlike_lengths (letters (suc k)) (letters (suc j))
        (λ same. omega (arith, length-replicate {A = ℕ} k 122, length-replicate {A = ℕ} j 122)) in
        rw (sym e) (omega (arith, go n (suc k) (omega arith)))

all-distinct : (n k : ℕ) → distinct (names_of (booleans n k)) ≡ true
unfolding distinct
all-distinct zero k = refl
all-distinct (suc n) k = rw (longer n (suc k) k (omega arith), all-distinct n (suc k))

every_true : (test : Tree → Bool) → test (literal 0 1) ≡ true → (m : ℕ) → every_tree test (trues m) ≡ true
unfolding every_tree
every_true test e zero = refl
every_true test e (suc m) = rw (e, every_true test e m)

pub many_meets : (n m : ℕ) → meets (many_rule n (suc m)) ≡ true
unfolding knows within counted
many_meets n m =
    rw (
      all-distinct n 0,
      every_true (knows (names_of (booleans n 0))) refl (suc m),
      every_true (within 64) refl (suc m),
      every_true counted refl (suc m),
      lt-ltb 0 (length (trues (suc m))) (omega arith),
    )

-- a line has at most 300 bytes
pub declaring-long : (n k : ℕ) (rest : List ℕ) → n + k ≤ 270 → length (declaring n (suc k) rest) ≤ n * 300 + length rest
unfolding declaring
declaring-long zero k rest h = omega arith
declaring-long (suc n) k rest h =
    let l = declaring n (suc (suc k)) rest in
    let e : length (letters (suc k) ++ (bytes " Bool)" ++ l)) ≡ suc k + (6 + length l) = length-append (letters (suc k)) (bytes " Bool)" ++ l)
    ∙ omega (arith, length-replicate {A = ℕ} k 122) in
    omega (arith, e, declaring-long n (suc k) rest (omega arith))

pub times_long : (m : ℕ) (rest : List ℕ) → length (times m (bytes "(assert true)") rest) ≡ m * 13 + length rest
unfolding times
times_long zero rest = omega arith
times_long (suc m) rest = omega (arith, times_long m rest)
