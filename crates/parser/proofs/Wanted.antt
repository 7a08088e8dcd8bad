-- Words that are asked for by themselves, sorts and new names: what is read without a fault stands there.
-- Assumes nothing.
use Rattle.parser.specs.declared.states.Fault.TheVariants as fault_kind
use Rattle.std.specs.Prelude.{Some, None}
use mathlib.Core.Path.{◌≡◌, refl, sym, ap, ◌∙◌}
use mathlib.Core.Bool.{Bool, true, false, cond}
use mathlib.Core.List.{List}
use Prim.Native.Nat.{ℕ, zero, suc}
use native.Mathlib.Omega.{arith}
use lib.Dec.{eqb}
use borrow.Author.Tests.{eqb-true, eqb-false}
use Rattle.smtlib.specs.Bytes.{part}
use Rattle.parser.specs.declared.words.Word.{Word}
use Rattle.parser.specs.declared.words.Word.TheVariants.{Open, Close, Keyword, Operator, Literal, Width, Name, Other, End}
use Rattle.parser.specs.declared.words.Keyword.TheVariants.{DeclareConst, Assert, CheckSat, Underscore}
use Rattle.parser.specs.declared.words.SortName.TheVariants as sort_name
use Rattle.parser.specs.declared.states.State.{State}
use Rattle.parser.specs.declared.states.Sorted.{Sorted}
use Rattle.parser.specs.Words.{name_at, token_at}
use Rattle.parser.specs.Names.{declared}
use Rattle.parser.specs.Expressions.{fault_in, faulty_at}
use Rattle.parser.specs.Rules.{code_of, moved_to, expected, width_in, sorted_as, width_of, vector_of, array_of, sort_of, is_name, new_name}
use Rattle.parser.specs.Grammar.{Stands, Named, Vector, Sorting}
use Rattle.parser.specs.Grammar.Vector.{vector as vectored}
use Rattle.parser.specs.Grammar.Sorting.{bool, vector, array}
use Rattle.parser.proofs.Unique.{carried}
use Rattle.parser.proofs.Accepts.{never}

-- the word of each code
abbrev pub word_by : ℕ → Word
word_by zero = Other
word_by (suc zero) = Open
word_by (suc (suc zero)) = Close
word_by (suc (suc (suc zero))) = Keyword DeclareConst
word_by (suc (suc (suc (suc zero)))) = Keyword Assert
word_by (suc (suc (suc (suc (suc zero))))) = Keyword CheckSat
word_by (suc (suc (suc (suc (suc (suc zero)))))) = Keyword Underscore
word_by (suc (suc (suc (suc (suc (suc (suc zero))))))) = Name (Some sort_name.Bool)
word_by (suc (suc (suc (suc (suc (suc (suc (suc zero)))))))) = Name (Some sort_name.BitVec)
word_by (suc (suc (suc (suc (suc (suc (suc (suc (suc zero))))))))) = Name (Some sort_name.Array)
word_by (suc (suc (suc (suc (suc (suc (suc (suc (suc (suc n)))))))))) = End

by_code : (w : Word) → (code_of w ≡ 0 → ⊥) → w ≡ word_by (code_of w)
by_code Open n = refl
by_code Close n = refl
by_code (Keyword DeclareConst) n = refl
by_code (Keyword Assert) n = refl
by_code (Keyword CheckSat) n = refl
by_code (Keyword Underscore) n = refl
by_code (Operator op) n = absurd (n refl)
by_code (Literal m v) n = absurd (n refl)
by_code (Width m) n = absurd (n refl)
by_code (Name None) n = absurd (n refl)
by_code (Name (Some sort_name.Bool)) n = refl
by_code (Name (Some sort_name.BitVec)) n = refl
by_code (Name (Some sort_name.Array)) n = refl
by_code Other n = absurd (n refl)
by_code End n = refl

pub coded : (text : List ℕ) (at code : ℕ) → code_of (token_at text at).word ≡ suc code → (token_at text at).word ≡ word_by (suc code)
coded text at code e = by_code (token_at text at).word (λ z. omega arith) ∙ ap word_by e

-- past the word of a code
pub record Went (text : List ℕ) (s : State) (w : Word) (v : State) : Type 0 where
  pub clean : fault_in s ≡ 0
  pub stands : Stands text s.at w v.at

went_by : (text : List ℕ) (s : State) (code : ℕ) (a b : Bool) → eqb (fault_in s) 0 ≡ a → eqb (code_of (token_at text s.at).word) (suc code) ≡ b
    → (v : State) → v ≡ cond a (cond b (moved_to s (token_at text s.at).next) (faulty_at s fault_kind.Unexpected (token_at text s.at).from)) s → fault_in v ≡ 0 → Went text s (word_by (suc code)) v
went_by text s code true true e f v z c =
    record { clean = eqb-true _ _ e; stands = record { here = coded text s.at code (eqb-true _ _ f); after = ap (λ (x : State). x.at) (sym z) } }
went_by text s code true false e f v z c = absurd (let n : 31 ≡ 0 = ap (λ (x : State). (fault_in x)) (sym z) ∙ c in omega arith)
went_by text s code false b e f v z c = absurd (eqb-false _ _ e (ap (λ (x : State). (fault_in x)) (sym z) ∙ c))

pub went : (text : List ℕ) (s : State) (code : ℕ) → (fault_in (expected text s (suc code))) ≡ 0 → Went text s (word_by (suc code)) (expected text s (suc code))
unfolding expected
went text s code c = went_by text s code (eqb (fault_in s) 0) (eqb (code_of (token_at text s.at).word) (suc code)) refl refl _ refl c

-- Sorts

width_word : (w : Word) → (width_in w ≡ 0 → ⊥) → w ≡ Width (width_in w)
width_word Open n = absurd (n refl)
width_word Close n = absurd (n refl)
width_word (Keyword k) n = absurd (n refl)
width_word (Operator op) n = absurd (n refl)
width_word (Literal m v) n = absurd (n refl)
width_word (Width m) n = refl
width_word (Name k) n = absurd (n refl)
width_word Other n = absurd (n refl)
width_word End n = absurd (n refl)

record Wide (text : List ℕ) (s : State) (v : Sorted) : Type 0 where
  clean : fault_in s ≡ 0
  stands : Stands text s.at (Width v.sort.n) v.state.at

wide_by : (text : List ℕ) (s : State) (a b : Bool) → eqb (fault_in s) 0 ≡ a → eqb (width_in (token_at text s.at).word) 0 ≡ b
    → (v : Sorted) → v ≡ cond a (cond b (sorted_as (faulty_at s fault_kind.Unexpected (token_at text s.at).from) 0 0) (sorted_as (moved_to s (token_at text s.at).next) 0 (width_in (token_at text s.at).word))) (sorted_as s 0 0)
    → fault_in v.state ≡ 0 → Wide text s v
wide_by text s true true e f v z c = absurd (let n : 31 ≡ 0 = ap (λ (x : Sorted). (fault_in x.state)) (sym z) ∙ c in omega arith)
wide_by text s true false e f v z c =
    record { clean = eqb-true _ _ e; stands = record { here = width_word (token_at text s.at).word (eqb-false _ _ f) ∙ ap (λ (x : Sorted). Width x.sort.n) (sym z); after = ap (λ (x : Sorted). x.state.at) (sym z) } }
wide_by text s false b e f v z c = absurd (eqb-false _ _ e (ap (λ (x : Sorted). (fault_in x.state)) (sym z) ∙ c))

wide : (text : List ℕ) (s : State) → (fault_in (width_of text s).state) ≡ 0 → Wide text s (width_of text s)
unfolding width_of
wide text s c = wide_by text s (eqb (fault_in s) 0) (eqb (width_in (token_at text s.at).word) 0) refl refl _ refl c

pub record VectorRead (text : List ℕ) (s : State) (v : Sorted) : Type 0 where
  pub clean : fault_in s ≡ 0
  pub reads : Vector text s.at v.sort.n v.state.at

pub vector-read : (text : List ℕ) (s : State) → (fault_in (vector_of text s).state) ≡ 0 → VectorRead text s (vector_of text s)
unfolding vector_of
vector-read text s c =
    let s₁ = expected text s 1 in
    let s₂ = expected text s₁ 6 in
    let s₃ = expected text s₂ 8 in
    let e = went text (width_of text s₃).state 1 c in
    let w = wide text s₃ e.clean in
    let z = went text s₂ 7 w.clean in
    let y = went text s₁ 5 z.clean in
    let x = went text s 0 y.clean in
    record { clean = x.clean; reads = vectored x.stands y.stands z.stands w.stands e.stands }

pub record SortRead (text : List ℕ) (s : State) (v : Sorted) : Type 0 where
  pub clean : fault_in s ≡ 0
  pub reads : Sorting text s.at (record { m = v.sort.m; n = v.sort.n }) v.state.at

array-read : (text : List ℕ) (s : State) → (fault_in (array_of text s).state) ≡ 0 → SortRead text s (array_of text s)
unfolding array_of
array-read text s c =
    let s₁ = expected text s 1 in
    let s₂ = expected text s₁ 9 in
    let m = vector_of text s₂ in
    let n = vector_of text m.state in
    let e = went text n.state 1 c in
    let q = vector-read text m.state e.clean in
    let p = vector-read text s₂ q.clean in
    let y = went text s₁ 8 p.clean in
    let x = went text s 0 y.clean in
    record { clean = x.clean; reads = array x.stands y.stands p.reads q.reads e.stands }

vector_sort_lem : (text : List ℕ) (s : State) → (fault_in (vector_of text s).state) ≡ 0 → SortRead text s (vector_of text s)
unfolding vector_of
vector_sort_lem text s c = let r = vector-read text s c in record { clean = r.clean; reads = vector r.reads }

bool_sort : (text : List ℕ) (s : State) → (fault_in (expected text s 7)) ≡ 0 → SortRead text s (sorted_as (expected text s 7) 0 0)
bool_sort text s c = let r = went text s 6 c in record { clean = r.clean; reads = bool r.stands }

pub sort_read : (text : List ℕ) (s : State) → (fault_in (sort_of text s).state) ≡ 0 → SortRead text s (sort_of text s)
unfolding sort_of
sort_read text s c = go (eqb (code_of (token_at text s.at).word) 1) (eqb (code_of (token_at text (token_at text s.at).next).word) 9) c
  where
    go : (a b : Bool) → (fault_in (cond a (cond b (array_of text s) (vector_of text s)) (sorted_as (expected text s 7) 0 0)).state) ≡ 0 → SortRead text s (cond a (cond b (array_of text s) (vector_of text s)) (sorted_as (expected text s 7) 0 0))
    go true true f = array-read text s f
    go true false f = vector_sort_lem text s f
    go false b f = bool_sort text s f

-- New names

name-word : (w : Word) → is_name w ≡ true → w ≡ Name (name_at (carried w))
name-word Open e = absurd (never e)
name-word Close e = absurd (never e)
name-word (Keyword k) e = absurd (never e)
name-word (Operator op) e = absurd (never e)
name-word (Literal m v) e = absurd (never e)
name-word (Width m) e = absurd (never e)
name-word (Name None) e = refl
name-word (Name (Some sort_name.Bool)) e = refl
name-word (Name (Some sort_name.BitVec)) e = refl
name-word (Name (Some sort_name.Array)) e = refl
name-word Other e = absurd (never e)
name-word End e = absurd (never e)

abbrev pub bytes_at : List ℕ → ℕ → List ℕ
bytes_at text at = part text (token_at text at).from (token_at text at).next

pub record NewName (text : List ℕ) (names : ℕ) (s v : State) : Type 0 where
  pub clean : fault_in s ≡ 0
  pub named : Named text s.at (bytes_at text s.at) v.at
  pub new : declared text names (bytes_at text s.at) ≡ false

new_by : (text : List ℕ) (names : ℕ) (s : State) (a b d : Bool) → eqb (fault_in s) 0 ≡ a → is_name (token_at text s.at).word ≡ b → declared text names (bytes_at text s.at) ≡ d
    → (v : State) → v ≡ cond a (cond b (cond d (faulty_at s fault_kind.Undeclared (token_at text s.at).from) (moved_to s (token_at text s.at).next)) (faulty_at s fault_kind.Unexpected (token_at text s.at).from)) s
    → fault_in v ≡ 0 → NewName text names s v
new_by text names s true true true e f g v z c = absurd (let n : 32 ≡ 0 = ap (λ (x : State). (fault_in x)) (sym z) ∙ c in omega arith)
new_by text names s true true false e f g v z c =
    record {
      clean = eqb-true _ _ e;
      named = record { sort = name_at (carried (token_at text s.at).word); stands = record { here = name-word (token_at text s.at).word f; after = ap (λ (x : State). x.at) (sym z) }; bytes_are = refl };
      new = g;
    }
new_by text names s true false d e f g v z c = absurd (let n : 31 ≡ 0 = ap (λ (x : State). (fault_in x)) (sym z) ∙ c in omega arith)
new_by text names s false b d e f g v z c = absurd (eqb-false _ _ e (ap (λ (x : State). (fault_in x)) (sym z) ∙ c))

pub new_name_lem : (text : List ℕ) (names : ℕ) (s : State) → (fault_in (new_name text names s)) ≡ 0 → NewName text names s (new_name text names s)
unfolding new_name
new_name_lem text names s c = new_by text names s (eqb (fault_in s) 0) (is_name (token_at text s.at).word) (declared text names (bytes_at text s.at)) refl refl refl _ refl c
