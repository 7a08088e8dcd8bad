-- Each command of a derivation is read as a step without a fault.
-- Assumes nothing.
use Rattle.std.specs.Prelude.{Some}
use mathlib.Core.Path.{◌≡◌, refl, sym}
use mathlib.Core.Bool.{false}
use mathlib.Core.List.{List}
use Prim.Native.Nat.{ℕ}
use native.Mathlib.Omega.{arith}
use borrow.Author.Tests.{eq-eqb, ne_eqb}
use Rattle.table.specs.declared.words.Sort.{Sort}
use Rattle.table.specs.Code.Writing.{placed}
use Rattle.parser.specs.declared.words.Word.{Word}
use Rattle.parser.specs.declared.words.Word.TheVariants.{Open, Close, Keyword, Width, Name, End}
use Rattle.parser.specs.declared.words.Keyword.TheVariants.{DeclareConst, Assert, CheckSat}
use Rattle.parser.specs.declared.words.SortName.TheVariants as sort_name
use Rattle.parser.specs.declared.states.State.{State}
use Rattle.parser.specs.declared.states.Progress.{Progress}
use Rattle.parser.specs.Words.{marked, token_at}
use Rattle.parser.specs.Names.{declared}
use Rattle.parser.specs.Expressions.{fault_in, Work, added, number, expression_of}
use Rattle.parser.specs.Rules.{code_of, moved_to, expected, sorted_as, width_of, vector_of, array_of, sort_of, is_name, new_name, one_more, variable_term, declaration_of, joined_rule, assert_of, ended_rule, check_of, command_by, command_of}
use Rattle.parser.specs.Grammar.{Stands, Named, Vector, Sorting}
use Rattle.parser.specs.Grammar.Vector.{vector as vectored}
use Rattle.parser.specs.Grammar.Sorting.{bool, vector, array}
use Rattle.parser.proofs.Tokens.{no_zero}

-- a word that is asked for
there : (text : List ℕ) (s : State) (code : ℕ) {from to : ℕ} {w : Word} → fault_in s ≡ 0 → s.at ≡ from → Stands text from w to → code_of w ≡ code → expected text s code ≡ moved_to s to
unfolding expected
there text s code f e w c = rw (eq-eqb _ _ f, e, w.here, w.after, eq-eqb _ _ c)

width-there : (text : List ℕ) (s : State) {from n to : ℕ} → fault_in s ≡ 0 → s.at ≡ from → Stands text from (Width n) to → width_of text s ≡ sorted_as (moved_to s to) 0 n
unfolding width_of
width-there text s {n = n} f e w = rw (eq-eqb _ _ f, e, w.here, w.after, ne_eqb n 0 (λ z. omega (arith, no_zero w)))

-- Sorts

vector-there : (text : List ℕ) (s : State) {from n to : ℕ} → fault_in s ≡ 0 → s.at ≡ from → Vector text from n to → vector_of text s ≡ sorted_as (moved_to s to) 0 n
unfolding vector_of
vector-there text s f e (vectored {a = a} {b = b} {c = c} {d = d} o k v w z) =
    rw (there text s 1 f e o refl, there text (moved_to s a) 6 f refl k refl, there text (moved_to s b) 8 f refl v refl, width-there text (moved_to s c) f refl w, there text (moved_to s d) 2 f refl z refl)

array-there : (text : List ℕ) (s : State) {from a b c d m n to : ℕ} → fault_in s ≡ 0 → s.at ≡ from → Stands text from Open a → Stands text a (Name (Some sort_name.Array)) b → Vector text b m c → Vector text c n d → Stands text d Close to
    → array_of text s ≡ sorted_as (moved_to s to) m n
unfolding array_of
array-there text s {a = a} {b = b} {c = c} {d = d} f e o k v w z =
    rw (there text s 1 f e o refl, there text (moved_to s a) 9 f refl k refl, vector-there text (moved_to s b) f refl v, vector-there text (moved_to s c) f refl w, there text (moved_to s d) 2 f refl z refl)

pub sort_there : (text : List ℕ) (s : State) {from to : ℕ} {q : Sort} → fault_in s ≡ 0 → s.at ≡ from → Sorting text from q to → sort_of text s ≡ sorted_as (moved_to s to) q.m q.n
unfolding sort_of
sort_there text s f e (bool w) = rw (there text s 7 f e w refl, e, w.here)
sort_there text s f e (vector (vectored o k v w z)) = rw (vector-there text s f e (vectored o k v w z), e, o.here, o.after, k.here)
sort_there text s f e (array o a m n c) = rw (array-there text s f e o a m n c, e, o.here, o.after, a.here)

name-there : (text : List ℕ) (names : ℕ) (s : State) {from to : ℕ} {w : List ℕ} → fault_in s ≡ 0 → s.at ≡ from → Named text from w to → declared text names w ≡ false → new_name text names s ≡ moved_to s to
unfolding new_name
name-there text names s f e w d = rw (eq-eqb _ _ f, e, w.stands.here, w.bytes_are, d, w.stands.after)

-- Declarations

declaration-there : (text : List ℕ) (p : Progress) (s : State) (room : List ℕ) {b c d e : ℕ} {w : List ℕ} {q : Sort} → fault_in s ≡ 0 → s.at ≡ b
    → Named text b w c → Sorting text c q d → Stands text d Close e → declared text p.names w ≡ false
    → declaration_of text p s room ≡ record {
      progress = record { state = added s e; names = one_more p.names; asserts = p.asserts; rule = p.rule; bare = p.bare; ended = p.ended };
      room = placed room s.count (variable_term q.m q.n (number p.names) (marked w));
    }
unfolding declaration_of
declaration-there text p s room {c = c} {d = d} f at n t z new =
    rw (name-there text p.names s f at n new, sort_there text (moved_to s c) f refl t, there text (moved_to s d) 2 f refl z refl, eq-eqb _ _ f, at, n.bytes_are)

pub declared-step : (text : List ℕ) (p : Progress) (room : List ℕ) {a b c d e : ℕ} {w : List ℕ} {q : Sort} → fault_in p.state ≡ 0 → p.asserts ≡ 0
    → Stands text p.state.at Open a → Stands text a (Keyword DeclareConst) b → Named text b w c → Sorting text c q d → Stands text d Close e → declared text p.names w ≡ false
    → command_of text p room ≡ record {
      progress = record { state = added p.state e; names = one_more p.names; asserts = p.asserts; rule = p.rule; bare = p.bare; ended = p.ended };
      room = placed room p.state.count (variable_term q.m q.n (number p.names) (marked w));
    }
unfolding command_of command_by
declared-step text p room {b = b} f none o k n t z new =
    rw (o.here, o.after, k.here, k.after, eq-eqb _ _ none) (declaration-there text p (moved_to p.state b) room f refl n t z new)

-- Asserts

pub assert-step : (text : List ℕ) (p : Progress) (room : List ℕ) {a b : ℕ} → Stands text p.state.at Open a → Stands text a (Keyword Assert) b
    → command_of text p room ≡ assert_of text p (moved_to p.state b) room
unfolding command_of command_by
assert-step text p room o k = rw (o.here, o.after, k.here, k.after)

pub assert-there : (text : List ℕ) (p : Progress) (s : State) (room : List ℕ) {c d : ℕ} (v : Work) → v ≡ expression_of 64 text p.names s room → fault_in v.state ≡ 0 → v.state.at ≡ c → Stands text c Close d
    → assert_of text p s room ≡ joined_rule p (is_name (token_at text s.at).word) (record { state = moved_to v.state d; room = v.room })
unfolding assert_of
assert-there text p s room v is f at z = rw (sym is, there text v.state 2 f at z refl)

-- The end

pub check-step : (text : List ℕ) (p : Progress) (room : List ℕ) {a b c : ℕ} → fault_in p.state ≡ 0 → (p.asserts ≡ 0 → ⊥)
    → Stands text p.state.at Open a → Stands text a (Keyword CheckSat) b → Stands text b Close c → (token_at text c).word ≡ End
    → command_of text p room ≡ ended_rule p (moved_to p.state (token_at text c).next) room
unfolding command_of command_by check_of
check-step text p room {b = b} {c = c} f some o k z end =
    rw (o.here, o.after, k.here, k.after, ne_eqb _ _ some, there text (moved_to p.state b) 2 f refl z refl, there text (moved_to p.state c) 10 f refl (record { here = end; after = refl }) refl)
