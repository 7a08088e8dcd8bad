-- Derivations lead onward in the text, and one may follow another.
-- Assumes nothing.
use mathlib.Core.Path.{◌≡◌, refl}
use mathlib.Core.List.{List, ◌++◌}
use Prim.Native.Nat.{ℕ, ◌<◌, ◌≤◌}
use native.Mathlib.Omega.{arith}
use lib.ListN.{length}
use Rattle.table.specs.declared.words.Sort.{Sort}
use Rattle.parser.specs.declared.words.Word.{Word}
use Rattle.parser.specs.declared.words.Word.TheVariants.{Open, Close}
use Rattle.parser.specs.Words.{white}
use Rattle.parser.specs.Grammar.{Tree, Trees, Declared, Stands, Vector, Sorting, Expression, Operands, Declarations, Asserts}
use Rattle.parser.specs.Grammar.Vector.{vector as vectored}
use Rattle.parser.specs.Grammar.Sorting.{bool, vector, array}
use Rattle.parser.specs.Grammar.Expression.{constant, name, list}
use Rattle.parser.specs.Grammar.Operands.{none, more}
use Rattle.parser.specs.Grammar.Declarations.{none as undeclared, more as declared}
use Rattle.parser.specs.Grammar.Asserts.{none as unasserted, more as asserted}
use Rattle.parser.proofs.Ahead.{not_before}
use Rattle.parser.proofs.Tokens.{opened, closed, forward}

pub onward : {text : List ℕ} {from to : ℕ} {w : Word} → Stands text from w to → from ≤ to
onward {text} {from} s = omega (arith, forward text from, s.after)

-- a parenthesis is a byte of the text
pub open_onward : {text : List ℕ} {from to : ℕ} → Stands text from Open to → from < to
open_onward {text} {from} s = omega (arith, not_before white text from, (opened text from s.here).next, s.after)

pub close_inside : {text : List ℕ} {from to : ℕ} → Stands text from Close to → to ≤ length text
close_inside {text} {from} s = let b = closed text from s.here in omega (arith, b.within, b.next, s.after)

vector-onward : {text : List ℕ} {from n to : ℕ} → Vector text from n to → from ≤ to
vector-onward (vectored o k b w c) = omega (arith, onward o, onward k, onward b, onward w, onward c)

pub sort_onward : {text : List ℕ} {from to : ℕ} {s : Sort} → Sorting text from s to → from ≤ to
sort_onward (bool w) = onward w
sort_onward (vector v) = vector-onward v
sort_onward (array o a m n c) = omega (arith, onward o, onward a, vector-onward m, vector-onward n, onward c)

mutual
  pub expression_onward : {text : List ℕ} {from to : ℕ} {t : Tree} → Expression text from t to → from ≤ to
  expression_onward (constant w) = onward w
  expression_onward (name w) = onward w.stands
  expression_onward (list o p os c) = omega (arith, onward o, onward p, operands-onward os, onward c)

  operands-onward : {text : List ℕ} {from to : ℕ} {ts : Trees} → Operands text from ts to → from ≤ to
  operands-onward none = omega arith
  operands-onward (more t ts) = omega (arith, expression_onward t, operands-onward ts)

pub then_declared : {text : List ℕ} {from mid to : ℕ} {ds es : List Declared} → Declarations text from ds mid → Declarations text mid es to → Declarations text from (ds ++ es) to
then_declared undeclared r = r
then_declared (declared o k n s c ds) r = declared o k n s c (then_declared ds r)

pub then_asserted : {text : List ℕ} {from mid to : ℕ} {ts us : List Tree} → Asserts text from ts mid → Asserts text mid us to → Asserts text from (ts ++ us) to
then_asserted unasserted r = r
then_asserted (asserted o k t c ts) r = asserted o k t c (then_asserted ts r)

pub no_asserts : {text : List ℕ} {from to : ℕ} {ts : List Tree} → Asserts text from ts to → length ts ≡ 0 → from ≡ to
no_asserts unasserted e = refl
no_asserts (asserted o k t c ts) e = absurd (omega arith)
