-- Every word of a sentence is expected.
-- Assumes nothing.
use mathlib.Core.Path.{◌≡◌, refl, ◌∙◌}
use mathlib.Core.Bool.{Bool, true, false, cond, ◌&&◌}
use mathlib.Core.List.{List, [], ◌∷◌}
use Prim.Native.Nat.{ℕ, suc}
use native.Mathlib.Omega.{arith}
use lib.Dec.{eqb}
use borrow.Author.Tests.{ne_eqb}
use Rattle.parser.specs.declared.words.Word.{Word}
use Rattle.prefixes.specs.Spelling.{is_end}
use Rattle.prefixes.specs.Prefixes.{Want, Level, Place, on_to, vector_then, counted, place_after, asserted_after, expected_at}
use Rattle.prefixes.specs.Prefixes.Want.{the}
use Rattle.prefixes.specs.Prefixes.Place.{commands, sorting, wanting, operand}
use Rattle.prefixes.specs.Sentences.{Vector, Sorting, Expression, Operands, Declarations, Asserts, Sentence}
use Rattle.prefixes.specs.Sentences.Vector.{vector as vectored}
use Rattle.prefixes.specs.Sentences.Sorting.{bool, vector, array}
use Rattle.prefixes.specs.Sentences.Expression.{constant, name, list}
use Rattle.prefixes.specs.Sentences.Operands.{none, more}
use Rattle.prefixes.specs.Sentences.Declarations.{none as undeclared, more as declared}
use Rattle.prefixes.specs.Sentences.Asserts.{none as unasserted, more as asserted}

abbrev pub is_none : List Word → Bool
is_none [] = true
is_none (w ∷ ws) = false

-- each word is expected, up to the end, which is the last
unfoldable pub accepts : Place → Bool → List Word → Bool
accepts p b [] = false
accepts p b (w ∷ ws) =
    let rest = accepts (place_after p w) (asserted_after p b w) ws in
    expected_at p b w && cond (is_end w) (is_none ws) rest

some_width : (n : ℕ) → eqb (suc n) 0 ≡ false
some_width n = ne_eqb (suc n) 0 (λ z. omega arith)

vector_accepted : {ws us : List Word} → Vector ws us → (xs : List Want) (b : Bool) → accepts (on_to (vector_then xs)) b ws ≡ accepts (on_to xs) b us
unfolding accepts
vector_accepted (vectored {n = n}) xs b = rw (some_width n)

sort_accepted : {ws us : List Word} → Sorting ws us → (b : Bool) → accepts sorting b ws ≡ accepts (wanting (the 2) []) b us
unfolding accepts
sort_accepted bool b = refl
sort_accepted (vector (vectored {n = n})) b = rw (some_width n)
sort_accepted (array v w) b = vector_accepted v (vector_then (the 2 ∷ the 2 ∷ [])) b ∙ vector_accepted w (the 2 ∷ the 2 ∷ []) b

record Counted (op n : ℕ) (ls : List Level) (b : Bool) (ws us : List Word) : Type 0 where
  many : ℕ
  same : accepts (operand (record { op = op; operands = n } ∷ ls)) b ws ≡ accepts (operand (record { op = op; operands = many } ∷ ls)) b us

mutual
  unfolding accepts

  expression_accepted : {ws us : List Word} → Expression ws us → (ls : List Level) (b : Bool) → accepts (operand ls) b ws ≡ accepts (counted ls) b us
  expression_accepted constant ls b = refl
  expression_accepted name ls b = refl
  expression_accepted (list {op = op} os) ls b = (operands_accepted os op 0 ls b).same

  operands_accepted : {ws us : List Word} → Operands ws us → (op n : ℕ) (ls : List Level) (b : Bool) → Counted op n ls b ws us
  operands_accepted none op n ls b = record { many = n; same = refl }
  operands_accepted (more e os) op n ls b =
      let r = operands_accepted os op (suc n) ls b in
      record { many = r.many; same = expression_accepted e (record { op = op; operands = n } ∷ ls) b ∙ r.same }

declarations_accepted : {ws us : List Word} → Declarations ws us → accepts commands false ws ≡ accepts commands false us
unfolding accepts
declarations_accepted undeclared = refl
declarations_accepted (declared s ds) = sort_accepted s false ∙ declarations_accepted ds

record Asserted (b : Bool) (ws us : List Word) : Type 0 where
  then_is : Bool
  same : accepts commands b ws ≡ accepts commands then_is us

asserts_accepted : {ws us : List Word} → Asserts ws us → (b : Bool) → Asserted b ws us
unfolding accepts
asserts_accepted unasserted b = record { then_is = b; same = refl }
asserts_accepted (asserted e ts) b =
    let r = asserts_accepted ts true in
    record { then_is = r.then_is; same = expression_accepted e [] true ∙ r.same }

pub sentence_accepted : {ws : List Word} → Sentence ws → accepts commands false ws ≡ true
unfolding accepts
sentence_accepted s = let r = asserts_accepted s.asserts false in declarations_accepted s.declarations ∙ r.same
