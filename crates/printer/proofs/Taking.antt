-- A table's script is as SMT-LIB asks: each name is bound once and before it is used, each body has the sort of its definition,
-- the assertion is Boolean.
-- Assumes nothing.
use mathlib.Core.Path.{◌≡◌, refl, ap, ◌∙◌}
use mathlib.Core.Bool.{Bool, true, false, cond}
use mathlib.Core.List.{List, [], ◌∷◌, ◌++◌, map}
use Prim.Native.Nat.{ℕ, zero, suc, pred, ◌≤◌, ◌<◌}
use native.Mathlib.Omega.{arith}
use lib.Dec.{eqb}
use lib.ListN.{length}
use borrow.Author.Tests.{eqb-false, ne_eqb}
use Rattle.ops.specs.declared.Op.TheVariants.{Constant}
use Rattle.smtlib.specs.Bytes.{each}
use Rattle.table.specs.declared.ranks.Fields.{Fields}
use Rattle.table.specs.declared.ranks.Fields.TheVariants.{Value, Slot, One, Two, Three}
use Rattle.table.specs.declared.ranks.Rank.{Rank}
use Rattle.table.specs.declared.ranks.Rank.TheVariants.{Literal, Input, BoolUnary, BoolBinary, Equality, Choice, BvUnary, BvBinary, BvCompare, Read, Write, Other}
use Rattle.table.specs.declared.words.Sort.{Sort}
use Rattle.table.specs.declared.words.Term.{Term}
use Rattle.table.specs.Folds.{every}
use Rattle.table.specs.Terms.{terms, term_at, sort_at, boolean}
use Rattle.table.specs.Ranks.{fields_of, operand_count}
use Rattle.table.specs.Faults.{rank, fields, is_variable, is_constant, typed_as}
use Rattle.table.specs.WellFormed.{WellFormed}
use Rattle.table.proofs.OperandSorts.{typing, typing_as}
use Rattle.table.proofs.Searches.{first_is}
use Rattle.setting.specs.Interpretation as Setting
use Rattle.setting.specs.Interpretation.{Interpretation}
use Rattle.evaluate.specs.Values.{value_at}
use Rattle.printer.specs.Scripts.{Name, Command}
use Rattle.printer.specs.Scripts.Name.{input, defined}
use Rattle.printer.specs.Scripts.Body.{constant, application}
use Rattle.printer.specs.Scripts.Command.{declare, define}
use Rattle.printer.specs.Printed.{name, operands, body, uses, first_use, declaration, definition, script}
use Rattle.printer.specs.Meaning.{Binding, same_name, operand, bind, read, has_name, TakesBody, Takes, ScriptTaken}
use Rattle.printer.proofs.SoundScripts.{constant_op}
use Rattle.printer.proofs.Bindings.{read-append, Bound}
use Rattle.printer.proofs.Meanings.{of-operands, definitions_held, declarations_held, script-held}

module _ (I : Interpretation) where
  -- Commands one after the other are taken where each is
  takes_append : (bs : List Binding) (cs ds : List Command) → Takes I bs cs → Takes I (read I bs cs) ds → Takes I bs (cs ++ ds)
  unfolding Takes read
  takes_append bs [] ds p q = q
  takes_append bs (c ∷ cs) ds (p, ps) q = (p, takes_append (bind I bs c ∷ bs) cs ds ps q)

  takes_each : (bs : List Binding) (line : ℕ → List Command) (n : ℕ) → ((k : ℕ) → k < n → Takes I (read I bs (each line k)) (line k)) → Takes I bs (each line n)
  unfolding each Takes
  takes_each bs line zero h = tt
  takes_each bs line (suc n) h = takes_append bs (each line n) (line n) (takes_each bs line n (λ k b. h k (omega arith))) (h n (omega arith))

  -- A name that is not bound, and that no line binds, is not bound after them
  module _ (x : Name) (bs : List Binding) (fresh : has_name x bs ≡ false) (none : ℕ → Bool) (command : ℕ → Command) where
    abbrev line : ℕ → List Command
    line k = cond (none k) [] (command k ∷ [])

    one_fresh : (bs : List Binding) (c : Command) (b : Bool) → same_name (bind I bs c).name x ≡ false → has_name x bs ≡ false → has_name x (read I bs (cond b [] (c ∷ []))) ≡ false
    unfolding has_name read
    one_fresh bs c true e h = h
    one_fresh bs c false e h = rw (e, h)

    each-fresh : (n : ℕ) → ((k : ℕ) → k < n → (bs : List Binding) → same_name (bind I bs (command k)).name x ≡ false) → has_name x (read I bs (each line n)) ≡ false
    unfolding each read
    each-fresh zero other = fresh
    each-fresh (suc n) other =
        let before = read I bs (each line n) in
        ap (has_name x) (read-append I bs (each line n) (line n))
        ∙ one_fresh before (command n) (none n) (other n (omega arith) before) (each-fresh n (λ k b. other k (omega arith)))

-- An operator with its operands is taken where they are bound to their terms' sorts

module _ (t : List ℕ) (bs : List Binding) (v : ℕ → Setting.Value) (x : Term) (p-bound : Bound t bs v x.p) (q-bound : Bound t bs v x.q) (r-bound : Bound t bs v x.r) where
  abbrev names : Fields → List Name
  names f = map (name t) (operands f x)

  -- they are bound, and as many as the fields hold
  operands-taken : (f : Fields) → (every (λ z. has_name z bs) (names f) ≡ true) × (length (names f) ≡ operand_count f)
  unfolding every
  operands-taken Value = (refl, refl)
  operands-taken Slot = (refl, refl)
  operands-taken One = (rw p-bound.named, refl)
  operands-taken Two = (rw (p-bound.named, q-bound.named), refl)
  operands-taken Three = (rw (p-bound.named, q-bound.named, r-bound.named), refl)

  abbrev at : Rank → ℕ → Sort
  at r i = (operand bs (names (fields_of r)) i).sort

  -- a rank asks nothing of operands that it has not
  same_typed : (r : Rank) (s : Sort) → typed_as r s (at r 0) (at r 1) (at r 2) ≡ typed_as r s (sort_at t x.p) (sort_at t x.q) (sort_at t x.r)
  same_typed Literal s = refl
  same_typed Input s = refl
  same_typed BoolUnary s = λ i. typed_as BoolUnary s (p-bound.sort i) s s
  same_typed BoolBinary s = λ i. typed_as BoolBinary s (p-bound.sort i) (q-bound.sort i) s
  same_typed Equality s = λ i. typed_as Equality s (p-bound.sort i) (q-bound.sort i) s
  same_typed Choice s = λ i. typed_as Choice s (p-bound.sort i) (q-bound.sort i) (r-bound.sort i)
  same_typed BvUnary s = λ i. typed_as BvUnary s (p-bound.sort i) s s
  same_typed BvBinary s = λ i. typed_as BvBinary s (p-bound.sort i) (q-bound.sort i) s
  same_typed BvCompare s = λ i. typed_as BvCompare s (p-bound.sort i) (q-bound.sort i) s
  same_typed Read s = λ i. typed_as Read s (p-bound.sort i) (q-bound.sort i) s
  same_typed Write s = λ i. typed_as Write s (p-bound.sort i) (q-bound.sort i) (r-bound.sort i)
  same_typed Other s = refl

module _ (limit : ℕ) (t : List ℕ) (w : WellFormed limit t) (I : Interpretation) where
  abbrev declarations : ℕ → List Binding
  declarations n = read I [] (each (declaration t) n)

  -- the declarations below n bind no other name
  declarations_fresh : (x : Name) (n : ℕ) → ((s : ℕ) → s < n → same_name (input s) x ≡ false) → has_name x (declarations n) ≡ false
  unfolding has_name declaration
  declarations_fresh x n other = each-fresh I x [] refl (λ s. eqb (first_use t s) (terms t)) (λ s. declare s (sort_at t (first_use t s))) n (λ s b bs. other s b)

  -- so a slot is declared once, with one of the three sorts
  declaration-taken : (s : ℕ) → Takes I (declarations s) (declaration t s)
  unfolding declaration first_use Takes
  declaration-taken s = go (eqb (first_use t s) (terms t)) refl
    where
      go : (e : Bool) → eqb (first_use t s) (terms t) ≡ e → Takes I (declarations s) (cond e [] (declare s (sort_at t (first_use t s)) ∷ []))
      go true e = tt
      go false e =
          let r = first_use t s in
          let within : r ≤ terms t = (first_is (λ j. uses (term_at t j) s) (terms t) r refl).within in
          ((declarations_fresh (input s) s (λ k b. ne_eqb k s (λ same. omega arith)), (w.sound r (omega (arith, eqb-false r (terms t) e))).is_sorted), tt)

  module _ (n : ℕ) (inside : n < terms t) where
    abbrev before : List Binding
    before = read I (declarations 256) (each (definition t) n)

    abbrev x : Term
    x = term_at t n

    -- the definitions below n define no other term
    definitions_fresh : has_name (defined n) before ≡ false
    unfolding definition
    definitions_fresh =
        each-fresh I (defined n) (declarations 256) (declarations_fresh (defined n) 256 (λ s b. refl))
        (λ k. is_variable (term_at t k)) (λ k. define k (sort_at t k) (body t (term_at t k))) n (λ k b bs. ne_eqb k n (λ same. omega arith))

    -- a body has its term's sort
    body-taken : is_variable x ≡ false → TakesBody before (sort_at t n) (body t x)
    unfolding body
    body-taken v = go (is_constant x) refl
      where
        bound : (j : ℕ) → j < n → Bound t before (value_at t I) j
        bound j b = definitions_held limit t w I (declarations 256) (declarations_held limit t w I) n (omega arith) j (omega arith) (λ _. b)

        go : (b : Bool) → is_constant x ≡ b → TakesBody before (sort_at t n) (cond b (constant x.p) (application x.op (map (name t) (operands (fields x) x))))
        go true c = typing_as t n (w.sound n inside) Constant (constant_op x c)
        go false c =
            let (p, q, r) = of-operands t n (w.sound n inside) v c (Bound t before (value_at t I)) bound in
            (operands-taken t before (value_at t I) x p q r (fields x), same_typed t before (value_at t I) x p q r (rank x) (sort_at t n) ∙ typing t n (w.sound n inside))

    -- so a term is defined once, with a body of its sort
    definition-taken : Takes I before (definition t n)
    unfolding definition Takes
    definition-taken = go (is_variable x) refl
      where
        go : (v : Bool) → is_variable x ≡ v → Takes I before (cond v [] (define n (sort_at t n) (body t x) ∷ []))
        go true v = tt
        go false v = ((definitions_fresh, (w.sound n inside).is_sorted, body-taken v), tt)

-- The script of a well-formed table is as SMT-LIB asks.
pub script-taken : ScriptTaken
unfolding script
script-taken limit t w I =
    let some : 0 < terms t = w.some in
    let last : pred (terms t) < terms t = omega arith in
    let asserted = script-held limit t w I (pred (terms t)) last (λ v. last) in
    record {
      commands =
          takes_append I [] (each (declaration t) 256) (each (definition t) (terms t))
          (takes_each I [] (declaration t) 256 (λ s b. declaration-taken limit t w I s))
          (takes_each I (read I [] (each (declaration t) 256)) (definition t) (terms t) (definition-taken limit t w I));
      asserted = asserted.named;
      truth = ap boolean asserted.sort ∙ w.rule;
    }
