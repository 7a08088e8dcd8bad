-- What a solver reads in a table's script is the rule: after the declarations every variable's name, and after each definition
-- the defined name too, is bound to its term's sort and value.
-- Assumes nothing.
use mathlib.Core.Path.{◌≡◌, refl, sym, ap, subst, ◌∙◌}
use mathlib.Core.Bool.{Bool, true, false, cond}
use mathlib.Core.List.{List, [], ◌∷◌}
use Prim.Native.Nat.{ℕ, zero, suc, pred, ◌≤◌, ◌<◌}
use native.Mathlib.Decide.{ℕ_discrete}
use native.Mathlib.Nat.{not-suc-le-zero}
use native.Mathlib.Omega.{arith}
use lib.Dec.{eqb}
use borrow.Author.Tests.{eqb-true, eq-eqb, ne_eqb}
use Rattle.ops.specs.Numbers.{op_of}
use Rattle.ops.proofs.Booleans.{never, and_parts}
use Rattle.smtlib.specs.Bytes.{each}
use Rattle.table.specs.declared.words.Sort.{Sort}
use Rattle.table.specs.Terms.{terms, term_at, sort_at}
use Rattle.table.specs.Faults.{is_variable, is_constant}
use Rattle.table.specs.WellFormed.{Sound, WellFormed}
use Rattle.table.proofs.Admitted.{slots_have_one_use}
use Rattle.table.proofs.OperandSorts.{operands-placed}
use Rattle.table.proofs.Searches.{first_is}
use Rattle.table.proofs.SoundTerms.{slot-most}
use Rattle.setting.specs.Interpretation.{Interpretation}
use Rattle.evaluate.specs.Values.{value_by, value_in, values, value_at}
use Rattle.evaluate.specs.Applied.{input_value}
use Rattle.evaluate.proofs.Folds.{value-below}
use Rattle.printer.specs.Scripts.{Name}
use Rattle.printer.specs.Scripts.Name.{input, defined}
use Rattle.printer.specs.Scripts.Command.{declare, define}
use Rattle.printer.specs.Printed.{name, body, uses, first_use, declaration, definition, script}
use Rattle.printer.specs.Meaning.{Binding, same_name, body_value, bind, read, ScriptMeansRule}
use Rattle.printer.proofs.SoundScripts.{variable_op}
use Rattle.printer.proofs.Bindings.{read-append, variable_name, defined_name, Binds, binds_here, binds_other, Bound, body-value}

-- The first variable of a variable's slot: there is one, of the same sort
pub first_use_lem : (limit : ℕ) (t : List ℕ) → WellFormed limit t → (k : ℕ) → k < terms t → is_variable (term_at t k) ≡ true → (first_use t (term_at t k).p < terms t) × (sort_at t (first_use t (term_at t k).p) ≡ sort_at t k)
unfolding first_use
first_use_lem limit t w k b v =
    let s = (term_at t k).p in
    let r = first_use t s in
    let search = first_is (λ j. uses (term_at t j) s) (terms t) r refl in
    let itself : uses (term_at t k) s ≡ true = rw (v, eq-eqb s s refl) in
    let not-past : terms t ≤ r → ⊥ = λ past. never (sym (search.before k (omega arith)) ∙ itself) in
    let inside : r < terms t = omega (arith, not-past) in
    let (v', e) = and_parts (is_variable (term_at t r)) (eqb (term_at t r).p s) (search.found inside) in
    (inside, (slots_have_one_use limit t w r k inside b v' v (eqb-true (term_at t r).p s e)).0)

module _ (t : List ℕ) (I : Interpretation) where
  -- the sort and the value that a used slot is declared with
  abbrev Declared : List Binding → ℕ → Type 0
  Declared bs s = Binds bs (input s) (sort_at t (first_use t s)) (input_value (sort_at t (first_use t s)) (I s))

  -- after the declarations below n every used slot below n is bound so
  declared-held : (n s : ℕ) → s < n → (first_use t s ≡ terms t → ⊥) → Declared (read I [] (each (declaration t) n)) s
  unfolding each read declaration
  declared-held zero s b used = absurd (not-suc-le-zero b)
  declared-held (suc n) s b used =
      subst (λ (bs : List Binding). Declared bs s) (sym (read-append I [] (each (declaration t) n) (declaration t n)))
      (go (eqb (first_use t n) (terms t)) refl (ℕ_discrete n s) (λ c. declared-held n s c used))
    where
      before : List Binding
      before = read I [] (each (declaration t) n)

      new : Binding
      new = bind I before (declare n (sort_at t (first_use t n)))

      go : (e : Bool) → eqb (first_use t n) (terms t) ≡ e → Dec (n ≡ s) → (s < n → Declared before s)
          → Declared (read I before (cond e [] (declare n (sort_at t (first_use t n)) ∷ []))) s
      go true e (yes same) was = absurd (used (ap (first_use t) (sym same) ∙ eqb-true (first_use t n) (terms t) e))
      go true e (no apart) was = was (omega arith)
      go false e (yes same) was = subst (Declared (new ∷ before)) same (binds_here new before (input n) (eq-eqb n n refl))
      go false e (no apart) was = binds_other new before (input s) _ _ (ne_eqb n s apart) (was (omega arith))

-- What holds of every term below n holds of term n's operands
pub of-operands : (t : List ℕ) (n : ℕ) → Sound t n → is_variable (term_at t n) ≡ false → is_constant (term_at t n) ≡ false → (P : ℕ → Type 0) → ((j : ℕ) → j < n → P j)
    → P (term_at t n).p × P (term_at t n).q × P (term_at t n).r
of-operands t n sound v c P below =
    let (p, q, r) = operands-placed (op_of (term_at t n).op) n (term_at t n) sound.is_placed c v in
    (below (term_at t n).p p, below (term_at t n).q q, below (term_at t n).r r)

-- After the declarations, and after each definition

module _ (limit : ℕ) (t : List ℕ) (w : WellFormed limit t) (I : Interpretation) where
  -- every variable and every other term below n is bound
  abbrev pub Held : ℕ → List Binding → Type 0
  Held n bs = (k : ℕ) → k < terms t → (is_variable (term_at t k) ≡ false → k < n) → Bound t bs (value_at t I) k

  -- a definition gives its term's value
  defined_value : (n : ℕ) (bs : List Binding) → n < terms t → is_variable (term_at t n) ≡ false → Held n bs → body_value bs (body t (term_at t n)) ≡ value_at t I n
  defined_value n bs inside s held = body-value I t bs (value_in (values t I n)) (term_at t n) s (λ c. of-operands t n (w.sound n inside) s c (Bound t bs (value_in (values t I n))) below)
    where
      below : (j : ℕ) → j < n → Bound t bs (value_in (values t I n)) j
      below j b =
          let h = held j (omega arith) (λ _. b) in
          record { named = h.named; sort = h.sort; value = h.value ∙ sym (value-below t I n j b) }

  -- so it is bound, and what was bound stays
  define_held : (n : ℕ) (bs : List Binding) → n < terms t → is_variable (term_at t n) ≡ false → Held n bs → Held (suc n) (bind I bs (define n (sort_at t n) (body t (term_at t n))) ∷ bs)
  define_held n bs inside s held k b old = go (ℕ_discrete n k)
    where
      new : Binding
      new = bind I bs (define n (sort_at t n) (body t (term_at t n)))

      other : (n ≡ k → ⊥) → (v : Bool) → is_variable (term_at t k) ≡ v → same_name (defined n) (name t k) ≡ false
      other apart true v = ap (same_name (defined n)) (variable_name t k v)
      other apart false v = ap (same_name (defined n)) (defined_name t k v) ∙ ne_eqb n k apart

      go : Dec (n ≡ k) → Bound t (new ∷ bs) (value_at t I) k
      go (yes e) =
          let here : same_name (defined n) (name t n) ≡ true = ap (same_name (defined n)) (defined_name t n s) ∙ eq-eqb n n refl in
          let found = binds_here new bs (name t n) here in
          subst (Bound t (new ∷ bs) (value_at t I)) e (record { named = found.named; sort = found.sort; value = found.value ∙ defined_value n bs inside s held })
      go (no apart) = binds_other new bs (name t k) _ _ (other apart (is_variable (term_at t k)) refl) (held k b (λ v. omega (arith, old v, apart)))

  -- after the definitions below n every variable and every other term below n is bound
  pub definitions_held : (bs : List Binding) → Held 0 bs → (n : ℕ) → n ≤ terms t → Held n (read I bs (each (definition t) n))
  unfolding each read definition
  definitions_held bs held zero b = held
  definitions_held bs held (suc n) b =
      subst (Held (suc n)) (sym (read-append I bs (each (definition t) n) (definition t n))) (go (is_variable (term_at t n)) refl (definitions_held bs held n (omega arith)))
    where
      go : (v : Bool) → is_variable (term_at t n) ≡ v → Held n (read I bs (each (definition t) n))
          → Held (suc n) (read I (read I bs (each (definition t) n)) (cond v [] (define n (sort_at t n) (body t (term_at t n)) ∷ [])))
      go true v was =
          let apart : (k : ℕ) → is_variable (term_at t k) ≡ false → n ≡ k → ⊥ = λ k z e. never (sym z ∙ ap (λ (j : ℕ). is_variable (term_at t j)) (sym e) ∙ v) in
          λ k c old. was k c (λ z. omega (arith, old z, apart k z))
      go false v was = define_held n (read I bs (each (definition t) n)) (omega arith) v was

  -- after the declarations every variable is bound
  pub declarations_held : Held 0 (read I [] (each (declaration t) 256))
  unfolding value_by
  declarations_held k b old = go (is_variable (term_at t k)) refl
    where
      bs : List Binding
      bs = read I [] (each (declaration t) 256)

      go : (v : Bool) → is_variable (term_at t k) ≡ v → Bound t bs (value_at t I) k
      go true v =
          let s = (term_at t k).p in
          let (inside, one_sort) = first_use_lem limit t w k b v in
          let found = declared-held t I 256 s (omega (arith, slot-most t k (w.sound k b) v)) (λ e. omega arith) in
          let value : input_value (sort_at t (first_use t s)) (I s) ≡ value_at t I k =
          ap (λ (z : Sort). input_value z (I s)) one_sort ∙ ap (value_by I (value_in (values t I k)) (sort_at t s).n (term_at t k)) (sym (variable_op (term_at t k) v)) in
          subst (λ (x : Name). Binds bs x (sort_at t k) (value_at t I k)) (sym (variable_name t k v))
          (record { named = found.named; sort = found.sort ∙ one_sort; value = found.value ∙ value })
      go false v = absurd (not-suc-le-zero (old v))

  -- so after the script every term is
  pub script-held : Held (terms t) (read I [] (script t).commands)
  unfolding script
  script-held =
      subst (Held (terms t)) (sym (read-append I [] (each (declaration t) 256) (each (definition t) (terms t))))
      (definitions_held (read I [] (each (declaration t) 256)) declarations_held (terms t) (omega arith))

-- The asserted value is the rule's, in every interpretation.
pub script_means_rule : ScriptMeansRule
unfolding script
script_means_rule limit t w I =
    let some : 0 < terms t = w.some in
    let last : pred (terms t) < terms t = omega arith in
    (script-held limit t w I (pred (terms t)) last (λ v. last)).value
