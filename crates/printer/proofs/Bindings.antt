-- Names, what they are bound to, and the values of bodies.
-- Assumes nothing.
use mathlib.Core.Path.{◌≡◌, refl, sym, ap, ◌∙◌}
use mathlib.Core.Bool.{Bool, true, false, cond, ◌||◌}
use mathlib.Core.List.{List, [], ◌∷◌, ◌++◌, map}
use Prim.Native.Nat.{ℕ}
use Rattle.ops.specs.Numbers.{op_of}
use Rattle.table.specs.declared.ranks.Fields.{Fields}
use Rattle.table.specs.declared.ranks.Fields.TheVariants.{Value as Literal, Slot, One, Two, Three}
use Rattle.table.specs.declared.words.Sort.{Sort}
use Rattle.table.specs.declared.words.Term.{Term}
use Rattle.table.specs.Terms.{term_at, sort_at}
use Rattle.table.specs.Faults.{fields, is_variable, is_constant}
use Rattle.setting.specs.Interpretation.{Value, Interpretation}
use Rattle.evaluate.specs.Values.{value_by, value_from}
use Rattle.evaluate.proofs.Applied.{SameOperands, applied-value}
use Rattle.printer.specs.Scripts.{Name, Command}
use Rattle.printer.specs.Scripts.Name.{input, defined}
use Rattle.printer.specs.Scripts.Body.{constant, application}
use Rattle.printer.specs.Printed.{name, operands, body}
use Rattle.printer.specs.Meaning.{Binding, same_name, lookup, operand, body_value, bind, read, has_name}
use Rattle.printer.proofs.SoundScripts.{constant_op}

-- Commands are read one after the other
pub read-append : (I : Interpretation) (bs : List Binding) (cs ds : List Command) → read I bs (cs ++ ds) ≡ read I (read I bs cs) ds
unfolding read
read-append I bs [] ds = refl
read-append I bs (c ∷ cs) ds = read-append I (bind I bs c ∷ bs) cs ds

-- A term's name is its slot where it is a variable, else its own number
pub variable_name : (t : List ℕ) (k : ℕ) → is_variable (term_at t k) ≡ true → name t k ≡ input (term_at t k).p
unfolding name
variable_name t k v = ap (λ (b : Bool). cond b (input (term_at t k).p) (defined k)) v

pub defined_name : (t : List ℕ) (k : ℕ) → is_variable (term_at t k) ≡ false → name t k ≡ defined k
unfolding name
defined_name t k v = ap (λ (b : Bool). cond b (input (term_at t k).p) (defined k)) v

-- A name is bound, to this sort and value
pub record Binds (bs : List Binding) (x : Name) (s : Sort) (v : Value) : Type 0 where
  pub named : has_name x bs ≡ true
  pub sort : (lookup bs x).sort ≡ s
  pub value : (lookup bs x).value ≡ v

-- A binding binds its own name, and leaves the others as they were
pub binds_here : (b : Binding) (bs : List Binding) (x : Name) → same_name b.name x ≡ true → Binds (b ∷ bs) x b.sort b.value
unfolding has_name lookup
binds_here b bs x e =
    let found : lookup (b ∷ bs) x ≡ b = ap (λ (h : Bool). cond h b (lookup bs x)) e in
    record { named = ap (λ (h : Bool). h || has_name x bs) e; sort = λ i. (found i).sort; value = λ i. (found i).value }

pub binds_other : (b : Binding) (bs : List Binding) (x : Name) (s : Sort) (v : Value) → same_name b.name x ≡ false → Binds bs x s v → Binds (b ∷ bs) x s v
unfolding has_name lookup
binds_other b bs x s v e h =
    let passed : lookup (b ∷ bs) x ≡ lookup bs x = ap (λ (h : Bool). cond h b (lookup bs x)) e in
    record { named = ap (λ (h : Bool). h || has_name x bs) e ∙ h.named; sort = (λ i. (passed i).sort) ∙ h.sort; value = (λ i. (passed i).value) ∙ h.value }

-- The name of term k is bound to its sort and to its value among v
abbrev pub Bound : List ℕ → List Binding → (ℕ → Value) → ℕ → Type 0
Bound t bs v k = Binds bs (name t k) (sort_at t k) (v k)

-- Bodies: the value is the term's, where its operands are bound

module _ (I : Interpretation) (t : List ℕ) (bs : List Binding) (v : ℕ → Value) (x : Term) where
  module _ (p-bound : Bound t bs v x.p) (q-bound : Bound t bs v x.q) (r-bound : Bound t bs v x.r) where
    -- operand i of a term with these fields: what its name is bound to
    abbrev at : Fields → ℕ → Binding
    at f i = operand bs (map (name t) (operands f x)) i

    same_operands : (f : Fields) → SameOperands v x (sort_at t x.p).n (at f 0).sort.n (λ i. (at f i).value) f
    same_operands Literal = tt
    same_operands Slot = tt
    same_operands One = (λ i. (p-bound.sort i).n, p-bound.value)
    same_operands Two = (λ i. (p-bound.sort i).n, p-bound.value, q-bound.value)
    same_operands Three = (λ i. (p-bound.sort i).n, p-bound.value, q-bound.value, r-bound.value)

  -- a body's value is its term's
  pub body-value : is_variable x ≡ false → (is_constant x ≡ false → Bound t bs v x.p × Bound t bs v x.q × Bound t bs v x.r) → body_value bs (body t x) ≡ value_from t I v x
  unfolding body_value body value_by
  body-value s bound = go (is_constant x) refl
    where
      go : (b : Bool) → is_constant x ≡ b → body_value bs (cond b (constant x.p) (application x.op (map (name t) (operands (fields x) x)))) ≡ value_from t I v x
      go true c = ap (value_by I v (sort_at t x.p).n x) (sym (constant_op x c))
      go false c =
          let (p, q, r) = bound c in
          applied-value v x (sort_at t x.p).n _ _ I (op_of x.op) c s (same_operands p q r (fields x))
