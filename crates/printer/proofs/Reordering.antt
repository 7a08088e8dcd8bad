-- Tables that are alike but for the order of their variables and their marks have one script.
-- Assumes nothing.
use mathlib.Core.Path.{◌≡◌, refl, sym, ap, ap₂, ◌∙◌}
use mathlib.Core.Bool.{Bool, true, false, cond}
use mathlib.Core.List.{List, [], ◌∷◌, ◌++◌, map}
use mathlib.Core.Logic.{◌⊎◌, inl, inr}
use Prim.Native.Nat.{ℕ, zero, suc, pred, ◌<◌}
use native.Mathlib.Omega.{arith}
use Rattle.ops.specs.Numbers.{op_of}
use Rattle.smtlib.specs.Bytes.{each}
use Rattle.table.specs.declared.words.Sort.{Sort}
use Rattle.table.specs.declared.words.Term.{Term}
use Rattle.table.specs.Ranks.{immediate, rank_of, fields_of}
use Rattle.table.specs.Terms.{terms, term_at, sort_at}
use Rattle.table.specs.Faults.{fields, is_variable, is_constant}
use Rattle.table.specs.WellFormed.{WellFormed}
use Rattle.printer.specs.Scripts.{Name, Body, Command, script_text}
use Rattle.printer.specs.Scripts.Name.{input, defined}
use Rattle.printer.specs.Scripts.Body.{constant, application}
use Rattle.printer.specs.Scripts.Command.{declare, define}
use Rattle.printer.specs.Printed.{name, operands, body, uses, first_use, declaration, definition, script}
use Rattle.printer.specs.Sharing.{moved, Reordered, without_mark, SameButMarks, MarksUnseen}
use Rattle.printer.proofs.Operands.{Below, placed_below, operands-moved, moved_op, moved_sort, moved-constant, moved_nowhere}
use Rattle.printer.proofs.Marks.{moved-kind, shown, same_kind, same-uses, same_sort_lem, same_whole}
use Rattle.printer.proofs.Uses.{Used, Unused, used_or-not, undeclared, declared}

-- the same lines, the same lists
each_same : {A : Type 0} (f g : ℕ → List A) (n : ℕ) → ((k : ℕ) → k < n → f k ≡ g k) → each f n ≡ each g n
unfolding each
each_same f g zero same = refl
each_same f g (suc n) same = ap₂ ◌++◌ (each_same f g n (λ k h. same k (omega arith))) (same n (omega arith))

-- the same elements, the same lists
map_below : {A : Type 0} (n : ℕ) (g h : ℕ → A) (f : ℕ → ℕ) → ((k : ℕ) → k < n → g (f k) ≡ h k) → (l : List ℕ) → Below n l → map g (map f l) ≡ map h l
map_below n g h f same [] b = refl
map_below n g h f same (k ∷ l) b = ap₂ ◌∷◌ (same k b.0) (map_below n g h f same l b.1)

-- b is a with its variables in another order over the same places, operands following, whatever the marks
pub record Alike (a b : List ℕ) : Type 0 where
  pub to : ℕ → ℕ
  pub back : ℕ → ℕ
  pub count : terms a ≡ terms b
  pub within : (k : ℕ) → k < terms a → to k < terms a
  pub back_within : (k : ℕ) → k < terms a → back k < terms a
  pub to_back : (k : ℕ) → k < terms a → to (back k) ≡ k
  pub fixed : (k : ℕ) → k < terms a → is_variable (term_at a k) ≡ false → to k ≡ k
  pub follows : (k : ℕ) → k < terms a → without_mark (term_at b (to k)) ≡ without_mark (moved to (term_at a k))
  pub last : is_variable (term_at a (pred (terms a))) ≡ true → to (pred (terms a)) ≡ pred (terms a)

module _ {limit : ℕ} (a b : List ℕ) (w : WellFormed limit a) (u : WellFormed limit b) (l : Alike a b) where
  -- what stands at a term's new place
  module _ (k : ℕ) (h : k < terms a) where
    abbrev x : Term
    x = term_at a k

    abbrev y : Term
    y = term_at b (l.to k)

    kind_to : is_variable y ≡ is_variable x
    kind_to = same_kind l.to x y (l.follows k h)

    uses_to : (s : ℕ) → uses y s ≡ uses x s
    uses_to = same-uses l.to x y (l.follows k h)

    sort_to : sort_at b (l.to k) ≡ sort_at a k
    sort_to = same_sort_lem l.to x y (l.follows k h)

    -- it has the term's name
    name_to_lem : name b (l.to k) ≡ name a k
    unfolding name
    name_to_lem =
        shown l.to x y (l.follows k h) named (defined (l.to k)) (λ z. refl) (λ z v. ap (λ (c : Bool). cond c (input z.p) (defined (l.to k))) v)
        ∙ go (is_variable x) refl
      where
        named : Term → Name
        named z = cond (is_variable z) (input z.p) (defined (l.to k))

        go : (v : Bool) → is_variable x ≡ v → cond v (input x.p) (defined (l.to k)) ≡ cond v (input x.p) (defined k)
        go true v = refl
        go false v = ap defined (l.fixed k h v)

    -- a term that is no variable stays, its operands moved
    stays : is_variable x ≡ false → term_at b k ≡ moved l.to x
    stays v = ap (term_at b) (sym (l.fixed k h v)) ∙ same_whole l.to x y (l.follows k h) v

  -- a place that a variable leaves is taken by a variable
  variable_beside : (k : ℕ) → k < terms a → is_variable (term_at a k) ≡ true → is_variable (term_at b k) ≡ true
  variable_beside k h v = ap (λ (i : ℕ). is_variable (term_at b i)) (sym (l.to_back k h)) ∙ kind_to j inside ∙ go (is_variable (term_at a j)) refl
    where
      j : ℕ
      j = l.back k

      inside : j < terms a
      inside = l.back_within k h

      go : (b : Bool) → is_variable (term_at a j) ≡ b → is_variable (term_at a j) ≡ true
      go true e = e
      go false e = ap (λ (i : ℕ). is_variable (term_at a i)) (sym (l.fixed j inside e) ∙ l.to_back k h) ∙ v

  -- a body with its operands moved is printed as it was
  body_to : (z : Term) → Below (terms a) (operands (fields z) z) → body b (moved l.to z) ≡ body a z
  unfolding body
  body_to z below =
      ap (λ (op : ℕ). cond (immediate (op_of op)) (constant (moved l.to z).p) (application op (map (name b) (operands (fields_of (rank_of (op_of op))) (moved l.to z))))) (moved_op (fields z) l.to z)
      ∙ go (is_constant z) refl
    where
      names : map (name b) (operands (fields z) (moved l.to z)) ≡ map (name a) (operands (fields z) z)
      names = ap (map (name b)) (operands-moved (fields z) l.to z) ∙ map_below (terms a) (name b) (name a) l.to name_to_lem (operands (fields z) z) below

      go : (c : Bool) → is_constant z ≡ c
          → cond c (constant (moved l.to z).p) (application z.op (map (name b) (operands (fields z) (moved l.to z)))) ≡ cond c (constant z.p) (application z.op (map (name a) (operands (fields z) z)))
      go true c = ap (λ (y : Term). constant y.p) (moved-constant l.to z c)
      go false c = ap (application z.op) names

  -- so definitions, declarations and the rule are the same
  definition_to : (k : ℕ) → k < terms a → definition b k ≡ definition a k
  unfolding definition
  definition_to k h = go (is_variable (term_at a k)) refl
    where
      line : List ℕ → Term → List Command
      line t z = define k z.sort (body t z) ∷ []

      go : (v : Bool) → is_variable (term_at a k) ≡ v → cond (is_variable (term_at b k)) [] (line b (term_at b k)) ≡ cond v [] (line a (term_at a k))
      go true v = ap (λ (c : Bool). cond c [] (line b (term_at b k))) (variable_beside k h v)
      go false v =
          let z = term_at a k in
          let below : Below (terms a) (operands (fields z) z) = placed_below (fields z) k (terms a) z h (w.sound k h).is_placed in
          ap (λ (y : Term). cond (is_variable y) [] (line b y)) (stays k h v)
          ∙ ap (λ (c : Bool). cond c [] (line b (moved l.to z))) (moved-kind l.to z ∙ v)
          ∙ ap₂ (λ (sort : Sort) (y : Body). define k sort y ∷ []) (moved_sort (fields z) l.to z) (body_to z below)

  declaration_to : (s : ℕ) → declaration b s ≡ declaration a s
  declaration_to s = go (used_or-not a s)
    where
      go : Used a s ⊎ Unused a s → declaration b s ≡ declaration a s
      go (inl here) =
          let k = first_use a s in
          let h : k < terms a = here.inside in
          let inside : l.to k < terms b = omega (arith, l.within k h, l.count) in
          declared b s u (l.to k) inside (uses_to k h s ∙ here.used)
          ∙ ap (λ (sort : Sort). declare s sort ∷ []) (sort_to k h)
          ∙ sym (declared a s w k h here.used)
      go (inr none) = undeclared b s unused ∙ sym (undeclared a s none)
        where
          unused : Unused b s
          unused k inside =
              let h : k < terms a = omega (arith, l.count) in
              let back : l.back k < terms a = l.back_within k h in
              ap (λ (i : ℕ). uses (term_at b i) s) (sym (l.to_back k h)) ∙ uses_to (l.back k) back s ∙ none (l.back k) back

  -- a variable that is the rule stays last
  last_to : name b (pred (terms b)) ≡ name a (pred (terms a))
  last_to = ap (λ (n : ℕ). name b (pred n)) (sym l.count) ∙ ap (name b) (sym (fixed (is_variable (term_at a (pred (terms a)))) refl)) ∙ name_to_lem (pred (terms a)) inside
    where
      inside : pred (terms a) < terms a
      inside = omega (arith, w.some)

      fixed : (v : Bool) → is_variable (term_at a (pred (terms a))) ≡ v → l.to (pred (terms a)) ≡ pred (terms a)
      fixed true v = l.last v
      fixed false v = l.fixed (pred (terms a)) inside v

  -- alike tables have one script
  pub alike_script : script a ≡ script b
  unfolding script
  alike_script =
      let slots : each (declaration b) 256 ≡ each (declaration a) 256 = each_same (declaration b) (declaration a) 256 (λ s h. declaration_to s) in
      let lines : each (definition b) (terms b) ≡ each (definition a) (terms a) = ap (each (definition b)) (sym l.count) ∙ each_same (definition b) (definition a) (terms a) definition_to in
      sym (λ i. record { commands = slots i ++ lines i; asserted = last_to i })

-- reordered tables are alike
pub reordered_alike : {a b : List ℕ} → Reordered a b → Alike a b
reordered_alike r =
    record {
      to = r.to;
      back = r.back;
      count = r.count;
      within = r.within;
      back_within = r.back_within;
      to_back = r.to_back;
      fixed = r.fixed;
      follows = λ k h. ap without_mark (r.follows k h);
      last = r.last;
    }

-- and tables that differ in marks alone
same_alike : {a b : List ℕ} → SameButMarks a b → Alike a b
same_alike {a} s =
    record {
      to = λ k. k;
      back = λ k. k;
      count = s.count;
      within = λ k h. h;
      back_within = λ k h. h;
      to_back = λ k h. refl;
      fixed = λ k h v. refl;
      follows = λ k h. sym (s.each_term k h) ∙ ap without_mark (sym (moved_nowhere (fields (term_at a k)) (term_at a k)));
      last = λ v. refl;
    }

-- marks leave no trace
pub marks_unseen : MarksUnseen
marks_unseen a b w u s = ap script_text (alike_script a b w u (same_alike s))
