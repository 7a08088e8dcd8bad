-- From one script of two tables: the same declarations, the same definitions, the same rule.
-- Assumes nothing.
use mathlib.Core.Path.{◌≡◌, refl, sym, ap, ap₂, ◌∙◌}
use mathlib.Core.Bool.{Bool, true, false, cond}
use mathlib.Core.List.{List, [], ◌∷◌, ◌++◌, append-nil, cons-ne-nil}
use Prim.Native.Nat.{ℕ, zero, suc, pred, ◌≤◌, ◌<◌}
use native.Mathlib.Decide.{dec_lt, ℕ_discrete}
use native.Mathlib.Omega.{arith}
use lib.Dec.{eqb}
use borrow.Author.Tests.{eq-eqb, ne_eqb}
use Rattle.smtlib.specs.Bytes.{each}
use Rattle.table.specs.Terms.{terms, term_at, sort_at}
use Rattle.table.specs.Faults.{is_variable}
use Rattle.printer.specs.Scripts.{Command, Script}
use Rattle.printer.specs.Scripts.Command.{declare, define}
use Rattle.printer.specs.Printed.{name, body, first_use, declaration, definition, script}

-- the elements that pass a test
pick : {A : Type 0} → (A → Bool) → List A → List A
pick test [] = []
pick test (x ∷ l) = cond (test x) (x ∷ pick test l) (pick test l)

module _ {A : Type 0} (test : A → Bool) where
  -- from two lists in a row
  pick_append : (l m : List A) → pick test (l ++ m) ≡ pick test l ++ pick test m
  unfolding pick
  pick_append [] m = refl
  pick_append (x ∷ l) m = go (test x) (pick_append l m)
    where
      go : (b : Bool) → pick test (l ++ m) ≡ pick test l ++ pick test m → cond b (x ∷ pick test (l ++ m)) (pick test (l ++ m)) ≡ cond b (x ∷ pick test l) (pick test l) ++ pick test m
      go true e = ap (λ (r : List A). x ∷ r) e
      go false e = e

  module _ (f : ℕ → List A) where
    -- from lines of which none passes, nothing
    none-picked : (n : ℕ) → ((j : ℕ) → j < n → pick test (f j) ≡ []) → pick test (each f n) ≡ []
    unfolding each pick
    none-picked zero h = refl
    none-picked (suc n) h = pick_append (each f n) (f n) ∙ ap₂ ◌++◌ (none-picked n (λ j b. h j (omega arith))) (h n (omega arith))

    -- where no line but line k passes, what passes of it
    one_picked : (k : ℕ) → ((j : ℕ) → (j ≡ k → ⊥) → pick test (f j) ≡ []) → (n : ℕ) → k < n → pick test (each f n) ≡ pick test (f k)
    unfolding each pick
    one_picked k h zero b = absurd (omega arith)
    one_picked k h (suc n) b = pick_append (each f n) (f n) ∙ go (ℕ_discrete n k) (one_picked k h n)
      where
        go : Dec (n ≡ k) → (k < n → pick test (each f n) ≡ pick test (f k)) → pick test (each f n) ++ pick test (f n) ≡ pick test (f k)
        go (yes e) before = ap₂ ◌++◌ (none-picked n (λ j l. h j (λ d. omega arith))) (ap (λ (i : ℕ). pick test (f i)) e)
        go (no e) before = ap₂ ◌++◌ (before (omega arith)) (h n e) ∙ append-nil (pick test (f k))

-- the declaration of slot s, the definition of term k

abbrev declares : ℕ → Command → Bool
declares s (declare r sort) = eqb r s
declares s (define k sort body) = false

abbrev defines : ℕ → Command → Bool
defines k (declare s sort) = false
defines k (define j sort body) = eqb j k

-- a line of one command or none is picked as it stands, or not at all
one_kept : {A : Type 0} (test : A → Bool) (b : Bool) (x : A) → test x ≡ true → pick test (cond b [] (x ∷ [])) ≡ cond b [] (x ∷ [])
unfolding pick
one_kept test true x e = refl
one_kept test false x e = rw e

one_left : {A : Type 0} (test : A → Bool) (b : Bool) (x : A) → test x ≡ false → pick test (cond b [] (x ∷ [])) ≡ []
unfolding pick
one_left test true x e = refl
one_left test false x e = rw e

module _ (t : List ℕ) where
  abbrev slot_line : ℕ → Command
  slot_line s = declare s (sort_at t (first_use t s))

  abbrev term_line : ℕ → Command
  term_line k = define k (sort_at t k) (body t (term_at t k))

  -- a test that is false of a line's command picks nothing from it
  module _ (test : Command → Bool) where
    no_slot : (s : ℕ) → test (slot_line s) ≡ false → pick test (declaration t s) ≡ []
    unfolding declaration
    no_slot s e = one_left test (eqb (first_use t s) (terms t)) (slot_line s) e

    no-term : (k : ℕ) → test (term_line k) ≡ false → pick test (definition t k) ≡ []
    unfolding definition
    no-term k e = one_left test (is_variable (term_at t k)) (term_line k) e

    -- a script's commands are its declarations and its definitions
    picked : pick test (script t).commands ≡ pick test (each (declaration t) 256) ++ pick test (each (definition t) (terms t))
    unfolding script
    picked = pick_append test (each (declaration t) 256) (each (definition t) (terms t))

  -- what declares slot s in a script is its declaration
  declaration-picked : (s : ℕ) → s < 256 → pick (declares s) (script t).commands ≡ declaration t s
  unfolding declaration
  declaration-picked s h =
      picked (declares s)
      ∙ ap₂ ◌++◌
      (one_picked (declares s) (declaration t) s (λ r e. no_slot (declares s) r (ne_eqb r s e)) 256 h ∙ one_kept (declares s) (eqb (first_use t s) (terms t)) (slot_line s) (eq-eqb s s refl))
      (none-picked (declares s) (definition t) (terms t) (λ k b. no-term (declares s) k refl))
      ∙ append-nil (declaration t s)

  module _ (k : ℕ) where
    -- what defines term k in a script is its definition, and past the last term nothing
    definitions_picked : pick (defines k) (script t).commands ≡ pick (defines k) (each (definition t) (terms t))
    definitions_picked =
        picked (defines k)
        ∙ ap (λ (l : List Command). l ++ pick (defines k) (each (definition t) (terms t))) (none-picked (defines k) (declaration t) 256 (λ s b. no_slot (defines k) s refl))

    others : (j : ℕ) → (j ≡ k → ⊥) → pick (defines k) (definition t j) ≡ []
    others j e = no-term (defines k) j (ne_eqb j k e)

    definition-picked : k < terms t → pick (defines k) (script t).commands ≡ definition t k
    unfolding definition
    definition-picked h = definitions_picked ∙ one_picked (defines k) (definition t) k others (terms t) h ∙ one_kept (defines k) (is_variable (term_at t k)) (term_line k) (eq-eqb k k refl)

    nothing-picked : terms t ≤ k → pick (defines k) (script t).commands ≡ []
    nothing-picked h = definitions_picked ∙ none-picked (defines k) (definition t) (terms t) (λ j b. others j (λ e. omega arith))

-- where a and b have one script
module _ (a b : List ℕ) (e : script a ≡ script b) where
  -- a slot is declared in both or in neither, with one sort
  pub same-declaration : (s : ℕ) → s < 256 → declaration a s ≡ declaration b s
  same-declaration s h = sym (declaration-picked a s h) ∙ ap (λ (x : Script). pick (declares s) x.commands) e ∙ declaration-picked b s h

  -- the rule has one name
  pub same_rule : name a (pred (terms a)) ≡ name b (pred (terms b))
  unfolding script
  same_rule = ap (λ (x : Script). x.asserted) e

  -- a term that is no variable is defined in b, at its number
  pub record Beside (k : ℕ) : Type 0 where
    pub inside : k < terms b
    pub other : is_variable (term_at b k) ≡ false
    pub sorts : sort_at a k ≡ sort_at b k
    pub bodies : body a (term_at a k) ≡ body b (term_at b k)

  pub beside : (k : ℕ) → k < terms a → is_variable (term_at a k) ≡ false → Beside k
  unfolding definition
  beside k h v = go (dec_lt k (terms b))
    where
      here : term_line a k ∷ [] ≡ pick (defines k) (script b).commands
      here = ap (λ (c : Bool). cond c [] (term_line a k ∷ [])) (sym v) ∙ sym (definition-picked a k h) ∙ ap (λ (x : Script). pick (defines k) x.commands) e

      told : k < terms b → (c : Bool) → is_variable (term_at b k) ≡ c → term_line a k ∷ [] ≡ cond c [] (term_line b k ∷ []) → Beside k
      told inside true o d = absurd (cons-ne-nil (term_line a k) [] d)
      told inside false o d = record { inside = inside; other = o; sorts = cc; bodies = cc }

      go : Dec (k < terms b) → Beside k
      go (yes l) = told l (is_variable (term_at b k)) refl (here ∙ definition-picked b k l)
      go (no l) = absurd (cons-ne-nil (term_line a k) [] (here ∙ nothing-picked b k (omega arith)))
