-- Tables that share text are reordered ones: the theorem of Req 01, both directions.
-- Assumes nothing.
use mathlib.Core.Path.{◌≡◌, refl, sym, ap, ap₂, ◌∙◌}
use mathlib.Core.Bool.{Bool, true, false, cond}
use mathlib.Core.List.{List, [], ◌∷◌, map, cons-ne-nil}
use mathlib.Core.Logic.{◌⊎◌, inl, inr}
use Prim.Native.Nat.{ℕ, suc, pred, ◌≤◌, ◌<◌}
use native.Mathlib.Omega.{arith}
use Rattle.ops.proofs.Booleans.{never}
use Rattle.table.specs.declared.words.Term.{Term}
use Rattle.table.specs.Terms.{terms, term_at, sort_at}
use Rattle.table.specs.Faults.{fields, is_variable, is_constant}
use Rattle.table.specs.WellFormed.{WellFormed}
use Rattle.table.proofs.Pigeonhole.{pigeonhole}
use Rattle.table.proofs.SoundTerms.{slot-most}
use Rattle.printer.specs.Scripts.{Name, Body, script_text}
use Rattle.printer.specs.Scripts.Name.{input, defined}
use Rattle.printer.specs.Scripts.Body.{constant, application}
use Rattle.printer.specs.Scripts.Command.{declare}
use Rattle.printer.specs.Printed.{name, operands, body, first_use, declaration, script}
use Rattle.printer.specs.Sharing.{moved, Unmarked, UsedOnce, Reordered, SharedText}
use Rattle.printer.proofs.Readings.{one_reading}
use Rattle.printer.proofs.SoundScripts.{script-sound}
use Rattle.printer.proofs.Operands.{variable_number_lem, constant_number, Below, placed_below, moved_is}
use Rattle.printer.proofs.Uses.{use_parts, use_of, Used, Unused, used_or-not, only_use, undeclared, declared}
use Rattle.printer.proofs.Reordering.{alike_script, reordered_alike}
use Rattle.printer.proofs.Agreeing.{same-declaration, same_rule, beside}

-- what the theorem asks of a table
pub record Premises (t : List ℕ) : Type 0 where
  pub whole : WellFormed 80000 t
  pub unmarked : Unmarked t
  pub once : UsedOnce t

-- the number that follows a variable to its slot in b, and leaves the others
move : List ℕ → List ℕ → ℕ → ℕ
move a b k = cond (is_variable (term_at a k)) (first_use b (term_at a k).p) k

module _ (a b : List ℕ) (k : ℕ) where
  move_variable : is_variable (term_at a k) ≡ true → move a b k ≡ first_use b (term_at a k).p
  unfolding move
  move_variable v = ap (λ (c : Bool). cond c (first_use b (term_at a k).p) k) v

  move_other : is_variable (term_at a k) ≡ false → move a b k ≡ k
  unfolding move
  move_other v = ap (λ (c : Bool). cond c (first_use b (term_at a k).p) k) v

-- names and bodies are of two kinds
abbrev is_input : Name → Bool
is_input (input s) = true
is_input (defined k) = false

abbrev is_value : Body → Bool
is_value (constant v) = true
is_value (application op xs) = false

module _ (a b : List ℕ) (once : UsedOnce b) where
  -- a name in a and b is of one term, moved
  name-told : (p q : ℕ) → q < terms b → name a p ≡ name b q → move a b p ≡ q
  unfolding name move
  name-told p q h = go (is_variable (term_at a p)) (is_variable (term_at b q)) refl
    where
      x : Term
      x = term_at a p

      y : Term
      y = term_at b q

      go : (v u : Bool) → is_variable y ≡ u → cond v (input x.p) (defined p) ≡ cond u (input y.p) (defined q) → cond v (first_use b x.p) p ≡ q
      go true true e d = only_use b x.p once q h (use_of y x.p e (cc))
      go true false e d = never (sym (ap is_input d))
      go false true e d = never (ap is_input d)
      go false false e d = cc

  -- names in a and b are of the same terms, moved
  names-told : (xs ys : List ℕ) → Below (terms b) ys → map (name a) xs ≡ map (name b) ys → map (move a b) xs ≡ ys
  names-told [] [] l e = refl
  names-told [] (q ∷ ys) l e = absurd (cons-ne-nil (name b q) (map (name b) ys) (sym e))
  names-told (p ∷ xs) [] l e = absurd (cons-ne-nil (name a p) (map (name a) xs) e)
  names-told (p ∷ xs) (q ∷ ys) l e = ap₂ ◌∷◌ (name-told p q l.0 (cc)) (names-told xs ys l.1 (cc))

-- terms of one body have one operator, one value, operands of one name
record SameBody (a b : List ℕ) (x y : Term) : Type 0 where
  op : x.op ≡ y.op
  value : is_constant x ≡ true → x.p ≡ y.p
  names : is_constant x ≡ false → map (name a) (operands (fields x) x) ≡ map (name b) (operands (fields y) y)

body-told : (a b : List ℕ) (x y : Term) → body a x ≡ body b y → SameBody a b x y
unfolding body
body-told a b x y = go (is_constant x) refl (is_constant y) refl
  where
    xs : List Name
    xs = map (name a) (operands (fields x) x)

    ys : List Name
    ys = map (name b) (operands (fields y) y)

    go : (c : Bool) → is_constant x ≡ c → (d : Bool) → is_constant y ≡ d
        → cond c (constant x.p) (application x.op xs) ≡ cond d (constant y.p) (application y.op ys) → SameBody a b x y
    go true c true d e = record { op = constant_number x c ∙ sym (constant_number y d); value = λ k. (cc); names = λ k. never (sym k ∙ c) }
    go true c false d e = never (sym (ap is_value e))
    go false c true d e = never (ap is_value e)
    go false c false d e = record { op = cc; value = λ k. never (sym c ∙ k); names = λ k. (cc) }

-- where a and b have one script, of a term of a
module _ (a b : List ℕ) (pa : Premises a) (pb : Premises b) (e : script a ≡ script b) (k : ℕ) (h : k < terms a) where
  abbrev x : Term
  x = term_at a k

  -- a variable's slot is used in b, with its sort
  record There : Type 0 where
    used : Used b x.p
    sorts : sort_at a k ≡ sort_at b (first_use b x.p)

  there : is_variable x ≡ true → There
  there v = go (used_or-not b s)
    where
      s : ℕ
      s = x.p

      here : declare s (sort_at a k) ∷ [] ≡ declaration b s
      here =
          let low : s ≤ 255 = slot-most a k (pa.whole.sound k h) v in
          sym (declared a s pa.whole k h (use_of x s v refl)) ∙ same-declaration a b e s (omega arith)

      go : Used b s ⊎ Unused b s → There
      go (inl u) =
          let is : declare s (sort_at a k) ∷ [] ≡ declare s (sort_at b (first_use b s)) ∷ [] = here ∙ declared b s pb.whole (first_use b s) u.inside u.used in
          record { used = u; sorts = cc }
      go (inr none) = absurd (cons-ne-nil (declare s (sort_at a k)) [] (here ∙ undeclared b s none))

  -- it moves to a term of b
  move_within : move a b k < terms b
  move_within = go (is_variable x) refl
    where
      go : (v : Bool) → is_variable x ≡ v → move a b k < terms b
      go true v = omega (arith, move_variable a b k v, (there v).used.inside)
      go false v = omega (arith, move_other a b k v, (beside a b e k h v).inside)

  -- and from there back
  move_back : move b a (move a b k) ≡ k
  move_back = go (is_variable x) refl
    where
      go : (v : Bool) → is_variable x ≡ v → move b a (move a b k) ≡ k
      go true v =
          let j = first_use b x.p in
          let (u, p) = use_parts (term_at b j) x.p (there v).used.used in
          ap (move b a) (move_variable a b k v) ∙ move_variable b a j u ∙ ap (first_use a) p ∙ only_use a x.p pa.once k h (use_of x x.p v refl)
      go false v = ap (move b a) (move_other a b k v) ∙ move_other b a k (beside a b e k h v).other

  -- the term there is this one, its operands moved
  follows : term_at b (move a b k) ≡ moved (move a b) x
  follows = go (is_variable x) refl
    where
      go : (v : Bool) → is_variable x ≡ v → term_at b (move a b k) ≡ moved (move a b) x
      go true v =
          let j = first_use b x.p in
          let y = term_at b j in
          let t = there v in
          let l : j < terms b = t.used.inside in
          let (u, p) = use_parts y x.p t.used.used in
          ap (term_at b) (move_variable a b k v)
          ∙ sym
          (moved_is (move a b) k j x y (variable_number_lem x v ∙ sym (variable_number_lem y u)) t.sorts (pa.whole.sound k h).is_placed (pb.whole.sound j l).is_placed
          (λ c. (sym p, pa.unmarked k h v ∙ sym (pb.unmarked j l u))) (λ c. sym p) (λ c d. never (sym c ∙ v)))
      go false v =
          let y = term_at b k in
          let t = beside a b e k h v in
          let same = body-told a b x y t.bodies in
          let placed = (pb.whole.sound k t.inside).is_placed in
          let below : Below (terms b) (operands (fields y) y) = placed_below (fields y) k (terms b) y t.inside placed in
          ap (term_at b) (move_other a b k v)
          ∙ sym
          (moved_is (move a b) k k x y same.op t.sorts (pa.whole.sound k h).is_placed placed
          (λ c. never (sym v ∙ c)) same.value (λ c d. names-told a b pb.once (operands (fields x) x) (operands (fields y) y) below (same.names d)))

-- so b has as many terms at least
fewer : (a b : List ℕ) → Premises a → Premises b → script a ≡ script b → terms a ≤ terms b
fewer a b pa pb e =
    let m = move a b in
    let below : (k : ℕ) → k < terms a → m k < terms b = λ k h. move_within a b pa pb e k h in
    let back : (k : ℕ) → k < terms a → move b a (m k) ≡ k = λ k h. move_back a b pa pb e k h in
    let less : terms a < suc (terms b) =
    pigeonhole (suc (terms b)) (terms a) (terms b) m (omega arith) (λ k h. omega (arith, below k h)) (λ k h d. omega (arith, below k h))
    (λ k h j l d. let same : j ≡ k = sym (back j (omega arith)) ∙ ap (move b a) d ∙ back k h in omega arith) in
    omega arith

-- and is a reordered
reordered : (a b : List ℕ) → Premises a → Premises b → script a ≡ script b → Reordered a b
reordered a b pa pb e =
    let n : terms a ≡ terms b = omega (arith, fewer a b pa pb e, fewer b a pb pa (sym e)) in
    let inside : pred (terms b) < terms b = omega (arith, pb.whole.some) in
    let last : move a b (pred (terms a)) ≡ pred (terms b) = name-told a b pb.once (pred (terms a)) (pred (terms b)) inside (same_rule a b e) in
    record {
      to = move a b;
      back = move b a;
      count = n;
      within = λ k h. omega (arith, move_within a b pa pb e k h);
      back_within = λ k h. omega (arith, move_within b a pb pa (sym e) k (omega arith));
      back_to = λ k h. move_back a b pa pb e k h;
      to_back = λ k h. move_back b a pb pa (sym e) k (omega arith);
      fixed = λ k h v. move_other a b k v;
      follows = λ k h. follows a b pa pb e k h;
      last = λ v. last ∙ ap pred (sym n);
    }

-- The theorem: a text is read in one way, so tables that share text have one script.
pub shared_text : SharedText
shared_text a b w u marks unmarked once single =
    let pa : Premises a = record { whole = w; unmarked = marks; once = once } in
    let pb : Premises b = record { whole = u; unmarked = unmarked; once = single } in
    (λ e. reordered a b pa pb (one_reading (script a) (script b) (script-sound 80000 a w) (script-sound 80000 b u) e), λ r. ap script_text (alike_script a b w u (reordered_alike r)))
