-- A table that is filled from its front, term after term: each term passes 3, 4 and 5, and a variable's slot is its own number, so that 8
-- never applies. What is said of it where it has at most 512 terms.
-- Assumes nothing.
use mathlib.Core.Path.{◌≡◌, refl, sym, ap, ◌∙◌, subst}
use mathlib.Core.Bool.{Bool, true, false, cond}
use mathlib.Core.List.{List, [], ◌∷◌}
use Prim.Native.Nat.{ℕ, zero, suc, ◌+◌, ◌*◌, ◌≤◌, ◌<◌}
use native.Mathlib.Decide.{ℕ_discrete}
use native.Mathlib.Numerals.{add-one}
use native.Mathlib.Omega.{arith}
use lib.Dec.{ltb}
use lib.ListN.{length, get_or, set, length-set}
use lib.Seq.{sets, get_or-set_same, get_or-set_other}
use borrow.Author.Tests.{le-leb, ltb-false}
use Rattle.table.specs.declared.words.Term.{Term}
use Rattle.table.specs.Terms.{word_at, term_at}
use Rattle.table.specs.Faults.{fields, is_variable, known, sorted, placed_as}
use Rattle.table.specs.Code.Writing.{placed}
use Rattle.table.proofs.Places.{length-placed}
use Rattle.parser.specs.Expressions.{more_of}
use Rattle.parser.proofs.Choices.{by_test}

-- Terms that are read and written

pub same-term : (t u : List ℕ) (j k : ℕ) → ((i : ℕ) → i < 6 → word_at t j i ≡ word_at u k i) → term_at t j ≡ term_at u k
same-term t u j k at = λ i. record {
  op = at 0 (omega arith) i;
  sort = record { m = at 1 (omega arith) i; n = at 2 (omega arith) i };
  p = at 3 (omega arith) i;
  q = at 4 (omega arith) i;
  r = at 5 (omega arith) i;
}

-- numbers stored one after the other: what is before them, and they themselves
stored_before : (l : List ℕ) (i : ℕ) (vs : List ℕ) (j : ℕ) → j < i → get_or (sets l i vs) j 0 ≡ get_or l j 0
stored_before l i [] j h = refl
stored_before l i (v ∷ vs) j h = stored_before (set l i v) (suc i) vs j (omega arith) ∙ get_or-set_other l i j v 0 (λ e. omega arith)

stored_at : (l : List ℕ) (i : ℕ) (vs : List ℕ) (j : ℕ) → i + length vs ≤ length l → j < length vs → get_or (sets l i vs) (i + j) 0 ≡ get_or vs j 0
stored_at l i [] j b h = absurd (omega arith)
stored_at l i (v ∷ vs) zero b h =
    let e : i + 0 ≡ i = omega arith in
    rw e (stored_before (set l i v) (suc i) vs i (omega arith) ∙ get_or-set_same l i v 0 (omega arith))
stored_at l i (v ∷ vs) (suc j) b h =
    let e : i + suc j ≡ suc i + j = omega arith in
    rw e (stored_at (set l i v) (suc i) vs j (omega (arith, length-set l i v)) (omega arith))

abbrev six : Term → List ℕ
six x = x.op ∷ x.sort.m ∷ x.sort.n ∷ x.p ∷ x.q ∷ x.r ∷ []

placed_sets : (t : List ℕ) (k : ℕ) (x : Term) → k * 6 + 6 ≤ length t → placed t k x ≡ sets t (k * 6) (six x)
unfolding placed
placed_sets t k x b =
    let two : k * 6 + 2 ≡ suc (suc (k * 6)) = omega arith in
    let three : k * 6 + 3 ≡ suc (suc (suc (k * 6))) = omega arith in
    let four : k * 6 + 4 ≡ suc (suc (suc (suc (k * 6)))) = omega arith in
    let five : k * 6 + 5 ≡ suc (suc (suc (suc (suc (k * 6))))) = omega arith in
    rw (le-leb _ _ b, add-one (k * 6), two, three, four, five)

module _ (t : List ℕ) (k : ℕ) (x : Term) (b : k * 6 + 6 ≤ length t) where
  pub placed_before : (j : ℕ) → j < k → term_at (placed t k x) j ≡ term_at t j
  placed_before j h =
      ap (λ (l : List ℕ). term_at l j) (placed_sets t k x b)
      ∙ same-term (sets t (k * 6) (six x)) t j j (λ i f. stored_before t (k * 6) (six x) (j * 6 + i) (omega arith))

  pub placed-there : term_at (placed t k x) k ≡ x
  placed-there = ap (λ (l : List ℕ). term_at l k) (placed_sets t k x b)
      ∙ same-term (sets t (k * 6) (six x)) (six x) k 0 (λ i f. let e : i ≡ 0 * 6 + i = omega arith in stored_at t (k * 6) (six x) i b f
      ∙ ap (λ (j : ℕ). get_or (six x) j 0) e)

-- What is said of each term

pub record Clean (k : ℕ) (x : Term) : Type 0 where
  pub numbered : known x ≡ true
  pub sorts : sorted x.sort ≡ true
  pub fielded : placed_as (fields x) k x ≡ true
  pub slotted : is_variable x ≡ true → x.p ≡ k

-- c terms, where they are at most 512, names variables among them
pub record Table (names c : ℕ) (room : List ℕ) : Type 0 where
  pub long : length room ≡ 3072
  pub enough : c ≤ 512 → names ≤ c
  pub clean : c ≤ 512 → (k : ℕ) → k < c → Clean k (term_at room k)

-- one term more
pub more_is : (c : ℕ) → more_of c ≤ 512 → (c < 512) × (more_of c ≡ c + 1)
more_is c = go (ltb c 513) refl
  where
    go : (b : Bool) → ltb c 513 ≡ b → cond b (c + 1) c ≤ 512 → (c < 512) × (cond b (c + 1) c ≡ c + 1)
    go true e h = (omega arith, refl)
    go false e h = absurd (omega (arith, ltb-false c 513 e))

pub more_grows : (c : ℕ) → c ≤ more_of c
more_grows c = by_test (λ (n : ℕ). c ≤ n) (ltb c 513) (λ e. omega arith) (λ e. omega arith)

pub more_some : (c : ℕ) → 1 ≤ more_of c
more_some c = by_test (λ (n : ℕ). 1 ≤ n) (ltb c 513) (λ e. omega arith) (λ e. omega (arith, ltb-false c 513 e))

pub one_more_lem : {names c : ℕ} {room : List ℕ} {x : Term} → Table names c room → (c < 512 → Clean c x) → Table names (more_of c) (placed room c x)
one_more_lem {names} {c} {room} {x} t h =
    record {
      long = length-placed room c x ∙ t.long;
      enough = λ i. let (b, e) = more_is c i in omega (arith, t.enough (omega arith));
      clean = λ i k less. let (b, e) = more_is c i in go k b (omega arith) (ℕ_discrete k c);
    }
  where
    go : (k : ℕ) → c < 512 → k < c + 1 → Dec (k ≡ c) → Clean k (term_at (placed room c x) k)
    go k b less (yes e) =
        subst (λ (j : ℕ). Clean j (term_at (placed room c x) j)) (sym e) (subst (Clean c) (sym (placed-there room c x (omega (arith, t.long)))) (h b))
    go k b less (no e) =
        subst (Clean k) (sym (placed_before room c x (omega (arith, t.long)) k (omega arith))) (t.clean (omega arith) k (omega arith))
